-- What a call leaves in a buffer and in the count beside it.
use Rattle.std.specs.Prelude.{◌≡◌, ◌≢◌, ℕ, if◌then◌else◌, List, length, nat_le, Option, None, IfSome}
use Rattle.buffers.specs.Filled.{put_into}
use Rattle.qbf_c.specs.Codes.{accepted, no_engine, no_memory, short}

-- they are as they were
abbrev pub AreLeft : {A : Type 0} → List A → List A → ℕ → ℕ → Type 0
AreLeft old new before now = (new ≡ old) × (now ≡ before)

-- The buffer has these values in its front, or it has less room than they want. Either way the count tells how many
-- they are.
pub record IsPut {A : Type 0} (values old new : List A) (count code : ℕ) : Type 0 where
  pub answer : code ≡ (if nat_le (length values) (length old) then accepted else short)
  pub counted : count ≡ length values
  pub filled : new ≡ put_into old values

-- A call refused by this code, if by any, else by want of memory at most; where it is neither, the buffer is put values
-- that are such.
pub record Fills {A : Type 0} (refusal : Option ℕ) (Are : List A → Type 0) (old new : List A) (before now code : ℕ)
    : Type 0 where
  pub refused : IfSome refusal (λ c. (code ≡ c) × AreLeft old new before now)
  pub memory : code ≡ no_memory → AreLeft old new before now
  pub put : refusal ≡ None → code ≢ no_memory → (values : List A) × Are values × IsPut values old new now code

-- the same of a call that takes no memory
pub record FillsInPlace {A : Type 0} (refusal : Option ℕ) (Are : List A → Type 0) (old new : List A)
    (before now code : ℕ) : Type 0 where
  pub refused : IfSome refusal (λ c. (code ≡ c) × AreLeft old new before now)
  pub put : refusal ≡ None → (values : List A) × Are values × IsPut values old new now code

-- a call on a handle without an engine
abbrev pub AreLeftOut : {A : Type 0} → List A → List A → ℕ → ℕ → ℕ → Type 0
AreLeftOut old new before now code = (code ≡ no_engine) × AreLeft old new before now
