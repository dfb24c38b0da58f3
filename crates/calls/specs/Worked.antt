-- Worked values of the definitions: what holds of them, and what doesn't.
use Rattle.std.specs.Prelude.{◌≡◌, ℕ, List, [], ◌∷◌, Some, codes}
use Rattle.calls.specs.Calls.{IsCall, IsRun}
use Rattle.calls.specs.Lent.{HasRoom, Lent, behind}
use Rattle.calls.specs.Words.{AreWordsOf}
use Rattle.calls.specs.declared.entry.Done.{Done}

-- a sink with four bytes in a buffer of six
abbrev pub sink : Lent
sink = record { name = 7; bytes = codes "abcd"; room = 6; faults = 0 }

-- two more bytes fit, and three don't; the bytes stand behind name and length of the buffer
pub record WorkedLent : Type 0 where
  pub two_more : HasRoom sink 2
  pub three_more : HasRoom sink 3 → ⊥
  pub told : behind sink.name sink.room (codes "ab") ≡ Some (7 ∷ 6 ∷ 97 ∷ 98 ∷ [])

-- the program's name is the first word, and an empty line has no other
pub record WorkedWords : Type 0 where
  pub none : AreWordsOf [] (codes "qbf" ∷ [])
  pub no_name : AreWordsOf [] [] → ⊥
  pub other_name : AreWordsOf [] (codes "QBF" ∷ []) → ⊥
  pub word_too_many : AreWordsOf [] (codes "qbf" ∷ codes "a" ∷ []) → ⊥

-- a call that ends with this status, this many bytes of output and so many of error output
abbrev pub ends : (status written said : ℕ) → Done
ends status written said = record { status = status; written = written; said = said }

-- Want of memory comes to no byte. A run has one of nine statuses, is no read fault, and writes no more than the
-- buffers hold. A front of the line stands on the error output, and all of it where it fits.
pub record WorkedCalls (line text : List ℕ) : Type 0 where
  pub no_memory : IsCall line text [] [] (ends 5 0 0)
  pub other_status : (out error : List ℕ) (written said : ℕ) → IsRun line text out error (ends 1 written said) → ⊥
  pub read_fault : (out error : List ℕ) (written said : ℕ) → IsRun line text out error (ends 3 written said) → ⊥
  pub beyond_output : (error : List ℕ) (status said : ℕ) → IsRun line text (1 ∷ []) error (ends status 2 said) → ⊥
  pub beyond_error : (out : List ℕ) (status written : ℕ) → IsRun line text out (1 ∷ []) (ends status written 2) → ⊥
  pub cut_line : (out : List ℕ) → IsRun line text out (codes "qbf: no memory\n") (ends 5 0 4) → ⊥
  pub other_line : (out : List ℕ) → IsRun line text out (codes "QBF") (ends 5 0 3) → ⊥
