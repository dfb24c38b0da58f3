-- Buffers that are filled, and drafts of texts.
use Rattle.std.specs.Prelude.{ℕ, if◌then◌else◌, List, ◌++◌, length, drop, nat_le}

-- a buffer with values in its front where it has room for them, else as it is
abbrev pub put_into : {T : Type 0} → List T → List T → List T
put_into buffer values =
    if nat_le (length values) (length buffer) then values ++ drop (length values) buffer else buffer

-- the bytes of a draft, and how often memory was wanting
pub record Drafted : Type 0 where
  pub bytes : List ℕ
  pub faults : ℕ
