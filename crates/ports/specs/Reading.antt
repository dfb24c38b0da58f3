-- What a read tells of the bytes that are left.
use Rattle.std.specs.Prelude.{◌≡◌, ℕ, ◌<◌, List, length, Option, Result, IfOk}
use Rattle.std.specs.Io.KnownBytes.{IsAtEnd}

-- no byte into a buffer with room is the end of the input: where the bytes left are told, there are none
abbrev pub EndsAtZero : {E : Type 0} → Result ℕ E → List ℕ → Option (List ℕ) → Type 0
EndsAtZero r buf left = IfOk r (λ n. n ≡ 0 → 0 < length buf → IsAtEnd left)
