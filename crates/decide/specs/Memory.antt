-- The signs that variables had last.
use Rattle.std.specs.Prelude.{ℕ, zero, suc, ◌-◌, Bool, List, [], ◌∷◌, Option, Some, None, slice_index_or, slice_set}
use Rattle.prefix.specs.Literal.{Literal}

-- the sign that each variable had last, at its number less 1, if it had one; its length is the room
abbrev pub Memory : Type 0
Memory = List (Option Bool)

-- the sign that a variable had last
abbrev pub phase_of : Memory → ℕ → Option Bool
phase_of memory zero = None
phase_of memory (suc i) = slice_index_or memory i None

-- the sign of one literal remembered
abbrev pub with_phase : Memory → Literal → Memory
with_phase memory literal = slice_set memory (literal.variable - 1) (Some literal.positive)

-- the signs of some literals remembered
abbrev pub saved : List Literal → Memory → Memory
saved [] memory = memory
saved (literal ∷ literals) memory = saved literals (with_phase memory literal)
