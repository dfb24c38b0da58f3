-- Long learned rows, and how many of them are attached.
use Rattle.std.specs.Prelude.{ℕ, Bool, false, not, ◌&&◌, nat_lt, length, Option, None, Some, count_by}
use Rattle.prefix.specs.declared.quant.Quant.{Quant}
use Rattle.calculus.specs.Derivations.{Why}
use Rattle.calculus.specs.Derivations.Why.{Given, ReducedFrom, ResolvedFrom, FinishedFrom}
use Rattle.derive.specs.State.{Note, Notes, State, arena_of, ids_of, note_at, note_in, row_of, side_at}
use Rattle.derive.specs.Sweeping.{is_input_clause}
use Rattle.watch.specs.Links.{is_attached}

-- whether a step, if it is live, is an input clause
abbrev pub is_input : Option Note → Bool
is_input None = false
is_input (Some note) = is_input_clause note.side note.why

-- whether a step of this side that stands so is an input clause or the reduction of one
abbrev pub comes_in : Notes → Quant → Why → Bool
comes_in notes side Given = is_input_clause side Given
comes_in notes side (ReducedFrom a) = is_input (note_in notes a)
comes_in notes side (ResolvedFrom a b x) = false
comes_in notes side (FinishedFrom a) = false

-- whether a step, if it is live, is neither
abbrev pub is_learned : Notes → Option Note → Bool
is_learned notes None = false
is_learned notes (Some note) = not (comes_in notes note.side note.why)

-- whether a live step is so and has more than three literals
abbrev pub is_long : State → ℕ → Bool
is_long d id = is_learned d.notes (note_at d id) && nat_lt 3 (length (row_of d id))

-- whether it is long and attached to the watch of its side
abbrev pub is_kept_long : State → ℕ → Bool
is_kept_long d id = is_attached (side_at d id) (arena_of d) id && is_long d id

-- how many are
abbrev pub long_in : State → ℕ
long_in d = count_by (is_kept_long d) (ids_of d)
