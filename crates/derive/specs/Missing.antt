-- Whether something is gone that a step rests on.
use Rattle.std.specs.Prelude.{ℕ, Bool, false, ◌||◌, is_none, Option, None, Some}
use Rattle.calculus.specs.Derivations.{Why}
use Rattle.calculus.specs.Derivations.Why.{Given, ReducedFrom, ResolvedFrom, FinishedFrom}
use Rattle.derive.specs.State.{Note, Notes, note_in}
use Rattle.derive.specs.Dropping.{StepTest}

-- whether no step is live under an id that a step rests on
abbrev pub misses_antecedent : Notes → Why → Bool
misses_antecedent notes Given = false
misses_antecedent notes (ReducedFrom a) = is_none (note_in notes a)
misses_antecedent notes (ResolvedFrom a b x) = is_none (note_in notes a) || is_none (note_in notes b)
misses_antecedent notes (FinishedFrom a) = is_none (note_in notes a)

-- whether a live step is a root, or rests on one that is gone
abbrev pub falls_with : StepTest → Notes → ℕ → Option Note → Bool
falls_with is_root notes id None = false
falls_with is_root notes id (Some note) = is_root id note || misses_antecedent notes note.why

abbrev pub falls_now : StepTest → Notes → ℕ → Bool
falls_now is_root notes id = falls_with is_root notes id (note_in notes id)
