-- The theorems on cores that callers cite, as statements for contracts.
use Rattle.std.specs.Prelude.{ℕ, IsTrue, List}
use Rattle.prefix.specs.Literal.{Literal}
use Rattle.prefix.specs.Scopes.{Scope}
use Rattle.calculus.specs.Derivations.Why.{FinishedFrom}
use Rattle.calculus.specs.Verdicts.{IsEndRow}
use Rattle.derive.specs.State.{State, is_step, row_of, side_at}
use Rattle.derive.specs.Adding.{Removes, finish_at}
use Rattle.step_core.specs.Cores.{IsFinishAt}

-- Where the literals over assumed variables alone are left of an end row, in a step of their own or, where nothing
-- goes, in the row's own step, that step is the finish of an end row.
abbrev pub FinishesEndProofs : Type 0
FinishesEndProofs = (scopes : List Scope) (assumptions : List Literal) (old new : State) (id row : ℕ) →
    IsTrue (is_step old row) → IsEndRow (side_at old row) scopes assumptions (row_of old row) →
    Removes old new id row (FinishedFrom row) (finish_at assumptions old row) → IsFinishAt scopes assumptions new id
