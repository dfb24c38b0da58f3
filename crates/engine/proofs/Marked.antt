-- Marks stay right, command by command.
use Rattle.std.proofs.Common.{◌≡◌, ℕ, ◌-◌, Bool, true, false, List, [], ◌∷◌, ◌++◌, Option, None, Some, ap}
use Rattle.std.specs.Prelude.{ℤ, if◌then◌else◌, is_none}
use Rattle.prefix.specs.declared.quant.Quant.{Quant}
use Rattle.prefix.specs.Scopes.{with_scope, with_variable_at}
use Rattle.calculus.specs.DerivationTheorems.{PrefixesGrow}
use Rattle.clauses.specs.Clause.{as_row, is_tautology}
use Rattle.derive.specs.Dropping.{NoneOutsideBelow}
use Rattle.derive.specs.State.{IsLegalFor, State, next_id}
use Rattle.frames.specs.Commands.{AddClause, AddScope, AddVariable, Pop, Push, formula_after, refusal_of, with_row_at}
use Rattle.frames.specs.State.{OpenFormula}
use Rattle.search.specs.Finishes.{HasNoFinish}
use Rattle.search.specs.Moves.{KeepsOlder}
use Rattle.engine.specs.Marks.{AreMarked}
use Rattle.engine.proofs.Changing.{scope_fits, variable_fits}
use Rattle.engine.proofs.Marking.{marked_older, marked_popped, marked_pushed, marked_row, marked_scopes, marked_variable, outside_smaller, steps_inside}

-- what is marked in a formula
abbrev pub AreMarkedIn : OpenFormula → List ℕ → State → Type 0
AreMarkedIn f marks d = AreMarked f.frames marks f.scopes d

pub older_marked : (f : OpenFormula) (marks : List ℕ) (d e : State) → KeepsOlder d e → AreMarkedIn f marks d
    → AreMarkedIn f marks e
older_marked f marks d e older are = marked_older f.frames marks f.scopes d e older are

pub scope_marked : (f : OpenFormula) (quant : Quant) (at : Option ℕ) (marks : List ℕ) (d : State)
    → refusal_of f (AddScope quant at) ≡ None → PrefixesGrow → AreMarkedIn f marks d
    → AreMarkedIn (formula_after f (AddScope quant at)) marks d
scope_marked f quant at marks d accepts grow are =
    marked_scopes f.frames marks f.scopes (with_scope f.scopes quant at) d
    (outside_smaller f.scopes (with_scope f.scopes quant at)
    (grow.scope f.scopes quant at (scope_fits f quant at accepts))) are

pub variable_marked : (f : OpenFormula) (var scope : ℕ) (marks : List ℕ) (d : State)
    → refusal_of f (AddVariable var scope) ≡ None → PrefixesGrow → AreMarkedIn f marks d
    → AreMarkedIn (formula_after f (AddVariable var scope)) marks d
variable_marked f var scope marks d accepts grow are =
    let fits = variable_fits f var scope accepts in
    marked_variable f.version f.frames marks var f.scopes (with_variable_at f.scopes (scope - 1) var) d
    (ap is_none fits.1)
    (outside_smaller f.scopes (with_variable_at f.scopes (scope - 1) var)
    (grow.variable f.scopes (scope - 1) var fits.0 fits.1)) are

pub clause_marked : (f : OpenFormula) (lits : List ℤ) (marks : List ℕ) (d : State) → AreMarkedIn f marks d
    → AreMarkedIn (formula_after f (AddClause lits)) marks d
clause_marked f lits marks d are = by (is_tautology lits) f.current
  where
    by : (b : Bool) (o : Option ℕ) → AreMarkedIn (if b then f else with_row_at o (as_row lits) f) marks d
    by true o = are
    by false None = marked_row (as_row lits) f.frames marks f.scopes d are
    by false (Some n) = are

pub frame_marked : (f : OpenFormula) (marks : List ℕ) (d : State) → IsLegalFor f.scopes d → HasNoFinish d
    → AreMarkedIn f marks d → AreMarkedIn (formula_after f Push) (marks ++ next_id d ∷ []) d
frame_marked f marks d legal none are =
    marked_pushed f.frames marks f.scopes d (steps_inside f.scopes d legal none) are

pub less_marked : (f : OpenFormula) (marks : List ℕ) (m : ℕ) (d : State) → AreMarkedIn f (marks ++ m ∷ []) d
    → NoneOutsideBelow (formula_after f Pop).scopes m d × AreMarkedIn (formula_after f Pop) marks d
less_marked f marks m d are = marked_popped f.frames marks m f.scopes d are
