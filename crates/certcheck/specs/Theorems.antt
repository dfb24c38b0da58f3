-- The theorems on check formulas, as statements for contracts.
use Rattle.std.specs.Prelude.{◌≡◌, ◌↔◌, false, List, filter}
use Rattle.std.specs.List.{AllByRecursion}
use Rattle.truth.specs.Formed.{IsClauseOver}
use Rattle.prefix.specs.Literal.{Literal}
use Rattle.prefix.specs.Scopes.{Scope, quantifier_of, all_variables, AreDistinct}
use Rattle.prefix.specs.Sides.{is_of, opposite}
use Rattle.truth.specs.Truth.{truth}
use Rattle.calculus.specs.Rows.{Row, AreOverPrefix}
use Rattle.calculus.specs.Verdicts.{AreOuter}
use Rattle.calculus.specs.Plays.{Wins}
use Rattle.aig.specs.Circuits.{AreGates}
use Rattle.aig.specs.Strategies.{IsStrategy, output_vars, values_of}
use Rattle.aig.specs.declared.strategy.Strategy.{Strategy}
use Rattle.builder.specs.Rows.{rows_of}
use Rattle.certcheck.specs.Check.{check_clauses, scopes_to, variable_count}

-- A circuit for a formula: its inputs are the loser's variables and its outputs the winner's, in prefix order. Whether
-- it wins is left open.
pub record IsFor (scopes : List Scope) (clauses : List Row) (assumptions : List Literal) (s : Strategy) : Type 0 where
  pub over : AreOverPrefix scopes clauses
  pub outer : AreOuter scopes assumptions
  pub strategy : IsStrategy s
  pub inputs : s.inputs ≡ filter (λ v. is_of (quantifier_of scopes v) (opposite s.winner)) (all_variables scopes)
  pub outputs : output_vars s.outputs ≡ filter (λ v. is_of (quantifier_of scopes v) s.winner) (all_variables scopes)

-- The check formula of a circuit is unsatisfiable exactly where the circuit wins.
abbrev pub ChecksWinning : Type 0
ChecksWinning = (scopes : List Scope) (clauses : List Row) (assumptions : List Literal) (s : Strategy)
    → AreDistinct (all_variables scopes) → AreGates s.aig.inputs s.aig.gates → IsFor scopes clauses assumptions s
    → (truth (scopes_to (variable_count clauses assumptions s)) (rows_of (check_clauses clauses assumptions s))
    ≡ false) ↔ Wins (opposite s.winner) scopes clauses assumptions (values_of s)

-- Its rows ascend strictly by variable and are over its variables.
abbrev pub RowsAreFormed : Type 0
RowsAreFormed = (clauses : List Row) (assumptions : List Literal) (s : Strategy) → IsStrategy s
    → AreGates s.aig.inputs s.aig.gates
    → AllByRecursion (IsClauseOver (scopes_to (variable_count clauses assumptions s)))
    (rows_of (check_clauses clauses assumptions s))
