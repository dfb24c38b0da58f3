-- Worked values: check formulas of small circuits.
use Rattle.std.specs.Prelude.{◌≡◌, ℕ, true, false, List, [], ◌∷◌, Some, None, Ok, Err}
use Rattle.prefix.specs.declared.quant.Quant.TheVariants.{Exists, Forall}
use Rattle.prefix.specs.Literal.{Literal}
use Rattle.truth.specs.Truth.{truth}
use Rattle.truth.specs.declared.formula.Formula.{Formula}
use Rattle.reading.specs.declared.refusal.Quantity.TheVariants.{Variables, Clauses}
use Rattle.aig.specs.Circuits.{one, zero, opposite}
use Rattle.aig.specs.Worked.{input, both, gate}
use Rattle.aig.specs.declared.edge.Edge.{Edge}
use Rattle.aig.specs.declared.strategy.Strategy.{Strategy}
use Rattle.certcheck.specs.declared.fault.CheckFault.TheVariants.{Limit}
use Rattle.certcheck.specs.Building.{IsAnswer, limit_of}
use Rattle.builder.specs.Rows.{rows_of}
use Rattle.certcheck.specs.Check.{check_clauses, formula_over, scopes_to, variable_count}

abbrev pub yes_ : ℕ → Literal
yes_ v = record { variable = v; positive = true }

abbrev pub no_ : ℕ → Literal
no_ v = record { variable = v; positive = false }

-- for each value of 1 there is one of 2 that differs from it
abbrev pub differ : List (List Literal)
differ = (yes_ 1 ∷ yes_ 2 ∷ []) ∷ (no_ 1 ∷ no_ 2 ∷ []) ∷ []

-- 2 by this edge over 1
abbrev pub with_output : Edge → Strategy
with_output e = record {
  aig = record { inputs = 1; gates = [] };
  winner = Exists;
  inputs = 1 ∷ [];
  outputs = record { var = 2; edge = e } ∷ [];
}

-- the false formula without variables, whose matrix is the empty clause
abbrev pub no_variables : Strategy
no_variables = record { aig = record { inputs = 0; gates = [] }; winner = Forall; inputs = []; outputs = [] }

-- 1 and its negation, which is false; 1 is the loser's, and the winner has no variable
abbrev pub both_units : List (List Literal)
both_units = (yes_ 1 ∷ []) ∷ (no_ 1 ∷ []) ∷ []

abbrev pub no_output : Strategy
no_output = record { aig = record { inputs = 1; gates = [] }; winner = Forall; inputs = 1 ∷ []; outputs = [] }

-- 3 is the conjunction of 1 and 2, and assumed to be true
abbrev pub conjunction : Strategy
conjunction = record {
  aig = both;
  winner = Exists;
  inputs = 1 ∷ 2 ∷ [];
  outputs = record { var = 3; edge = gate 0 } ∷ [];
}

pub record WorkedChecks : Type 0 where
  -- the negation wins
  pub rows : rows_of (check_clauses differ [] (with_output (opposite (input 0))))
      ≡ (no_ 1 ∷ no_ 2 ∷ []) ∷ (yes_ 1 ∷ no_ 2 ∷ []) ∷ (yes_ 1 ∷ no_ 3 ∷ []) ∷ (no_ 1 ∷ no_ 3 ∷ [])
      ∷ (yes_ 2 ∷ yes_ 3 ∷ []) ∷ []
  pub count : variable_count differ [] (with_output (opposite (input 0))) ≡ 3
  -- the constant false loses
  pub of_constant : rows_of (check_clauses differ [] (with_output zero))
      ≡ (no_ 1 ∷ no_ 2 ∷ []) ∷ (yes_ 1 ∷ no_ 3 ∷ []) ∷ (no_ 3 ∷ []) ∷ (yes_ 2 ∷ yes_ 3 ∷ []) ∷ []
  -- the constant true loses; it takes one clause out, and its opposite is left out of another
  pub of_true : rows_of (check_clauses differ [] (with_output one))
      ≡ (no_ 1 ∷ no_ 2 ∷ []) ∷ (no_ 2 ∷ []) ∷ (yes_ 1 ∷ no_ 3 ∷ []) ∷ (yes_ 2 ∷ yes_ 3 ∷ []) ∷ []
  -- unsatisfiable where the circuit wins, satisfiable where it loses
  pub wins : truth (scopes_to 3) (rows_of (check_clauses differ [] (with_output (opposite (input 0))))) ≡ false
  pub false_loses : truth (scopes_to 3) (rows_of (check_clauses differ [] (with_output zero))) ≡ true
  pub true_loses : truth (scopes_to 3) (rows_of (check_clauses differ [] (with_output one))) ≡ true
  -- the universal side wins where no values satisfy the clauses: one selector for all of them
  pub of_units : rows_of (check_clauses both_units [] no_output)
      ≡ (yes_ 1 ∷ no_ 2 ∷ []) ∷ (no_ 1 ∷ no_ 2 ∷ []) ∷ (yes_ 2 ∷ []) ∷ []
  pub one_clause : rows_of (check_clauses ((yes_ 1 ∷ []) ∷ []) [] no_output)
      ≡ (yes_ 1 ∷ no_ 2 ∷ []) ∷ (yes_ 2 ∷ []) ∷ []
  pub units_win : truth (scopes_to 2) (rows_of (check_clauses both_units [] no_output)) ≡ false
  pub one_clause_loses : truth (scopes_to 2) (rows_of (check_clauses ((yes_ 1 ∷ []) ∷ []) [] no_output)) ≡ true
  -- the empty clause: one selector, which is to be false and true
  pub of_none : rows_of (check_clauses ([] ∷ []) [] no_variables) ≡ (no_ 1 ∷ []) ∷ (yes_ 1 ∷ []) ∷ []
  pub no_scope : scopes_to 0 ≡ []
  -- repeats count once, and a literal with its opposite, or the constant true, takes its clause out
  pub once
      : rows_of ((4 ∷ 2 ∷ 0 ∷ 4 ∷ []) ∷ (2 ∷ 4 ∷ 3 ∷ []) ∷ (2 ∷ 1 ∷ []) ∷ []) ≡ (yes_ 1 ∷ yes_ 2 ∷ []) ∷ []
  -- as many variables as there may be, and one more
  pub few : limit_of (formula_over 1048576 []) ≡ None
  pub many : limit_of (formula_over 1048577 []) ≡ Some Variables
  -- a gate, an assumed input and an assumed output, over no clause
  pub of_assumed : rows_of (check_clauses [] (no_ 1 ∷ yes_ 3 ∷ []) conjunction)
      ≡ (no_ 1 ∷ []) ∷ (yes_ 2 ∷ no_ 3 ∷ []) ∷ (yes_ 1 ∷ no_ 3 ∷ []) ∷ (no_ 1 ∷ no_ 2 ∷ yes_ 3 ∷ [])
      ∷ (no_ 3 ∷ no_ 4 ∷ []) ∷ (yes_ 4 ∷ []) ∷ []

-- as many variables as there may be, and one more
abbrev pub fitting : Formula
fitting = formula_over 1048576 []

abbrev pub beyond : Formula
beyond = formula_over 1048577 []

pub record WorkedAnswers : Type 0 where
  -- a formula within the limits is the answer, and no other is
  pub formula : IsAnswer (Ok fitting) fitting
  pub not_beyond : IsAnswer (Ok beyond) beyond → ⊥
  pub not_another : IsAnswer (Ok (formula_over 1 [])) (formula_over 2 []) → ⊥
  -- the limit is that which it goes beyond
  pub limit : IsAnswer (Err (Limit Variables)) beyond
  pub not_within : IsAnswer (Err (Limit Variables)) fitting → ⊥
  pub not_of_clauses : IsAnswer (Err (Limit Clauses)) beyond → ⊥
