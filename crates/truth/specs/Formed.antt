-- Formulas that are within the limits, with their clauses in order.
use Rattle.std.specs.Prelude.{◌≡◌, ◌≤◌, true, List, length, map, flat_map}
use Rattle.std.specs.List.{AllByRecursion}
use Rattle.prefix.specs.Literal.{Literal}
use Rattle.prefix.specs.Scopes.{Scope, all_variables, is_among, IsAscending}
use Rattle.truth.specs.declared.formula.Formula.{Formula}
use Rattle.truth.specs.Limits.{max_clauses, max_literals}

-- a clause ascends strictly by variable, and is over variables of the scopes
abbrev pub IsClauseOver : List Scope → List Literal → Type 0
IsClauseOver scopes clause = IsAscending (map (λ (l : Literal). l.variable) clause)
    × AllByRecursion (λ (l : Literal). is_among l.variable (all_variables scopes) ≡ true) clause

-- The clauses are over the prefix, and they and their literals are within the limits.
pub record IsFormed (f : Formula) : Type 0 where
  pub rows : AllByRecursion (IsClauseOver f.prefix) f.clauses
  pub count : length f.clauses ≤ max_clauses
  pub amount : length (flat_map (λ clause. clause) f.clauses) ≤ max_literals
