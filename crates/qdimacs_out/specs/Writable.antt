-- Formulas in the form in which they are written and read.
use Rattle.std.specs.Prelude.{◌≢◌, ◌≤◌, ⊤, List, [], ◌∷◌, length, flat_map}
use Rattle.std.specs.List.{AllByRecursion}
use Rattle.prefix.specs.Scopes.{AreDistinct, IsAscending, Scope, all_variables}
use Rattle.truth.specs.declared.formula.Formula.{Formula}
use Rattle.truth.specs.Formed.{IsClauseOver}
use Rattle.truth.specs.Limits.{max_clauses, max_literals, max_scopes, max_vars}

-- the quantifiers of the scopes take turns
abbrev pub TakeTurns : List Scope → Type 0
TakeTurns [] = ⊤
TakeTurns (s ∷ []) = ⊤
TakeTurns (s ∷ t ∷ rest) = (s.quantifier ≢ t.quantifier) × TakeTurns (t ∷ rest)

-- The scopes take turns, each with a variable, and their variables ascend, differ and are declared; the clauses are
-- over them, ascending by variable, and no more than declared; and all is within the reader's limits.
pub record IsWritable (f : Formula) : Type 0 where
  pub turns : TakeTurns f.prefix
  pub filled : AllByRecursion (λ s. s.variables ≢ []) f.prefix
  pub ascending : AllByRecursion (λ s. IsAscending s.variables) f.prefix
  pub distinct : AreDistinct (all_variables f.prefix)
  pub declared : AllByRecursion (λ v. (1 ≤ v) × (v ≤ f.declared_vars)) (all_variables f.prefix)
  pub rows : AllByRecursion (IsClauseOver f.prefix) f.clauses
  pub fewer : length f.clauses ≤ f.declared_clauses
  pub vars_few : f.declared_vars ≤ max_vars
  pub scopes_few : length f.prefix ≤ max_scopes
  pub clauses_few : f.declared_clauses ≤ max_clauses
  pub literals_few : length (flat_map (λ clause. clause) f.clauses) ≤ max_literals
