-- What the decider keeps: the variables in order, and the values tried for the first of them.
use Rattle.std.specs.Prelude.{◌≡◌, ℕ, ◌<◌, ◌≤◌, Bool, List, [], ◌∷◌, length, Option, None, slice_index_or}
use Rattle.std.specs.List.{AllByRecursion}
use Rattle.prefix.specs.Scopes.{AreDistinct, BoundVariable, variables_of}
use Rattle.truth.specs.Matrix.{Values, no_values, with_value}

-- the variables, and the values of the first of them
pub record Tried : Type 0 where
  pub order : List BoundVariable
  pub values : List Bool

-- the assignment that gives the first variables these values
abbrev pub assigned : List BoundVariable → List Bool → Values → Values
assigned xs [] σ = σ
assigned [] (b ∷ bs) σ = σ
assigned (x ∷ xs) (b ∷ bs) σ = assigned xs bs (with_value x.variable b σ)

-- the assignment that a table gives, by the number of a variable
abbrev pub values_of : List (Option Bool) → Values
values_of table v = slice_index_or table v None

-- the table has the values tried
pub record IsSearch (order : List BoundVariable) (tried : List Bool) (table : List (Option Bool)) : Type 0 where
  pub depth : length tried ≤ length order
  pub table_is : (v : ℕ) → values_of table v ≡ assigned order tried no_values v
  pub covers : AllByRecursion (λ (x : BoundVariable). x.variable < length table) order
  pub distinct : AreDistinct (variables_of order)
