-- What the steps of a core remove, and what the first removal with a bad row forces.
use Rattle.std.specs.Prelude.{ℕ, ◌+◌, ◌==◌, Bool, not, ◌&&◌, if◌then◌else◌, List, [], ◌∷◌, ◌++◌, map, filter, length, Option, Some, None}
use Rattle.std.specs.List.{list_any}
use Rattle.prefix.specs.declared.quant.Quant.{Quant}
use Rattle.prefix.specs.Literal.{Literal}
use Rattle.calculus.specs.Rows.{Row, Assignment, is_bad_throughout, bad_choice}
use Rattle.calculus.specs.Derivations.{Reason as Why, Inference}
use Rattle.calculus.specs.Derivations.Reason.{Input as ByInput, One as ByOne, Two as ByTwo}

-- a removal of a literal of some variable: the row that is left, and the value that it forces where that row is bad
pub record Removed : Type 0 where
  pub row : Row
  pub value : Bool

-- whether a row has a literal over a variable
abbrev pub stands_over : Row → ℕ → Bool
stands_over row x = list_any (λ (m : Literal). m.variable == x) row

-- whether a literal of x goes where this row is left
abbrev pub goes : ℕ → Row → Literal → Bool
goes x row l = l.variable == x && not (stands_over row l.variable)

-- the removals of literals of x where of these literals this row is left
abbrev pub removed_from : Quant → ℕ → Row → Row → List Removed
removed_from pivot x row before = map (λ (l : Literal). record { row = row; value = bad_choice pivot l }) (filter
    (goes x row) before)

abbrev pub removed_by : Quant → ℕ → Row → Why → List Removed
removed_by pivot x row ByInput = []
removed_by pivot x row (ByOne before) = removed_from pivot x row before
removed_by pivot x row (ByTwo a b y) = []

-- the removals of literals of x, in the order of the steps
abbrev pub removals : Quant → ℕ → List Inference → List Removed
removals pivot x [] = []
removals pivot x (s ∷ steps) = removed_by pivot x s.row s.reason ++ removals pivot x steps

-- the value that the first removal with a bad row forces
abbrev pub first_bad : Quant → Assignment → List Removed → Option Bool
first_bad pivot values [] = None
first_bad pivot values (r ∷ rest) = if is_bad_throughout pivot values r.row then Some r.value else first_bad
    pivot values rest

-- what removals cost in gates at most
abbrev pub weight_of : List Removed → ℕ
weight_of [] = 0
weight_of (r ∷ rest) = (length r.row + 1) + weight_of rest

-- what the removals of several variables cost
abbrev pub weights_of : (ℕ → List Removed) → List ℕ → ℕ
weights_of removed [] = 0
weights_of removed (x ∷ xs) = weight_of (removed x) + weights_of removed xs
