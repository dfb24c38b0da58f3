-- Assignments, and the truth of clauses, cubes and matrices under them, as QDIMACS 1.1 means its clauses.
use Rattle.std.specs.Prelude.{ℕ, Bool, true, false, ◌==◌, if◌then◌else◌, List, Option, Some, None}
use Rattle.std.specs.List.{list_any, list_all}
use Rattle.prefix.specs.Literal.{Literal}

-- an assignment: a partial map from variables to truth values
abbrev pub Values : Type 0
Values = ℕ → Option Bool

-- no variable has a value
abbrev pub no_values : Values
no_values v = None

-- a variable takes a value
abbrev pub with_value : ℕ → Bool → Values → Values
with_value v b σ = λ w. if w == v then Some b else σ w

-- whether two truth values are the same
abbrev pub same : Bool → Bool → Bool
same true b = b
same false true = false
same false false = true

-- a literal is true where its variable has the value that it asks for
abbrev pub is_true_of : Option Bool → Bool → Bool
is_true_of None positive = false
is_true_of (Some b) positive = same b positive

-- the same of a literal under an assignment
abbrev pub literal_true : Values → Literal → Bool
literal_true σ l = is_true_of (σ l.variable) l.positive

-- a clause is true where one of its literals is; the empty clause is false
abbrev pub clause_true : Values → List Literal → Bool
clause_true σ ls = list_any (literal_true σ) ls

-- a cube is true where each of its literals is; the empty cube is true
abbrev pub cube_true : Values → List Literal → Bool
cube_true σ ls = list_all (literal_true σ) ls

-- a matrix is true where each of its clauses is
abbrev pub matrix_true : Values → List (List Literal) → Bool
matrix_true σ cs = list_all (clause_true σ) cs
