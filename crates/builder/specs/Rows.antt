-- Clauses of circuit literals, and their rows.
-- Circuit literals are the literals of AIGER 1.9: 2v is variable v and 2v + 1 its negation, 0 is false and 1 is true.
use Rattle.std.specs.Prelude.{ℕ, ◌+◌, ◌-◌, ◌/◌, ◌%◌, ◌==◌, ◌||◌, Bool, not, if◌then◌else◌, List, map, filter}
use Rattle.std.specs.List.{list_any}
use Rattle.prefix.specs.Literal.{Literal}
use Rattle.prefix.specs.Scopes.{is_among}
use Rattle.clauses.specs.Clause.{ascending}

-- the opposite literal
abbrev pub flipped : ℕ → ℕ
flipped n = if n % 2 == 0 then n + 1 else n - 1

-- a literal as a formula has it
abbrev pub literal_of : ℕ → Literal
literal_of n = record { variable = n / 2; positive = n % 2 == 0 }

-- a clause is left out where it has the constant true, or a literal with its opposite
abbrev pub is_left_out : List ℕ → Bool
is_left_out ns = is_among 1 ns || list_any (λ n. is_among (flipped n) ns) ns

-- the literals of a clause once each, ascending by variable; the constant false is left out
abbrev pub as_row : List ℕ → List Literal
as_row ns = map literal_of (ascending (filter (λ n. not (n == 0)) ns))

-- the rows of the clauses that aren't left out
abbrev pub rows_of : List (List ℕ) → List (List Literal)
rows_of clauses = map as_row (filter (λ c. not (is_left_out c)) clauses)
