-- Initial cubes that miss a clause.
use Rattle.std.specs.Prelude.{◌≡◌, ℕ, Bool, true, false, not, ◌&&◌, List, Option, None, Some, Contains}
use Rattle.std.specs.List.{list_any}
use Rattle.prefix.specs.Literal.{Literal}
use Rattle.rows.specs.Arena.{Arena, literals_at}
use Rattle.calculus.specs.Rows.{Row, same_literal}
use Rattle.derive.specs.State.{Note, Notes, note_in}
use Rattle.derive.specs.Dropping.{StepTest, is_cube}

-- whether a literal stands in a row
abbrev pub stands_in : Row → Literal → Bool
stands_in row literal = list_any (same_literal literal) row

-- whether a row holds a literal of a clause
abbrev pub hits_clause : Row → Row → Bool
hits_clause row clause = list_any (stands_in row) clause

-- whether a step is an initial cube that misses a clause: it holds none of its literals
abbrev pub misses : Row → Arena → StepTest
misses clause rows id note = is_cube note.side note.why && not (hits_clause (literals_at rows id) clause)

-- whether a row holds no literal of one of the clauses
abbrev pub misses_some : Row → List Row → Bool
misses_some row clauses = list_any (λ clause. not (hits_clause row clause)) clauses

-- whether a step is an initial cube that misses one of the clauses
abbrev pub misses_one : List Row → Arena → StepTest
misses_one clauses rows id note = is_cube note.side note.why && misses_some (literals_at rows id) clauses

-- what the test holds of are initial cubes
abbrev pub AreCubes : StepTest → Type 0
AreCubes test = (id : ℕ) (note : Note) → test id note ≡ true → is_cube note.side note.why ≡ true

-- whether a step is live and an initial cube
abbrev pub is_cube_in : Option Note → Bool
is_cube_in None = false
is_cube_in (Some note) = is_cube note.side note.why

-- each live initial cube is listed
abbrev pub AreListed : Notes → List ℕ → Type 0
AreListed notes ids = (id : ℕ) → is_cube_in (note_in notes id) ≡ true → Contains ids id
