-- What a search keeps where the formula changes.
use Rattle.std.specs.Prelude.{◌≡◌, ℕ, ◌≤◌, List, [], ◌∷◌, ◌++◌, length, map, min, Contains}
use Rattle.prefix.specs.Scopes.{Scope}
use Rattle.calculus.specs.Derivations.{Extends}
use Rattle.calculus.specs.Rows.{Row}
use Rattle.derive.specs.State.{OpenClause}
use Rattle.search.specs.State.{HasRoom, IsResting, SearchState}

-- one more open clause, of a frame
pub record AddsClause (frame : ℕ) (row : Row) (old new : List OpenClause) : Type 0 where
  pub id : ℕ
  pub clauses : new ≡ old ++ (record { id = id; frame = frame; row = row }) ∷ []

-- one more open clause of a frame for each of these rows, behind the others
pub record AddsClauses (frame : ℕ) (rows : List Row) (old new : List OpenClause) : Type 0 where
  pub added : List OpenClause
  pub clauses : new ≡ old ++ added
  pub has_rows : map (λ (c : OpenClause). c.row) added ≡ rows
  pub of_frame : (c : OpenClause) → Contains added c → c.frame ≡ frame

-- one more row to watch, behind the others
abbrev pub WatchesMore : List ℕ → List ℕ → Type 0
WatchesMore old new = (id : ℕ) × (new ≡ old ++ id ∷ [])

-- so many more rows to watch, behind the others
pub record WatchesMany (count : ℕ) (old new : List ℕ) : Type 0 where
  pub added : List ℕ
  pub many : length added ≡ count
  pub watched : new ≡ old ++ added

-- there is room for the variables up to a number, on the trail and for their signs
pub record IsRoomy (vars : ℕ) (s : SearchState) : Type 0 where
  pub trail : (x : ℕ) → x ≤ vars → x ≤ s.trail.room
  pub signs : (x : ℕ) → x ≤ vars → x ≤ length s.signs

-- the number up to which variables have room on the trail, for their signs, and in both watches
abbrev pub room_of : SearchState → ℕ
room_of s = min (min s.trail.room (length s.signs)) (min s.clauses.room s.cubes.room)

-- at rest before, at rest after
abbrev pub StaysResting : SearchState → SearchState → Type 0
StaysResting old new = (scopes : List Scope) → IsResting scopes old → IsResting scopes new

-- A search at rest is so under a larger prefix, where there is room for its variables.
abbrev pub RestingGrows : Type 0
RestingGrows = (old new : List Scope) (s : SearchState) → Extends old new → HasRoom new s → IsResting old s
    → IsResting new s
