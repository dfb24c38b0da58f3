-- Clauses that come in at once.
use Rattle.std.specs.Prelude.{◌≡◌, ℕ, ◌≤◌, IsTrue, List, [], ◌∷◌, ◌++◌, map, length, take, Contains, Some}
use Rattle.std.specs.Option.{option_map}
use Rattle.prefix.specs.Scopes.{Scope}
use Rattle.rows.specs.Arena.{Arena}
use Rattle.calculus.specs.Rows.{Row}
use Rattle.derive.specs.State.{OpenClause, State, arena_of, clauses_of, has_rows, next_id}
use Rattle.derive.specs.Adding.{AddsClause, IsReductionOf}
use Rattle.derive.specs.Antecedents.{Fits}
use Rattle.derive.specs.Cubes.{misses_one}
use Rattle.derive.specs.Dropping.{Drops}
use Rattle.derive.specs.Growing.{AreUnlinked}

-- clauses of a frame come in one after the other, with their reductions, which have these ids
pub data AddsClauses (scopes : List Scope) (frame : ℕ) (old : State) : State → List Row → List ℕ → Type 0 where
  no_clause : AddsClauses scopes frame old old [] []
  one_more : (middle new : State) (rows : List Row) (row : Row) (ids : List ℕ) (first second : ℕ)
      → AddsClauses scopes frame old middle rows ids → AddsClause scopes middle new first second frame row
      → AddsClauses scopes frame old new (rows ++ row ∷ []) (ids ++ second ∷ [])

-- behind the open clauses of before there is one of a frame for each of these rows, under an id that wasn't given
-- before; these ids are those of the reductions of the new ones
pub record GainsClauses (scopes : List Scope) (frame : ℕ) (old new : State) (rows : List Row) (ids : List ℕ)
    : Type 0 where
  pub added : List OpenClause
  pub clauses : clauses_of new ≡ clauses_of old ++ added
  pub has_rows : map (λ (c : OpenClause). c.row) added ≡ rows
  pub of_frame : (c : OpenClause) → Contains added c → c.frame ≡ frame
  pub fresh : (c : OpenClause) → Contains added c → next_id old ≤ c.id
  pub reductions : (c : OpenClause) → Contains added c → (id : ℕ) × Contains ids id × IsReductionOf scopes new c id
  pub none_else : (id : ℕ) → Contains ids id → (c : OpenClause) × Contains added c × IsReductionOf scopes new c id
  pub count : length ids ≡ length rows

-- clauses come in, and the initial cubes that miss one of them go, with all that rests on them; the ids of the
-- reductions are listed behind others
pub record InputsClauses (scopes : List Scope) (frame : ℕ) (old new : State) (rows : List Row)
    (listed now_listed : List ℕ) : Type 0 where
  pub ids : List ℕ
  pub lists : now_listed ≡ listed ++ ids
  pub added : State
  pub adds : AddsClauses scopes frame old added rows ids
  pub cubes : Drops (misses_one rows (arena_of added)) added new
  pub gains : GainsClauses scopes frame old new rows ids

-- one clause comes in, and the id of its reduction is listed behind others
pub record ListsOne (scopes : List Scope) (frame : ℕ) (old new : State) (row : Row) (listed now_listed : List ℕ)
    : Type 0 where
  pub first : ℕ
  pub second : ℕ
  pub adds : AddsClause scopes old new first second frame row
  pub unlinked : AreUnlinked old new
  pub lists : now_listed ≡ listed ++ second ∷ []

-- clauses come in, and the ids of their reductions are listed behind others
pub record ListsAll (scopes : List Scope) (frame : ℕ) (old new : State) (rows : List Row)
    (listed now_listed : List ℕ) : Type 0 where
  pub ids : List ℕ
  pub adds : AddsClauses scopes frame old new rows ids
  pub unlinked : AreUnlinked old new
  pub lists : now_listed ≡ listed ++ ids

-- the rows are here, under the ids of the live steps
pub record IsWhole (d : State) : Type 0 where
  pub rows_here : IsTrue (has_rows d)
  pub fits : (arena : Arena) → d.rows ≡ Some arena → Fits d.notes arena

-- the derivation of the ids before one
abbrev pub shortened : ℕ → State → State
shortened first d = record { notes = take first d.notes; rows = option_map (take first) d.rows }
