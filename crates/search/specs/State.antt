-- A search, as contracts see it, and what holds of it.
use Rattle.std.specs.Prelude.{◌≡◌, ℕ, ◌<◌, ◌≤◌, ◌⊎◌, Bool, true, IsTrue, List, [], length, Contains}
use Rattle.prefix.specs.declared.quant.Quant.{Quant}
use Rattle.prefix.specs.declared.quant.Quant.TheVariants.{Exists, Forall}
use Rattle.prefix.specs.Scopes.{Scope, all_variables}
use Rattle.rows.specs.Arena.{Arena}
use Rattle.calculus.specs.Search.{literals_on}
use Rattle.trail.specs.State.{TrailState, IsTrailFor}
use Rattle.trail.specs.declared.allowed.Allowed.TheVariants.{Anything}
use Rattle.decide.specs.Memory.{Memory}
use Rattle.derive.specs.State.{State, OpenClause, IsLegalFor, arena_of, clauses_of, has_rows, is_live, next_id, side_at}
use Rattle.derive.specs.Adding.{IsReductionOf}
use Rattle.watch.specs.Links.{is_attached}
use Rattle.watch.specs.State.{Holds, IsFront, IsUnattached, WatchState, looked}
use Rattle.clean.specs.Reasons.{HaveReasons, IsReducedStep}
use Rattle.search.specs.Long.{long_in}

-- a derivation and a trail; the watches of clauses and of cubes; the signs that variables had last; the ids of the
-- rows to watch, which may be of steps that were dropped; whether those of live steps are known to be attached to the
-- watches; and how many of them are long learned rows that are attached
pub record SearchState : Type 0 where
  pub derivation : State
  pub trail : TrailState
  pub clauses : WatchState
  pub cubes : WatchState
  pub signs : Memory
  pub watched : List ℕ
  pub joined : Bool
  pub long : ℕ

-- that of a side, of the watches of clauses and of cubes
abbrev pub of_side : Quant → WatchState → WatchState → WatchState
of_side Exists clauses cubes = clauses
of_side Forall clauses cubes = cubes

-- the watch of a side
abbrev pub watch_of : Quant → SearchState → WatchState
watch_of side s = of_side side s.clauses s.cubes

-- the rows of the derivation
abbrev pub rows_of : SearchState → Arena
rows_of s = arena_of s.derivation

-- a row is attached to the watch of a side
abbrev pub IsAttached : SearchState → Quant → ℕ → Type 0
IsAttached s side id = IsTrue (is_attached side (rows_of s) id)

-- each row is attached to the watch of a side, or to none
abbrev pub AreMarked : Arena → Type 0
AreMarked arena = (id : ℕ) → IsUnattached arena id ⊎ ((side : Quant) × IsTrue (is_attached side arena id))

-- The rows to watch have ids that were given; those of live steps are rows from which reduction removes nothing, and
-- the reduction of each open clause is one of them. What is attached is one of them, to the watch of its side.
pub record AreWatched (scopes : List Scope) (s : SearchState) : Type 0 where
  pub marked : AreMarked (rows_of s)
  pub sides : (side : Quant) (id : ℕ) → IsAttached s side id → IsReducedStep side scopes s.derivation id
  pub listed : (side : Quant) (id : ℕ) → IsAttached s side id → Contains s.watched id
  pub given : (id : ℕ) → Contains s.watched id → id < next_id s.derivation
  pub steps : (id : ℕ) → Contains s.watched id → IsTrue (is_live s.derivation id)
      → IsReducedStep (side_at s.derivation id) scopes s.derivation id
  pub clauses : (c : OpenClause) → Contains (clauses_of s.derivation) c
      → (id : ℕ) × Contains s.watched id × IsReductionOf scopes s.derivation c id

-- Each watch holds the rows that are attached to it, has looked at a front of the trail, and has at least the trail's
-- room.
pub record AreWatching (scopes : List Scope) (s : SearchState) : Type 0 where
  pub holds : (side : Quant) → Holds side scopes (watch_of side s) (rows_of s)
  pub front : (side : Quant) → IsFront (looked (watch_of side s)) (literals_on s.trail.placed)
  pub room : (side : Quant) → s.trail.room ≤ (watch_of side s).room

-- there is room for each variable of the prefix, on the trail and for its sign
pub record HasRoom (scopes : List Scope) (s : SearchState) : Type 0 where
  pub trail : (x : ℕ) → Contains (all_variables scopes) x → x ≤ s.trail.room
  pub signs : (x : ℕ) → Contains (all_variables scopes) x → x ≤ length s.signs

-- what holds at every moment: the trail is in order, each live step but a finish is legal, and the above
pub record IsIntact (scopes : List Scope) (s : SearchState) : Type 0 where
  pub trail : IsTrailFor scopes s.trail
  pub has_rows : IsTrue (has_rows s.derivation)
  pub legal : IsLegalFor scopes s.derivation
  pub watched : AreWatched scopes s
  pub watching : AreWatching scopes s
  pub room : HasRoom scopes s

-- all rows to watch are attached that are live
abbrev pub AreAttached : SearchState → Type 0
AreAttached s = (id : ℕ) → Contains s.watched id → IsTrue (is_live s.derivation id)
    → (side : Quant) × IsAttached s side id

-- with another count
abbrev pub with_long : SearchState → ℕ → SearchState
with_long s n = record s { long = n }

-- long learned rows that are attached are counted
abbrev pub IsTallied : SearchState → Type 0
IsTallied s = s.long ≡ long_in s.derivation

-- what holds at every moment of a search, also where it stops
pub record IsPaused (scopes : List Scope) (s : SearchState) : Type 0 where
  pub intact : IsIntact scopes s
  pub attached : AreAttached s
  pub tallied : IsTallied s

-- and while it goes on: each propagated literal has a reason of its side, which was unit before its place
pub record IsSearching (scopes : List Scope) (s : SearchState) : Type 0 where
  pub paused : IsPaused scopes s
  pub reasons : (side : Quant) → HaveReasons side scopes s.derivation s.trail

-- a trail at rest: empty, with the counts begun anew, for whatever prefix
pub record IsAtRest (t : TrailState) : Type 0 where
  pub empty : t.placed ≡ []
  pub allowed : t.allowed ≡ Anything
  pub begun : t.assigned ≡ 0
  pub fresh : t.restarts ≡ 0
  pub kept : (scopes : List Scope) → IsTrailFor scopes t

-- what holds between solves
pub record IsResting (scopes : List Scope) (s : SearchState) : Type 0 where
  pub rest : IsAtRest s.trail
  pub intact : IsIntact scopes s
  pub attached : s.joined ≡ true → AreAttached s
  pub tallied : IsTallied s
