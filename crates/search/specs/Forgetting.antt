-- What forgetting long learned rows leaves.
use Rattle.std.specs.Prelude.{◌≡◌, ◌+◌, ◌/◌, ◌<◌, ◌≤◌, ◌==◌, ℕ, Bool, true, false, not, ◌&&◌, List, Option, None, Some, is_some, Contains, IsTrue, count_by, filter, length, slice_index_or}
use Rattle.std.specs.List.{list_any}
use Rattle.prefix.specs.declared.quant.Quant.{Quant}
use Rattle.prefix.specs.Literal.{Literal}
use Rattle.prefix.specs.Scopes.{Scope}
use Rattle.rows.specs.Arena.{Arena, link_at}
use Rattle.calculus.specs.Search.{Cause, Placed, Trail, cause_on}
use Rattle.calculus.specs.Search.Cause.{Assumed, Decided, Propagated}
use Rattle.derive.specs.State.{State, clauses_of, is_live, row_of}
use Rattle.clean.specs.Turns.{reductions_in}
use Rattle.search.specs.Counting.{size_of}
use Rattle.search.specs.Long.{is_kept_long, is_long}
use Rattle.search.specs.Moves.{KeepsOlder, SameSteps}
use Rattle.search.specs.State.{IsAttached, IsIntact, IsSearching, IsTallied, SearchState, rows_of}

-- the row that a variable with this cause was propagated from, if it was
abbrev pub reason_of : Option Cause → Option ℕ
reason_of None = None
reason_of (Some Assumed) = None
reason_of (Some Decided) = None
reason_of (Some (Propagated id)) = Some id

-- whether a variable with this cause was propagated from a row
abbrev pub is_from : ℕ → Option Cause → Bool
is_from id None = false
is_from id (Some Assumed) = false
is_from id (Some Decided) = false
is_from id (Some (Propagated by)) = by == id

-- whether a row is a reason: a variable in it was propagated from it
abbrev pub is_reason : SearchState → ℕ → Bool
is_reason s id = list_any (λ (l : Literal). is_from id (cause_on s.trail.placed l.variable)) (row_of s.derivation id)

-- whether a row may be forgotten: a long learned one that is no reason
abbrev pub may_go : SearchState → ℕ → Bool
may_go s id = is_long s.derivation id && not (is_reason s id)

-- whether a literal with this cause was propagated from a long learned row that is attached
abbrev pub is_by_long : State → Cause → Bool
is_by_long d Assumed = false
is_by_long d Decided = false
is_by_long d (Propagated id) = is_kept_long d id

-- how many literals of the trail were, each from a row of its own
abbrev pub long_reasons : SearchState → ℕ
long_reasons s = count_by (λ (p : Placed). is_by_long s.derivation p.cause) s.trail.placed

-- only rows that may be forgotten are detached, and no row is attached
pub record Lets (old new : SearchState) : Type 0 where
  pub was : (side : Quant) (id : ℕ) → IsAttached new side id → IsAttached old side id
  pub stays : (side : Quant) (id : ℕ) → IsAttached old side id → may_go old id ≡ false → IsAttached new side id

-- wherever a row stands on a list, another one stands before it
abbrev pub ComesBefore : List ℕ → ℕ → ℕ → Type 0
ComesBefore ids first id = (j : ℕ) → j < length ids → slice_index_or ids j 0 ≡ id
    → (i : ℕ) × (i < j) × (slice_index_or ids i 0 ≡ first)

-- a row that is detached was listed before each one that might have been forgotten and stays attached
abbrev pub LetsOldest : SearchState → SearchState → Type 0
LetsOldest old new = (side other : Quant) (gone id : ℕ) → IsAttached old side gone → (IsAttached new side gone → ⊥)
    → IsAttached new other id → may_go old id ≡ true → ComesBefore old.watched gone id

-- some rows were detached, which are still on the list; nothing else changes
pub record Thins (scopes : List Scope) (old new : SearchState) : Type 0 where
  pub intact : IsIntact scopes new
  pub tallied : IsTallied new
  pub steps : SameSteps old.derivation new.derivation
  pub trail : new.trail ≡ old.trail
  pub watched : new.watched ≡ old.watched
  pub lets : Lets old new

-- whether a row is attached to a watch
abbrev pub is_held : Arena → ℕ → Bool
is_held arena id = is_some (link_at arena id 6)

-- the rows that aren't attached are left out of the list
abbrev pub without_detached : SearchState → SearchState
without_detached s = record s { watched = filter (is_held (rows_of s)) s.watched }

-- each live step that a variable was propagated from is one of these
abbrev pub HaveAllReasons : State → Trail → List ℕ → Type 0
HaveAllReasons d placed ids = (x id : ℕ) → cause_on placed x ≡ Some (Propagated id) → IsTrue (is_live d id)
    → Contains ids id

-- each of these is live
abbrev pub AreLive : State → List ℕ → Type 0
AreLive d ids = (id : ℕ) → Contains ids id → IsTrue (is_live d id)

-- steps may be dropped, but no open clause; what is attached stays so, with the same trail, and no other row is
pub record Clears (scopes : List Scope) (old new : SearchState) : Type 0 where
  pub searching : IsSearching scopes new
  pub clauses : clauses_of new.derivation ≡ clauses_of old.derivation
  pub older : KeepsOlder old.derivation new.derivation
  pub trail : new.trail ≡ old.trail
  pub long : new.long ≡ old.long
  pub attached : (side : Quant) (id : ℕ) → IsAttached old side id → IsAttached new side id
  pub was : (side : Quant) (id : ℕ) → IsAttached new side id → IsAttached old side id
  pub reductions : reductions_in new.derivation ≤ reductions_in old.derivation

-- where more long learned rows than may be kept are no reasons, so many of them are left
abbrev pub left_long : ℕ → ℕ
left_long kept = kept / 2

-- the long learned rows that are attached are few: as many as may be kept, and one for each variable
abbrev pub HasFewLong : ℕ → List Scope → SearchState → Type 0
HasFewLong kept scopes s = s.long ≤ kept + size_of scopes

-- Where no more long learned rows than may be kept are no reasons, nothing changes. Where more are, the oldest of these
-- are forgotten until half of those that may be kept are left. The clauses and the trail stay the same.
pub record Forgets (kept : ℕ) (scopes : List Scope) (old new : SearchState) : Type 0 where
  pub searching : IsSearching scopes new
  pub clauses : clauses_of new.derivation ≡ clauses_of old.derivation
  pub older : KeepsOlder old.derivation new.derivation
  pub trail : new.trail ≡ old.trail
  pub few : HasFewLong kept scopes new
  pub none : old.long ≤ kept + long_reasons old → new ≡ old
  pub left : kept + long_reasons old < old.long → new.long ≡ left_long kept + long_reasons old
  pub lets : Lets old new
  pub oldest : LetsOldest old new
  pub reductions : reductions_in new.derivation ≤ reductions_in old.derivation
