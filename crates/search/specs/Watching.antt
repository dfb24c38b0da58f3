-- What calls of a watch leave.
use Rattle.std.specs.Prelude.{◌≡◌, ◌≢◌, ◌≤◌, ℕ, ◌⊎◌, ◌++◌, ◌∷◌, [], true, IsFalse, IsTrue, List, None, Some, Contains}
use Rattle.prefix.specs.declared.quant.Quant.{Quant}
use Rattle.prefix.specs.Scopes.{Scope}
use Rattle.trail.specs.State.{TrailState}
use Rattle.rows.specs.Arena.{Arena, is_live as is_stored, link_at, literals_at, next_id}
use Rattle.derive.specs.State.{State, IsLegalFor, arena_of, is_live}
use Rattle.derive.specs.Dropping.{Falls, StepTest}
use Rattle.watch.specs.Links.{is_attached}
use Rattle.watch.specs.State.{AgreesOn, WatchState}
use Rattle.search.specs.Moves.{SameSteps}
use Rattle.search.specs.State.{IsAttached, IsIntact, IsSearching, IsTallied, SearchState, of_side, rows_of}
use Rattle.search.specs.declared.watching.Watches.{Watches}

-- the watch of a side
abbrev pub watch_at : Quant → Watches → WatchState
watch_at side w = of_side side w.clauses w.cubes

-- the watches of other sides are as they were
abbrev pub SameElsewhere : Quant → Watches → Watches → Type 0
SameElsewhere side old new = (other : Quant) → side ≢ other → watch_at other new ≡ watch_at other old

-- each row is attached as it was
abbrev pub KeepsMarks : Arena → Arena → Type 0
KeepsMarks old new = (id : ℕ) → link_at new id 6 ≡ link_at old id 6

-- the rows that are attached to the watch of another side are as they were
abbrev pub AgreesElsewhere : Quant → Arena → Arena → Type 0
AgreesElsewhere pivot old new = (other : Quant) → pivot ≢ other → AgreesOn other old new

-- the same ids are live with the same literals
pub record KeepsRows (old new : Arena) : Type 0 where
  pub same_next : next_id new ≡ next_id old
  pub same_live : (id : ℕ) → is_stored new id ≡ is_stored old id
  pub same_literals : (id : ℕ) → literals_at new id ≡ literals_at old id

-- the same steps, which are as legal as they were, and the rows of other watches as they were
pub record Touches (pivot : Quant) (old new : State) : Type 0 where
  pub steps : SameSteps old new
  pub legal : (scopes : List Scope) → IsLegalFor scopes old → IsLegalFor scopes new
  pub agrees : AgreesElsewhere pivot (arena_of old) (arena_of new)

-- the other rows are attached as they were
abbrev pub KeepsOtherMarks : Arena → Arena → ℕ → Type 0
KeepsOtherMarks old new id = (i : ℕ) → i ≢ id → link_at new i 6 ≡ link_at old i 6

-- a row isn't attached to the watch any more, and each other one is attached as it was
pub record Unmarks (pivot : Quant) (old new : Arena) (id : ℕ) : Type 0 where
  pub gone : IsFalse (is_attached pivot new id)
  pub marks : (i : ℕ) → (link_at new i 6 ≡ link_at old i 6) ⊎ (link_at new i 6 ≡ None)
  pub others : KeepsOtherMarks old new id

-- a row is attached, and what was attached is so still; nothing else changes
pub record Joins (scopes : List Scope) (old new : SearchState) (id : ℕ) : Type 0 where
  pub intact : IsIntact scopes new
  pub steps : SameSteps old.derivation new.derivation
  pub trail : new.trail ≡ old.trail
  pub signs : new.signs ≡ old.signs
  pub watched : new.watched ≡ old.watched
  pub joined : new.joined ≡ old.joined
  pub here : (side : Quant) × IsAttached new side id
  pub stays : (side : Quant) (i : ℕ) → IsAttached old side i → IsAttached new side i
  pub others : KeepsOtherMarks (rows_of old) (rows_of new) id

-- what holds at every moment still does, for each prefix for which it did
abbrev pub KeepsIntact : SearchState → SearchState → Type 0
KeepsIntact old new = (scopes : List Scope) → IsIntact scopes old → IsIntact scopes new

-- a row isn't attached any more, and what isn't stays so; nothing else changes
pub record Parts (old new : SearchState) (id : ℕ) : Type 0 where
  pub intact : KeepsIntact old new
  pub steps : SameSteps old.derivation new.derivation
  pub trail : new.trail ≡ old.trail
  pub signs : new.signs ≡ old.signs
  pub watched : new.watched ≡ old.watched
  pub joined : new.joined ≡ old.joined
  pub gone : (side : Quant) → IsAttached new side id → ⊥
  pub stays : (side : Quant) (i : ℕ) → IsAttached new side i → IsAttached old side i
  pub others : KeepsOtherMarks (rows_of old) (rows_of new) id

-- a row may be attached; the search is else as it was
pub record Keeps (scopes : List Scope) (old new : SearchState) : Type 0 where
  pub searching : IsSearching scopes new
  pub steps : SameSteps old.derivation new.derivation
  pub trail : new.trail ≡ old.trail

-- the watches were asked: the search is as it was, but for what they looked at
pub record Looks (scopes : List Scope) (old new : SearchState) : Type 0 where
  pub searching : IsSearching scopes new
  pub steps : SameSteps old.derivation new.derivation
  pub trail : new.trail ≡ old.trail
  pub marks : KeepsMarks (rows_of old) (rows_of new)
  pub long : new.long ≡ old.long

-- Some rows were detached, and nothing else changed. Where all that were live are known to be attached still, those
-- that aren't are such as go.
pub record Sheds (goes : ℕ → Type 0) (old new : SearchState) : Type 0 where
  pub intact : KeepsIntact old new
  pub tallied : IsTallied new
  pub steps : SameSteps old.derivation new.derivation
  pub trail : new.trail ≡ old.trail
  pub watched : new.watched ≡ old.watched
  pub fewer : new.long ≤ old.long
  pub was : (side : Quant) (id : ℕ) → IsAttached new side id → IsAttached old side id
  pub joined : new.joined ≡ true → old.joined ≡ true
  pub stays : new.joined ≡ true → (side : Quant) (id : ℕ) → IsAttached old side id → IsAttached new side id ⊎ goes id

-- a row is attached to no watch
abbrev pub IsFree : SearchState → ℕ → Type 0
IsFree s id = (side : Quant) → IsAttached s side id → ⊥

-- no row is attached that falls with some steps
abbrev pub NoneFalls : StepTest → SearchState → Type 0
NoneFalls is_root s = (side : Quant) (id : ℕ) → IsAttached s side id → Falls is_root s.derivation.notes id → ⊥

-- a clause came in, with this reduction to watch, which isn't attached yet; what was attached is so still
pub record TakesIn (scopes : List Scope) (old new : SearchState) (id : ℕ) : Type 0 where
  pub intact : IsIntact scopes new
  pub tallied : IsTallied new
  pub live : IsTrue (is_live new.derivation id)
  pub trail : new.trail ≡ old.trail
  pub joined : new.joined ≡ old.joined
  pub watched : new.watched ≡ old.watched ++ id ∷ []
  pub stays : (side : Quant) (i : ℕ) → IsAttached old side i → IsAttached new side i
  pub was_live : (i : ℕ) → Contains old.watched i → IsTrue (is_live new.derivation i)
      → IsTrue (is_live old.derivation i)

-- clauses came in, with these reductions to watch, which aren't attached yet; what was attached is so still
pub record TakesAll (scopes : List Scope) (old new : SearchState) (ids : List ℕ) : Type 0 where
  pub intact : IsIntact scopes new
  pub tallied : IsTallied new
  pub live : (id : ℕ) → Contains ids id → IsTrue (is_live new.derivation id)
  pub trail : new.trail ≡ old.trail
  pub joined : new.joined ≡ old.joined
  pub watched : new.watched ≡ old.watched ++ ids
  pub stays : (side : Quant) (i : ℕ) → IsAttached old side i → IsAttached new side i
  pub was_live : (i : ℕ) → Contains old.watched i → IsTrue (is_live new.derivation i)
      → IsTrue (is_live old.derivation i)

-- these rows are attached, and what was attached is so still; nothing else changes
pub record JoinsAll (scopes : List Scope) (old new : SearchState) (ids : List ℕ) : Type 0 where
  pub intact : IsIntact scopes new
  pub tallied : IsTallied new
  pub steps : SameSteps old.derivation new.derivation
  pub trail : new.trail ≡ old.trail
  pub watched : new.watched ≡ old.watched
  pub joined : new.joined ≡ old.joined
  pub here : (id : ℕ) → Contains ids id → (side : Quant) × IsAttached new side id
  pub stays : (side : Quant) (i : ℕ) → IsAttached old side i → IsAttached new side i

-- a search with these watches, this trail and these rows
abbrev pub holding : SearchState → Watches → TrailState → Arena → SearchState
holding s w t rows = record s {
  derivation = record { notes = s.derivation.notes; rows = Some rows };
  trail = t;
  clauses = w.clauses;
  cubes = w.cubes;
}
