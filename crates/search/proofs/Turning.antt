-- Searches in which the trail changes.
use Rattle.std.proofs.Common.{◌≡◌, ◌<◌, ◌≢◌, ℕ, ◌+◌, ◌≤◌, Bool, true, false, not, List, length, Option, Some, None, is_none, refl, sym, ap, subst, ◌∙◌, arith}
use Rattle.std.proofs.lemmas.Bool.{false≢true}
use Rattle.std.proofs.lemmas.List.{length_push}
use Rattle.prefix.specs.declared.quant.Quant.{Quant}
use Rattle.prefix.specs.declared.quant.Quant.TheVariants.{Exists, Forall}
use Rattle.prefix.specs.Literal.{Literal}
use Rattle.prefix.specs.Scopes.{Scope, quantifier_of}
use Rattle.steps.specs.Counter.{Counter, after}
use Rattle.truth.specs.Matrix.{same}
use Rattle.calculus.specs.Rows.{is_bad_at, is_pivot}
use Rattle.calculus.specs.Search.{AreTheAssumptions, Cause, IsUnitIn, good_literal, literals_on, value_on}
use Rattle.calculus.specs.Search.Cause.{Assumed, Propagated}
use Rattle.calculus.proofs.Assuming.{push}
use Rattle.calculus.proofs.RowLemmas.{same_true}
use Rattle.trail.specs.State.{TrailState, IsTrailFor, with_literal}
use Rattle.derive.specs.State.{State, clauses_of, row_of}
use Rattle.watch.specs.State.{Holds, IsFront, looked}
use Rattle.watch.specs.Laws.{LookingLaws}
use Rattle.clean.specs.Laws.{HasReason}
use Rattle.clean.specs.Reasons.{HaveReasons, IsReducedStep}
use Rattle.clean.proofs.Reasoning.{assigned_have}
use Rattle.search.specs.State.{AreWatched, IsIntact, IsPaused, IsSearching, IsTallied, SearchState, rows_of, watch_of}
use Rattle.search.specs.Counting.{size_of}
use Rattle.search.specs.Long.{long_in}
use Rattle.search.specs.Moves.{Advances}
use Rattle.search.proofs.Aging.{older_equal}
use Rattle.search.proofs.Counting.{counted_push}

-- the watches of two searches
pub same_watch : (s new : SearchState) → new.clauses ≡ s.clauses → new.cubes ≡ s.cubes → (side : Quant)
    → watch_of side new ≡ watch_of side s
same_watch s new clauses cubes Exists = clauses
same_watch s new clauses cubes Forall = cubes

-- the same rows to watch
pub same_watched : (scopes : List Scope) (s new : SearchState) → new.derivation ≡ s.derivation
    → new.watched ≡ s.watched → AreWatched scopes s → AreWatched scopes new
same_watched scopes s new derivation watched h = record {
  marked = rw derivation h.marked;
  sides = rw derivation h.sides;
  listed = rw (derivation, watched) h.listed;
  given = rw (derivation, watched) h.given;
  steps = rw (derivation, watched) h.steps;
  clauses = rw (derivation, watched) h.clauses;
}

-- the same derivation and count
pub tally_moved : (s new : SearchState) → new.derivation ≡ s.derivation → new.long ≡ s.long → IsTallied s
    → IsTallied new
tally_moved s new derivation long tallied = long ∙ (tallied ∙ ap long_in (sym derivation))

-- only the trail changes
pub record TrailChanges (s new : SearchState) : Type 0 where
  pub derivation : new.derivation ≡ s.derivation
  pub clauses : new.clauses ≡ s.clauses
  pub cubes : new.cubes ≡ s.cubes
  pub signs : new.signs ≡ s.signs
  pub watched : new.watched ≡ s.watched
  pub long : new.long ≡ s.long
  pub room : new.trail.room ≡ s.trail.room

pub changes_of : (v s : SearchState) (t : TrailState) → v ≡ s → t.room ≡ v.trail.room
    → TrailChanges s (record v { trail = t })
changes_of v s t e room = record {
  derivation = ap (λ (x : SearchState). x.derivation) e;
  clauses = ap (λ (x : SearchState). x.clauses) e;
  cubes = ap (λ (x : SearchState). x.cubes) e;
  signs = ap (λ (x : SearchState). x.signs) e;
  watched = ap (λ (x : SearchState). x.watched) e;
  long = ap (λ (x : SearchState). x.long) e;
  room = room ∙ ap (λ (x : SearchState). x.trail.room) e;
}

module _ (scopes : List Scope) (s new : SearchState) (changes : TrailChanges s new) where
  pub intact_trail : IsIntact scopes s → IsTrailFor scopes new.trail
      → ((side : Quant) → IsFront (looked (watch_of side s)) (literals_on new.trail.placed)) → IsIntact scopes new
  intact_trail intact trail front =
      let watch = same_watch s new changes.clauses changes.cubes in
      record {
        trail = trail;
        has_rows = rw changes.derivation intact.has_rows;
        legal = rw changes.derivation intact.legal;
        watched = same_watched scopes s new changes.derivation changes.watched intact.watched;
        watching = record {
          holds = λ side. subst (λ (d : State). Holds side scopes (watch_of side new)
              (rows_of (record s { derivation = d }))) (sym changes.derivation)
              (rw (watch side) (intact.watching.holds side));
          front = λ side. rw (watch side) (front side);
          room = λ side. rw (watch side, changes.room) (intact.watching.room side);
        };
        room = record { trail = rw changes.room intact.room.trail; signs = rw changes.signs intact.room.signs };
      }

  pub paused_trail : IsPaused scopes s → IsTrailFor scopes new.trail
      → ((side : Quant) → IsFront (looked (watch_of side s)) (literals_on new.trail.placed)) → IsPaused scopes new
  paused_trail paused trail front =
      record {
        intact = intact_trail paused.intact trail front;
        attached =
            rw (changes.derivation, changes.watched) paused.attached;
        tallied = tally_moved s new changes.derivation changes.long paused.tallied;
      }

-- the literal that a unit row makes good

same_self : (b : Bool) → same b b ≡ true
same_self true = refl
same_self false = refl

same_not : (b : Bool) → same (not b) b ≡ false
same_not true = refl
same_not false = refl

pub asked_good : (side : Quant) (kept : Literal) → is_bad_at side (good_literal side kept).positive kept ≡ false
asked_good Exists kept = ap (λ t. same t false) (same_self kept.positive)
asked_good Forall kept = ap (λ t. same t true) (same_not kept.positive)

pub asked_over : (side : Quant) (kept : Literal) → (good_literal side kept).variable ≡ kept.variable
asked_over Exists kept = refl
asked_over Forall kept = refl

-- an open variable is unassigned
pub none_open : (o : Option Bool) → is_none o ≡ true → o ≡ None
none_open None h = refl
none_open (Some b) h = absurd (false≢true h)

-- a reason of it
pub reason_asked : (side pivot : Quant) (scopes : List Scope) (s : SearchState) (kept : Literal) (row id : ℕ)
    → IsReducedStep side scopes s.derivation row
    → IsUnitIn side scopes (value_on s.trail.placed) (row_of s.derivation row) kept → Propagated row ≡ Propagated id
    → is_pivot pivot scopes (good_literal side kept) ≡ true
    → HasReason pivot scopes s.derivation s.trail.placed (good_literal side kept) id
reason_asked side pivot scopes s kept row id step unit e of_pivot =
    let over = asked_over side kept in
    let here : quantifier_of scopes kept.variable ≡ Some side =
    same_true (quantifier_of scopes kept.variable) side unit.pivot_type in
    let there : quantifier_of scopes (good_literal side kept).variable ≡ Some pivot =
    same_true (quantifier_of scopes (good_literal side kept).variable) pivot of_pivot in
    let one : side ≡ pivot =
    (let g : Some side ≡ Some pivot = sym here ∙ (ap (quantifier_of scopes) (sym over) ∙ there) in cc) in
    let same_id : row ≡ id = cc in
    subst (λ p. HasReason p scopes s.derivation s.trail.placed (good_literal side kept) id) one
    (subst (λ i. HasReason side scopes s.derivation s.trail.placed (good_literal side kept) i) same_id (record {
      kept = kept;
      over = sym over;
      good = asked_good side kept;
      step = step;
      unit = unit;
    }))

-- a literal was assigned
pub advances : (scopes : List Scope) (s new : SearchState) (value : Literal) (cause : Cause) (before : Counter)
    → LookingLaws → IsSearching scopes s → TrailChanges s new → new.trail ≡ with_literal scopes s.trail value cause
    → IsTrailFor scopes new.trail → value_on s.trail.placed value.variable ≡ None → cause ≢ Assumed
    → ((pivot : Quant) (id : ℕ) → cause ≡ Propagated id → is_pivot pivot scopes value ≡ true
    → HasReason pivot scopes s.derivation s.trail.placed value id) → before.spent ≤ before.budget
    → before.spent ≢ before.budget → (s.trail.assigned ≤ before.spent → new.trail.assigned ≡ s.trail.assigned + 1)
    → Advances scopes 0 s new before (after before 1)
advances scopes s new value cause before laws searching changes is trail fresh other reason within room rises =
    let intact = searching.paused.intact in
    let front : (side : Quant) → IsFront (looked (watch_of side s)) (literals_on new.trail.placed) =
    λ side. subst (λ (t : TrailState). IsFront (looked (watch_of side s)) (literals_on t.placed)) (sym is)
    (laws.assigned (watch_of side s) scopes s.trail value cause (intact.watching.front side)) in
    record {
      searching = record {
        paused = paused_trail scopes s new changes searching.paused trail front;
        reasons = λ side. subst (λ (t : TrailState). HaveReasons side scopes new.derivation t) (sym is)
            (subst (λ (d : State). HaveReasons side scopes d (with_literal scopes s.trail value cause))
            (sym changes.derivation) (assigned_have side scopes s.derivation s.trail value cause intact.trail.marked
            fresh (reason side) (searching.reasons side)));
      };
      clauses = ap clauses_of changes.derivation;
      older = older_equal s.derivation new.derivation changes.derivation;
      assumed = λ assumptions h. subst (λ (t : TrailState). AreTheAssumptions t.placed assumptions) (sym is)
          (push s.trail.placed assumptions (record { literal = value; cause = cause }) other h);
      allowed = ap (λ (t : TrailState). t.allowed) is;
      budget = refl;
      rises = omega arith;
      counted = λ start h. let r = counted_push (size_of scopes) start s.trail new.trail before intact.trail.marked
          (ap (λ (t : TrailState). t.marks) is) (ap (λ (t : TrailState). length t.placed) is
          ∙ length_push s.trail.placed (record { literal = value; cause = cause })) within room rises h in
          let same : new.trail.restarts ≡ s.trail.restarts = ap (λ (t : TrailState). t.restarts) is in
          let more : s.trail.assigned < new.trail.assigned = r.1 in
          (r.0, omega arith);
    }
