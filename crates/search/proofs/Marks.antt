-- Marks of rows, and searches in which they change while the steps stay.
use Rattle.std.proofs.Common.{◌≡◌, ◌≢◌, ℕ, ◌<◌, ◌≤◌, ◌⊎◌, true, false, List, Option, Some, None, Contains, IsTrue, is_some, length, nat_eq, refl, sym, ap, subst, ◌∙◌, inl, inr, ⊎_elim}
use Rattle.std.proofs.lemmas.Bool.{false≢true, eqb-true, eq-eqb}
use Rattle.prefix.specs.declared.quant.Quant.{Quant}
use Rattle.prefix.specs.declared.quant.Quant.TheVariants.{Exists, Forall}
use Rattle.prefix.specs.Literal.{negation}
use Rattle.prefix.specs.Scopes.{Scope, all_variables}
use Rattle.rows.specs.Arena.{Arena, link_at}
use Rattle.calculus.specs.Rows.{Row, reduce}
use Rattle.calculus.specs.Search.{IsCleanBut, IsUnitIn, before_on, literals_on, value_on}
use Rattle.trail.specs.State.{IsTrailFor, TrailState}
use Rattle.decide.specs.Memory.{Memory}
use Rattle.derive.specs.State.{IsLegalFor, Note, Notes, OpenClause, State, is_live, may_be_antecedent, note_at, note_in, row_of, side_at, side_in, tag_in, why_in}
use Rattle.derive.specs.Adding.{IsReductionOf}
use Rattle.watch.specs.Links.{is_at, is_attached, mark_of}
use Rattle.watch.specs.State.{Holds, IsFront, IsUnattached, WatchState, looked}
use Rattle.watch.specs.Laws.{HoldingLaws}
use Rattle.clean.specs.Reasons.{HaveReasons, IsReason, IsReducedStep}
use Rattle.search.specs.State.{AreMarked, AreWatched, AreWatching, IsAttached, IsIntact, SearchState, rows_of, watch_of}
use Rattle.search.specs.Moves.{SameSteps}
use Rattle.search.specs.Watching.{AgreesElsewhere}

-- of each side: of one, and of the other
pub by_side : (P : Quant → Type 0) (pivot : Quant) → P pivot → ((other : Quant) → pivot ≢ other → P other)
    → (side : Quant) → P side
by_side P Exists here there Exists = here
by_side P Exists here there Forall = there Forall (λ e. let g : Exists ≡ Forall = e in cc)
by_side P Forall here there Exists = there Exists (λ e. let g : Forall ≡ Exists = e in cc)
by_side P Forall here there Forall = here

-- marks

pub same_mark : (side : Quant) (old new : Arena) (id : ℕ) → link_at new id 6 ≡ link_at old id 6
    → is_attached side new id ≡ is_attached side old id
same_mark side old new id e = ap (λ o. is_at o (mark_of side)) e

pub not_attached : (side : Quant) (arena : Arena) (id : ℕ) → IsUnattached arena id → is_attached side arena id ≡ false
not_attached side arena id e = ap (λ o. is_at o (mark_of side)) e

pub by_mark : (side : Quant) (arena : Arena) (id : ℕ) → link_at arena id 6 ≡ Some (mark_of side)
    → is_attached side arena id ≡ true
by_mark side arena id e = ap (λ o. is_at o (mark_of side)) e ∙ eq-eqb (mark_of side) (mark_of side) refl

at_one : (o : Option ℕ) (m n : ℕ) → is_at o m ≡ true → nat_eq m n ≡ false → is_at o n ≡ false
at_one None m n h f = refl
at_one (Some k) m n h f = ap (λ j. nat_eq j n) (eqb-true k m h) ∙ f

pub one_side : (p q : Quant) (arena : Arena) (id : ℕ) → is_attached p arena id ≡ true → is_attached q arena id ≡ true
    → p ≡ q
one_side Exists Exists arena id a b = refl
one_side Exists Forall arena id a b = absurd (false≢true (sym (at_one (link_at arena id 6) 0 1 a refl) ∙ b))
one_side Forall Exists arena id a b = absurd (false≢true (sym (at_one (link_at arena id 6) 1 0 a refl) ∙ b))
one_side Forall Forall arena id a b = refl

pub marked_as_was : (old new : Arena) (id : ℕ) → link_at new id 6 ≡ link_at old id 6
    → (IsUnattached old id ⊎ ((side : Quant) × IsTrue (is_attached side old id)))
    → IsUnattached new id ⊎ ((side : Quant) × IsTrue (is_attached side new id))
marked_as_was old new id e m = ⊎_elim (λ none. inl (e ∙ none)) (λ a. inr (a.0, same_mark a.0 old new id e ∙ a.1)) m

-- steps that stay

pub step_live : (o : Option Note) → may_be_antecedent o ≡ true → is_some o ≡ true
step_live None h = absurd (false≢true h)
step_live (Some note) h = refl

pub reduced_by : (pivot : Quant) (scopes : List Scope) (old new : State) (id : ℕ) → note_at new id ≡ note_at old id
    → row_of new id ≡ row_of old id → IsReducedStep pivot scopes old id → IsReducedStep pivot scopes new id
reduced_by pivot scopes old new id note row is = record {
  step = ap may_be_antecedent note ∙ is.step;
  of_side = ap side_in note ∙ is.of_side;
  reduced = ap (reduce pivot scopes) row ∙ (is.reduced ∙ sym row);
}

pub reduction_by : (scopes : List Scope) (old new : State) (c : OpenClause) (id : ℕ) → note_at new id ≡ note_at old id
    → row_of new id ≡ row_of old id → IsReductionOf scopes old c id → IsReductionOf scopes new c id
reduction_by scopes old new c id note row is = record {
  step = ap may_be_antecedent note ∙ is.step;
  of_side = ap side_in note ∙ is.of_side;
  literals = row ∙ is.literals;
  tag = ap tag_in note ∙ is.tag;
  rests = ⊎_elim inl (λ e. inr (ap why_in note ∙ e)) is.rests;
}

module _ (old new : State) (same : SameSteps old new) where
  pub note_same : (id : ℕ) → note_at new id ≡ note_at old id
  note_same id = ap (λ (notes : Notes). note_in notes id) same.notes

  pub live_same : (id : ℕ) → is_live new id ≡ is_live old id
  live_same id = ap is_some (note_same id)

  pub reduced_same : (pivot : Quant) (scopes : List Scope) (id : ℕ) → IsReducedStep pivot scopes old id
      → IsReducedStep pivot scopes new id
  reduced_same pivot scopes id is = reduced_by pivot scopes old new id (note_same id) (same.literals id) is

  pub reasons_same : (side : Quant) (scopes : List Scope) (t : TrailState) → HaveReasons side scopes old t
      → HaveReasons side scopes new t
  reasons_same side scopes t have l id pivot bad cause =
      let r : IsReason side scopes old t (negation l) id = have l id pivot bad cause in
      record {
        step = reduced_same side scopes id r.step;
        unit = subst (λ (row : Row). IsUnitIn side scopes (value_on (before_on t.placed (negation l).variable)) row
            (negation l)) (sym (same.literals id)) r.unit;
        clean = λ marked. subst (λ (row : Row). IsCleanBut side t.placed (negation l) row) (sym (same.literals id))
            (r.clean marked);
      }

-- same steps after same steps
pub steps_then : (a b c : State) → SameSteps a b → SameSteps b c → SameSteps a c
steps_then a b c one two = record {
  notes = two.notes ∙ one.notes;
  has_rows = two.has_rows;
  literals = λ id. two.literals id ∙ one.literals id;
  clauses = two.clauses ∙ one.clauses;
}

-- a row may be attached: a live one, to the watch of its side, which is one of those to watch
abbrev pub MayJoin : SearchState → Quant → ℕ → Type 0
MayJoin s side id = Contains s.watched id × IsTrue (is_live s.derivation id) × (side_at s.derivation id ≡ side)

-- the same steps and rows to watch; what is attached was so, or may be
pub record StaysWatched (old new : SearchState) : Type 0 where
  pub steps : SameSteps old.derivation new.derivation
  pub watched : new.watched ≡ old.watched
  pub marked : AreMarked (rows_of new)
  pub attached : (side : Quant) (id : ℕ) → IsAttached new side id → IsAttached old side id ⊎ MayJoin old side id

module _ (scopes : List Scope) (old new : SearchState) (stays : StaysWatched old new)
    (was : AreWatched scopes old) where
  was_reduced : (side : Quant) (id : ℕ) → IsAttached new side id → IsReducedStep side scopes old.derivation id
  was_reduced side id a =
      ⊎_elim
      (λ before. was.sides side id before)
      (λ may. subst (λ p. IsReducedStep p scopes old.derivation id) may.2 (was.steps id may.0 may.1))
      (stays.attached side id a)

  pub watched_stays : AreWatched scopes new
  watched_stays =
      let same = stays.steps in
      record {
        marked = stays.marked;
        sides = λ side id a. reduced_same old.derivation new.derivation same side scopes id (was_reduced side id a);
        listed = λ side id a. subst (λ ids. Contains ids id) (sym stays.watched)
            (⊎_elim (λ before. was.listed side id before) (λ may. may.0) (stays.attached side id a));
        given = λ id i. subst (λ (notes : Notes). id < length notes) (sym same.notes)
            (was.given id (subst (λ ids. Contains ids id) stays.watched i));
        steps =
            λ id i live.
            let note = note_same old.derivation new.derivation same id in
            let before = was.steps id (subst (λ ids. Contains ids id) stays.watched i)
            (sym (live_same old.derivation new.derivation same id) ∙ live) in
            subst (λ p. IsReducedStep p scopes new.derivation id) (sym (ap side_in note))
            (reduced_same old.derivation new.derivation same (side_at old.derivation id) scopes id before);
        clauses =
            λ c i.
            let r = was.clauses c (subst (λ cs. Contains cs c) same.clauses i) in (
              r.0,
              subst (λ ids. Contains ids r.0) (sym stays.watched) r.1,
              reduction_by scopes old.derivation
                  new.derivation c r.0 (note_same old.derivation new.derivation same r.0) (same.literals r.0) r.2,
            );
      }

-- and of one watch too, which holds its rows; the trail, the signs and the other watch are as they were
pub record StaysIntact (pivot : Quant) (scopes : List Scope) (old new : SearchState) : Type 0 where
  pub watched : StaysWatched old new
  pub trail : new.trail ≡ old.trail
  pub signs : new.signs ≡ old.signs
  pub legal : (prefix : List Scope) → IsLegalFor prefix old.derivation → IsLegalFor prefix new.derivation
  pub others : (other : Quant) → pivot ≢ other → watch_of other new ≡ watch_of other old
  pub agrees : AgreesElsewhere pivot (rows_of old) (rows_of new)
  pub holds : Holds pivot scopes (watch_of pivot new) (rows_of new)
  pub front : IsFront (looked (watch_of pivot new)) (literals_on old.trail.placed)
  pub room : (watch_of pivot new).room ≡ (watch_of pivot old).room

module _ (laws : HoldingLaws) (pivot : Quant) (scopes : List Scope) (old new : SearchState)
    (stays : StaysIntact pivot scopes old new) (intact : IsIntact scopes old) where
  watching_stays : AreWatching scopes new
  watching_stays = record {
    holds =
        by_side (λ side. Holds side scopes (watch_of side new) (rows_of new)) pivot stays.holds
        (λ other apart. subst (λ (w : WatchState). Holds other scopes w (rows_of new))
        (sym (stays.others other apart)) (laws.agrees other scopes (watch_of other old) (rows_of old) (rows_of new)
        (stays.agrees other apart) (intact.watching.holds other)));
    front =
        λ side.
        subst (λ (t : TrailState). IsFront (looked (watch_of side new)) (literals_on t.placed)) (sym stays.trail)
        (by_side (λ side. IsFront (looked (watch_of side new)) (literals_on old.trail.placed)) pivot stays.front
        (λ other apart. subst (λ (w : WatchState). IsFront (looked w) (literals_on old.trail.placed))
        (sym (stays.others other apart)) (intact.watching.front other)) side);
    room =
        λ side.
        subst (λ (t : TrailState). t.room ≤ (watch_of side new).room) (sym stays.trail)
        (by_side (λ side. old.trail.room ≤ (watch_of side new).room) pivot
        (subst (λ n. old.trail.room ≤ n) (sym stays.room) (intact.watching.room pivot))
        (λ other apart. subst (λ (w : WatchState). old.trail.room ≤ w.room) (sym (stays.others other apart))
        (intact.watching.room other)) side);
  }

  pub intact_stays : IsIntact scopes new
  intact_stays = record {
    trail = subst (IsTrailFor scopes) (sym stays.trail) intact.trail;
    has_rows = stays.watched.steps.has_rows;
    legal = stays.legal scopes intact.legal;
    watched = watched_stays scopes old new stays.watched intact.watched;
    watching = watching_stays;
    room = record {
      trail = subst (λ (t : TrailState). (x : ℕ) → Contains (all_variables scopes) x → x ≤ t.room)
          (sym stays.trail) intact.room.trail;
      signs = subst (λ (m : Memory). (x : ℕ) → Contains (all_variables scopes) x → x ≤ length m)
          (sym stays.signs) intact.room.signs;
    };
  }
