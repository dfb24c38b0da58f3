-- A row is attached, or detached.
use Rattle.std.proofs.Common.{◌≡◌, ◌≢◌, ℕ, ◌⊎◌, List, Some, IsTrue, nat_eq, sym, subst, ◌∙◌, inl, inr, ⊎_elim, arith}
use Rattle.std.proofs.lemmas.Bool.{cases_Bool, false≢true, eqb-true, eq-eqb}
use Rattle.prefix.specs.declared.quant.Quant.{Quant}
use Rattle.prefix.specs.Literal.{Literal}
use Rattle.prefix.specs.Scopes.{Scope}
use Rattle.calculus.specs.Search.{literals_on}
use Rattle.derive.specs.State.{is_step, row_of, side_at}
use Rattle.watch.specs.Links.{mark_of}
use Rattle.watch.specs.State.{Attaches, GoesOnHolding, Holds, IsFront, IsRoomFor, KeepsLooked}
use Rattle.watch.specs.Laws.{HoldingLaws}
use Rattle.clean.proofs.Keeping.{step_row}
use Rattle.search.specs.State.{AreMarked, IsAttached, IsIntact, SearchState, rows_of, watch_of}
use Rattle.search.specs.Watching.{Joins, Parts, Touches, Unmarks}
use Rattle.search.proofs.Marks.{MayJoin, StaysWatched, by_mark, by_side, intact_stays, marked_as_was, not_attached, one_side, same_mark}

-- the variables of a live step have room in each watch
pub row_known : (scopes : List Scope) (s : SearchState) (id : ℕ) → IsIntact scopes s
    → IsTrue (is_step s.derivation id) → (side : Quant)
    → IsRoomFor scopes (watch_of side s).room (row_of s.derivation id)
row_known scopes s id intact step side literal stands =
    let known = (step_row scopes s.derivation id intact.legal step).over_prefix literal stands in
    let on_trail = intact.room.trail literal.variable known in
    let on_watch = intact.watching.room side in
    (known, omega arith)

-- the same number, or another one
pub same_or_not : (i id : ℕ) → (i ≡ id) ⊎ (i ≢ id)
same_or_not i id = ⊎_elim (λ t. inl (eqb-true i id t)) (λ f. inr (λ e. false≢true (sym f ∙ eq-eqb i id e)))
    (cases_Bool (nat_eq i id))

-- all but a derivation and a watch is as it was, and the watch looked at what it had
pub record IsElseSame (pivot : Quant) (old new : SearchState) : Type 0 where
  pub trail : new.trail ≡ old.trail
  pub signs : new.signs ≡ old.signs
  pub watched : new.watched ≡ old.watched
  pub joined : new.joined ≡ old.joined
  pub others : (other : Quant) → pivot ≢ other → watch_of other new ≡ watch_of other old
  pub touches : Touches pivot old.derivation new.derivation
  pub looked : KeepsLooked (watch_of pivot old) (watch_of pivot new)

module _ (laws : HoldingLaws) (pivot : Quant) (scopes : List Scope) (old new : SearchState)
    (same : IsElseSame pivot old new) (intact : IsIntact scopes old) where
  else_intact : StaysWatched old new → Holds pivot scopes (watch_of pivot new) (rows_of new) → IsIntact scopes new
  else_intact stays holds =
      intact_stays laws pivot scopes old new (record {
        watched = stays;
        trail = same.trail;
        signs = same.signs;
        legal = same.touches.legal;
        others = same.others;
        agrees = same.touches.agrees;
        holds = holds;
        front = subst (λ (ls : List Literal). IsFront ls (literals_on old.trail.placed)) (sym same.looked.looked)
            (intact.watching.front pivot);
        room = same.looked.room;
      }) intact

module _ (laws : HoldingLaws) (pivot : Quant) (scopes : List Scope) (old new : SearchState)
    (same : IsElseSame pivot old new) (intact : IsIntact scopes old) where
  module _ (id : ℕ) (attaches : Attaches pivot (rows_of old) (rows_of new) id (Some (mark_of pivot)))
      (may : MayJoin old pivot id) where
    here : IsAttached new pivot id
    here = by_mark pivot (rows_of new) id attaches.marked

    joined_marks : AreMarked (rows_of new)
    joined_marks i =
        ⊎_elim
        (λ e. inr (pivot, subst (λ j. IsAttached new pivot j) (sym e) here))
        (λ ne. marked_as_was (rows_of old) (rows_of new) i (attaches.same_attached i ne) (intact.watched.marked i))
        (same_or_not i id)

    joined_was : (side : Quant) (i : ℕ) → IsAttached new side i → IsAttached old side i ⊎ MayJoin old side i
    joined_was side i a =
        ⊎_elim
        (λ e.
        let one : pivot ≡ side = one_side pivot side (rows_of new) id here (subst (λ j. IsAttached new side j) e a) in
        inr (subst (λ j. MayJoin old side j) (sym e) (may.0, may.1, may.2 ∙ one)))
        (λ ne. inl (sym (same_mark side (rows_of old) (rows_of new) i (attaches.same_attached i ne)) ∙ a))
        (same_or_not i id)

    joined_stays : (side : Quant) (i : ℕ) → IsAttached old side i → IsAttached new side i
    joined_stays side i a =
        ⊎_elim
        (λ e.
        let of_side : side_at old.derivation id ≡ side =
        (intact.watched.sides side id (subst (λ j. IsAttached old side j) e a)).of_side in
        subst (λ p. IsAttached new p i) (sym may.2 ∙ of_side) (subst (λ j. IsAttached new pivot j) (sym e) here))
        (λ ne. same_mark side (rows_of old) (rows_of new) i (attaches.same_attached i ne) ∙ a)
        (same_or_not i id)

    pub joins : Holds pivot scopes (watch_of pivot new) (rows_of new) → Joins scopes old new id
    joins holds = record {
      intact = else_intact laws pivot scopes old new same intact (record {
        steps = same.touches.steps;
        watched = same.watched;
        marked =
            joined_marks;
        attached = joined_was;
      }) holds;
      steps = same.touches.steps;
      trail = same.trail;
      signs = same.signs;
      watched = same.watched;
      joined = same.joined;
      here = (pivot, here);
      stays = joined_stays;
      others = attaches.same_attached;
    }

  module _ (id : ℕ) (unmarks : Unmarks pivot (rows_of old) (rows_of new) id)
      (of_side : side_at old.derivation id ≡ pivot) where
    parted_marks : AreMarked (rows_of new)
    parted_marks i =
        ⊎_elim
        (λ e. marked_as_was (rows_of old) (rows_of new) i e (intact.watched.marked i))
        (λ none. inl none)
        (unmarks.marks i)

    parted_stays : (side : Quant) (i : ℕ) → IsAttached new side i → IsAttached old side i
    parted_stays side i a =
        ⊎_elim
        (λ e. sym (same_mark side (rows_of old) (rows_of new) i e) ∙ a)
        (λ none. absurd (false≢true (sym (not_attached side (rows_of new) i none) ∙ a)))
        (unmarks.marks i)

    parted_gone : (side : Quant) → IsAttached new side id → ⊥
    parted_gone =
        by_side (λ side. IsAttached new side id → ⊥) pivot
        (λ a. false≢true (sym unmarks.gone ∙ a))
        (λ other apart a. apart (sym of_side ∙ (intact.watched.sides other id (parted_stays other id a)).of_side))

    pub parts : GoesOnHolding pivot (watch_of pivot old) (rows_of old) (watch_of pivot new) (rows_of new)
        → Parts old new id
    parts holds = record {
      intact = λ prefix known. else_intact laws pivot prefix old new same known (record {
        steps = same.touches.steps;
        watched = same.watched;
        marked =
            parted_marks;
        attached = λ side i a. inl (parted_stays side i a);
      })
          (holds prefix (known.watching.holds pivot));
      steps = same.touches.steps;
      trail = same.trail;
      signs = same.signs;
      watched = same.watched;
      joined = same.joined;
      gone = parted_gone;
      stays = parted_stays;
      others = unmarks.others;
    }

-- a row that is attached is so to the watch of its side
pub attached_own : (scopes : List Scope) (s : SearchState) (id : ℕ) → IsIntact scopes s
    → (side : Quant) × IsAttached s side id → IsAttached s (side_at s.derivation id) id
attached_own scopes s id intact a =
    subst (λ p. IsAttached s p id) (sym (intact.watched.sides a.0 id a.1).of_side) a.1
