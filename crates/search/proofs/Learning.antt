-- Searches whose derivation gets more steps, and whose reasons are made clean.
use Rattle.std.proofs.Common.{◌≡◌, ℕ, suc, cond, nat_eq, ◌+◌, ◌*◌, ◌≤◌, ◌<◌, true, List, [], ◌∷◌, length, Option, Some, None, Result, Ok, Err, IfOk, OnOk, OnErr, Contains, IsTrue, refl, sym, ap, subst, ◌∙◌, inl, inr, ⊎_elim, arith}
use Rattle.std.specs.Prelude.{slice_index_or}
use Rattle.std.specs.Option.{option_map}
use Rattle.std.proofs.lemmas.Bool.{cases_Bool, false≢true}
use Rattle.prefix.specs.declared.quant.Quant.{Quant}
use Rattle.prefix.specs.Scopes.{Scope}
use Rattle.rows.specs.Arena.{StoredRow, link_at, links_of, literals_of}
use Rattle.steps.specs.Counter.{Counter}
use Rattle.truth.specs.Truth.{assumed_value}
use Rattle.calculus.specs.Search.{Cause, IsBadRow, Trail, Placed, cause_on, last_level, last_level_from, level_after, is_decision, literals_on, value_on}
use Rattle.calculus.specs.Search.Cause.{Assumed, Decided, Propagated}
use Rattle.calculus.proofs.Sizes.{trail_length}
use Rattle.calculus.proofs.Trails.{cause_here, cause_past}
use Rattle.trail.specs.State.{TrailState, IsTrailFor}
use Rattle.derive.specs.State.{State, OpenClause, IsLegalFor, SameStep, arena_of, clauses_of, is_live, may_be_antecedent, next_id, note_at, row_of, side_at, side_in, tag_in, why_in}
use Rattle.derive.specs.Adding.{IsReductionOf}
use Rattle.derive.specs.Growing.{GainsSteps}
use Rattle.watch.specs.Links.{is_at, is_attached, mark_of}
use Rattle.watch.specs.State.{AgreesOn, Holds, IsFront, WatchState, looked}
use Rattle.watch.specs.Laws.{AgreeingLaws, HoldingLaws}
use Rattle.clean.specs.Marks.{CleansReasons, KeepsReasons, MarksMore, StopsCleaning, kind_of, kinds_on, marks_left}
use Rattle.clean.specs.Reasons.{IsReducedStep}
use Rattle.clean.proofs.Circling.{same_placed}
use Rattle.clean.proofs.Keeping.{reasons_stay, reduced_stays, step_lives}
use Rattle.search.specs.State.{AreAttached, AreMarked, AreWatched, IsIntact, IsResting, IsSearching, IsTallied, SearchState, rows_of, watch_of}
use Rattle.analyse.specs.Lessons.{NeedsResolution}
use Rattle.search.specs.Counting.{size_of}
use Rattle.search.specs.Moves.{Analyses, Halts, KeepsAssumptions, KeepsOlder, WasDue}
use Rattle.search.specs.Moves.IsDue.{bad}
use Rattle.search.proofs.Counting.{bounded_more, counted_owed}
use Rattle.search.proofs.Tallying.{tally_gained}
use Rattle.search.proofs.Turning.{same_watch}

-- some steps came in: what is attached stays so, and no other row is

module _ (scopes : List Scope) (old new : State) (gains : GainsSteps old new) where
  live_of : (side : Quant) (id : ℕ) → IsReducedStep side scopes old id → is_live old id ≡ true
  live_of side id step = step_lives (note_at old id) step.step

  -- the field with the mark
  mark_live : (id : ℕ) → is_live old id ≡ true → link_at (arena_of new) id 6 ≡ link_at (arena_of old) id 6
  mark_live id live = ap (λ (o : Option StoredRow). slice_index_or (links_of o) 6 None) (gains.grows.others id live).row

  module _ (sides : (side : Quant) (id : ℕ) → IsTrue (is_attached side (arena_of old) id)
      → IsReducedStep side scopes old id) where
    attached_stays : (side : Quant) (id : ℕ) → is_attached side (arena_of old) id ≡ true
        → is_attached side (arena_of new) id ≡ true
    attached_stays side id h =
        ap (λ (o : Option ℕ). is_at o (mark_of side)) (mark_live id (live_of side id (sides side id h))) ∙ h

    attached_before : (side : Quant) (id : ℕ) → is_attached side (arena_of new) id ≡ true
        → is_attached side (arena_of old) id ≡ true
    attached_before side id h =
        ⊎_elim
        (λ live. ap (λ (o : Option ℕ). is_at o (mark_of side)) (sym (mark_live id live)) ∙ h)
        (λ dead. absurd (false≢true (ap (λ (o : Option ℕ). is_at o (mark_of side)) (sym (gains.unlinked id 6 dead))
        ∙ h)))
        (cases_Bool (is_live old id))

    agrees_gained : AgreeingLaws → (side : Quant) → AgreesOn side (arena_of old) (arena_of new)
    agrees_gained laws side =
        laws.same_rows side (arena_of old) (arena_of new)
        (λ id h. (gains.grows.others id (live_of side id (sides side id h))).row) (attached_before side)

  marked_gained : AreMarked (arena_of old) → AreMarked (arena_of new)
  marked_gained marked id =
      ⊎_elim
      (λ live. ⊎_elim (λ none. inl (mark_live id live ∙ none))
      (λ some. inr (some.0, ap (λ (o : Option ℕ). is_at o (mark_of some.0)) (mark_live id live) ∙ some.1)) (marked id))
      (λ dead. inl (gains.unlinked id 6 dead))
      (cases_Bool (is_live old id))

  pub reduction_stays : (c : OpenClause) (id : ℕ) → IsReductionOf scopes old c id → IsReductionOf scopes new c id
  reduction_stays c id r =
      let same : SameStep old new id = gains.grows.others id (step_lives (note_at old id) r.step) in
      record {
        step = ap may_be_antecedent same.note ∙ r.step;
        of_side = ap side_in same.note ∙ r.of_side;
        literals = ap literals_of same.row ∙ r.literals;
        tag = ap tag_in same.note ∙ r.tag;
        rests = ⊎_elim inl (λ e. inr (ap why_in same.note ∙ e)) r.rests;
      }

  step_again : (id : ℕ) → id < next_id old → is_live new id ≡ true
      → ((is_live old id ≡ true) → IsReducedStep (side_at old id) scopes old id)
      → IsReducedStep (side_at new id) scopes new id
  step_again id given live step =
      let was : is_live old id ≡ true = sym (gains.grows.given id given) ∙ live in
      let same : side_at old id ≡ side_at new id = ap side_in (sym (gains.grows.others id was).note) in
      subst (λ q. IsReducedStep q scopes new id) same
      (reduced_stays (side_at old id) scopes old new id gains.grows (step was))

module _ (scopes : List Scope) (s new : SearchState) (gains : GainsSteps s.derivation new.derivation)
    (watched : new.watched ≡ s.watched) where
  pub watched_gained : AreWatched scopes s → AreWatched scopes new
  watched_gained h = record {
    marked = marked_gained scopes s.derivation new.derivation gains h.marked;
    sides = λ side id a. reduced_stays side scopes s.derivation new.derivation id gains.grows
        (h.sides side id (attached_before scopes s.derivation new.derivation gains h.sides side id a));
    listed = λ side id a. rw watched (h.listed side id
        (attached_before scopes s.derivation new.derivation gains h.sides side id a));
    given = λ id i. let low : id < next_id s.derivation = h.given id (subst (λ ws. Contains ws id) watched i) in
        let more = gains.grows.longer in omega arith;
    steps = λ id i live. let j = subst (λ ws. Contains ws id) watched i in
        step_again scopes s.derivation new.derivation gains id (h.given id j) live (h.steps id j);
    clauses =
        λ c i.
        let r = h.clauses c (subst (λ cs. Contains cs c) gains.clauses i) in
        (r.0, rw watched r.1, reduction_stays scopes s.derivation new.derivation gains c r.0 r.2);
  }

  pub attached_gained : AreWatched scopes s → AreAttached s → AreAttached new
  attached_gained h attached id i live =
      let j = subst (λ ws. Contains ws id) watched i in
      let r = attached id j (sym (gains.grows.given id (h.given id j)) ∙ live) in
      (r.0, attached_stays scopes s.derivation new.derivation gains h.sides r.0 id r.1)

  pub intact_gained : HoldingLaws → AgreeingLaws → IsIntact scopes s → IsLegalFor scopes new.derivation
      → new.clauses ≡ s.clauses → new.cubes ≡ s.cubes → new.signs ≡ s.signs → new.trail.room ≡ s.trail.room
      → IsTrailFor scopes new.trail → literals_on new.trail.placed ≡ literals_on s.trail.placed → IsIntact scopes new
  intact_gained holding agreeing intact legal clauses cubes signs room trail literals =
      let watch = same_watch s new clauses cubes in
      record {
        trail = trail;
        has_rows = gains.has_rows;
        legal = legal;
        watched = watched_gained intact.watched;
        watching = record {
          holds = λ side. subst (λ (w : WatchState). Holds side scopes w (rows_of new)) (sym (watch side))
              (holding.agrees side scopes (watch_of side s) (rows_of s) (rows_of new)
              (agrees_gained scopes s.derivation new.derivation gains intact.watched.sides agreeing side)
              (intact.watching.holds side));
          front = λ side. subst (λ (w : WatchState). IsFront (looked w) (literals_on new.trail.placed))
              (sym (watch side)) (rw literals (intact.watching.front side));
          room = λ side. subst (λ (w : WatchState). new.trail.room ≤ w.room) (sym (watch side))
              (rw room (intact.watching.room side));
        };
        room = record { trail = rw room intact.room.trail; signs = rw signs intact.room.signs };
      }

tallied_gained : (scopes : List Scope) (s new : SearchState) → GainsSteps s.derivation new.derivation
    → IsIntact scopes s → new.long ≡ s.long → IsTallied s → IsTallied new
tallied_gained scopes s new gains intact long tallied =
    long ∙ (tallied ∙ sym (tally_gained scopes s.derivation new.derivation gains intact.legal intact.watched.sides))

pub searching_gained : (scopes : List Scope) (s new : SearchState) → HoldingLaws → AgreeingLaws → IsSearching scopes s
    → GainsSteps s.derivation new.derivation → IsLegalFor scopes new.derivation → new.watched ≡ s.watched
    → new.clauses ≡ s.clauses → new.cubes ≡ s.cubes → new.signs ≡ s.signs → new.trail ≡ s.trail → new.long ≡ s.long
    → IsSearching scopes new
searching_gained scopes s new holding agreeing searching gains legal watched clauses cubes signs trail long = record {
  paused = record {
    intact = intact_gained scopes s new gains watched holding agreeing searching.paused.intact legal clauses cubes
        signs (ap (λ (t : TrailState). t.room) trail) (rw trail searching.paused.intact.trail)
        (ap (λ (t : TrailState). literals_on t.placed) trail);
    attached = attached_gained scopes s new gains watched searching.paused.intact.watched searching.paused.attached;
    tallied = tallied_gained scopes s new gains searching.paused.intact long searching.paused.tallied;
  };
  reasons = λ side. rw trail (reasons_stay side scopes s.derivation new.derivation s.trail gains.grows
      (searching.reasons side));
}

pub resting_gained : (scopes : List Scope) (s new : SearchState) → HoldingLaws → AgreeingLaws → IsResting scopes s
    → GainsSteps s.derivation new.derivation → IsLegalFor scopes new.derivation → new.watched ≡ s.watched
    → new.clauses ≡ s.clauses → new.cubes ≡ s.cubes → new.signs ≡ s.signs → new.trail ≡ s.trail
    → new.joined ≡ s.joined → new.long ≡ s.long → IsResting scopes new
resting_gained scopes s new holding agreeing resting gains legal watched clauses cubes signs trail joined long =
    record {
      rest = rw trail resting.rest;
      intact = intact_gained scopes s new gains watched holding agreeing resting.intact legal clauses cubes signs
          (ap (λ (t : TrailState). t.room) trail) (rw trail resting.intact.trail)
          (ap (λ (t : TrailState). literals_on t.placed) trail);
      attached = λ now. attached_gained scopes s new gains watched resting.intact.watched
          (resting.attached (sym joined ∙ now));
      tallied = tallied_gained scopes s new gains resting.intact long resting.tallied;
    }

-- reasons that are made clean keep assumptions and levels

kinds_cause : (trail : Trail) (x : ℕ) → cause_on (kinds_on trail) x ≡ option_map kind_of (cause_on trail x)
kinds_cause [] x = refl
kinds_cause (p ∷ trail) x =
    let q : Placed = record { literal = p.literal; cause = kind_of p.cause } in
    ⊎_elim
    (λ t. cause_here q (kinds_on trail) x t ∙ sym (ap (option_map kind_of) (cause_here p trail x t)))
    (λ f. cause_past q (kinds_on trail) x f
    ∙ (kinds_cause trail x ∙ sym (ap (option_map kind_of) (cause_past p trail x f))))
    (cases_Bool (nat_eq p.literal.variable x))

assumed_kind : (o : Option Cause) → option_map kind_of o ≡ Some Assumed → o ≡ Some Assumed
assumed_kind None e = absurd (let f : None ≡ Some Assumed = e in cc)
assumed_kind (Some Assumed) e = refl
assumed_kind (Some Decided) e = absurd (let f : Some Decided ≡ Some Assumed = e in cc)
assumed_kind (Some (Propagated id)) e = absurd (let f : Some (Propagated 0) ≡ Some Assumed = e in cc)

assumed_alike : (a b : Trail) (x : ℕ) → kinds_on b ≡ kinds_on a → cause_on a x ≡ Some Assumed
    → cause_on b x ≡ Some Assumed
assumed_alike a b x kinds e =
    assumed_kind (cause_on b x) (sym (kinds_cause b x)
    ∙ (ap (λ (t : Trail). cause_on t x) kinds ∙ (kinds_cause a x ∙ ap (option_map kind_of) e)))

pub assumptions_marked : (a b : TrailState) (m : ℕ) → MarksMore a b m → KeepsAssumptions a b
assumptions_marked a b m marks assumptions h =
    let same : (x : ℕ) → value_on b.placed x ≡ value_on a.placed x =
    λ x. ap (λ ls. assumed_value ls x) (same_placed a b m marks) in
    record {
      entries = λ x e. h.entries x (assumed_alike b.placed a.placed x (sym marks.kinds) e);
      stand = λ x v e. let r = h.stand x v e in (same x ∙ r.0, assumed_alike a.placed b.placed x marks.kinds r.1);
    }

decided_kind : (c : Cause) → is_decision (kind_of c) ≡ is_decision c
decided_kind Assumed = refl
decided_kind Decided = refl
decided_kind (Propagated id) = refl

level_kinds : (before : ℕ) (trail : Trail) → last_level_from before (kinds_on trail) ≡ last_level_from before trail
level_kinds before [] = refl
level_kinds before (p ∷ trail) =
    let same : level_after before (record { literal = p.literal; cause = kind_of p.cause }) ≡ level_after before p =
    ap (λ b. cond b (suc before) before) (decided_kind p.cause) in
    ap (λ n. last_level_from n (kinds_on trail)) same ∙ level_kinds (level_after before p) trail

pub level_marked : (a b : TrailState) (m : ℕ) → MarksMore a b m → last_level b.placed ≡ last_level a.placed
level_marked a b m marks = sym (level_kinds 0 b.placed) ∙ (ap last_level marks.kinds ∙ level_kinds 0 a.placed)

-- a row was analysed, or its analysis stopped
pub searching_analysed : (scopes : List Scope) (s new : SearchState) (made : ℕ) → HoldingLaws → AgreeingLaws
    → IsSearching scopes s → GainsSteps s.derivation new.derivation → IsLegalFor scopes new.derivation
    → new.watched ≡ s.watched → new.clauses ≡ s.clauses → new.cubes ≡ s.cubes → new.signs ≡ s.signs
    → new.long ≡ s.long → IsTrailFor scopes new.trail → MarksMore s.trail new.trail made
    → KeepsReasons scopes s.derivation new.derivation s.trail new.trail → IsSearching scopes new
searching_analysed scopes s new made holding agreeing searching gains legal watched clauses cubes signs long trail
    marks reasons = record {
      paused = record {
        intact = intact_gained scopes s new gains watched holding agreeing searching.paused.intact legal clauses cubes
            signs marks.room trail (same_placed s.trail new.trail made marks);
        attached = attached_gained scopes s new gains watched searching.paused.intact.watched searching.paused.attached;
        tallied = tallied_gained scopes s new gains searching.paused.intact long searching.paused.tallied;
      };
      reasons = λ side. reasons side (searching.reasons side);
    }

module _ (scopes : List Scope) (s new : SearchState) (before now : Counter) (within : now.spent ≤ now.budget)
    (searching : IsSearching scopes s) (goes_on : (made : ℕ) → MarksMore s.trail new.trail made
    → IsSearching scopes new) where
  short : length s.trail.placed ≤ size_of scopes
  short = trail_length scopes s.trail.placed searching.paused.intact.trail.ordered

  pub analyses : clauses_of new.derivation ≡ clauses_of s.derivation → KeepsOlder s.derivation new.derivation
      → CleansReasons scopes s.derivation new.derivation s.trail new.trail before now (length s.trail.placed)
      → Analyses scopes s new before now
  analyses clauses older cleans =
      let is = cleans.counted in
      let budget : now.budget ≡ before.budget = ap (λ (c : Counter). c.budget) is in
      let spent : now.spent ≡ before.spent + (cleans.taken + cleans.reduced) = ap (λ (c : Counter). c.spent) is in
      record {
        searching = goes_on cleans.made cleans.marks;
        clauses = clauses;
        older = older;
        assumed = assumptions_marked s.trail new.trail cleans.made cleans.marks;
        level = level_marked s.trail new.trail cleans.made cleans.marks;
        assigned = cleans.marks.assigned;
        restarts = cleans.marks.restarts;
        budget = budget;
        rises = omega arith;
        owed = λ start. counted_owed (size_of scopes) start cleans.made cleans.taken cleans.reduced s.trail new.trail
            before now searching.paused.intact.trail.marked short cleans.marks cleans.few cleans.resolves.fewer is
            (omega arith);
      }

  pub halts_analysis : clauses_of new.derivation ≡ clauses_of s.derivation → KeepsOlder s.derivation new.derivation
      → StopsCleaning scopes s.derivation new.derivation s.trail new.trail before now
      (marks_left s.trail * length s.trail.placed + length s.trail.placed) → Halts scopes 1 s new before now
  halts_analysis clauses older stops =
      let is = stops.counted in
      let spent : now.spent ≡ before.spent + stops.taken = ap (λ (c : Counter). c.spent) is in
      record {
        paused = (goes_on stops.made stops.marks).paused;
        clauses = clauses;
        older = older;
        budget = ap (λ (c : Counter). c.budget) is;
        rises = omega arith;
        bounded = λ start. bounded_more (size_of scopes) start stops.taken s.trail new.trail before now short
            stops.few stops.marks.assigned is;
      }

  pub due_analysis : (side : Quant) (row made : ℕ) → IsReducedStep side scopes s.derivation row
      → IsBadRow side scopes (value_on s.trail.placed) (row_of s.derivation row)
      → NeedsResolution side scopes s.trail.placed (row_of s.derivation row) → MarksMore s.trail new.trail made
      → WasDue scopes s new
  due_analysis side row made step is_bad needs marks = record {
    at = s;
    searching = searching;
    clauses = refl;
    assumed = λ assumptions h. h;
    assigned = marks.assigned;
    due = bad side row step is_bad needs;
  }

-- what a result says, further on
module _ {A E : Type 0} where
  pub on_ok : {P Q : Type 0} (r : Result A E) → (P → Q) → OnOk r P → OnOk r Q
  on_ok (Ok a) f h = f h
  on_ok (Err e) f h = h

  pub on_err : {P Q : Type 0} (r : Result A E) → (P → Q) → OnErr r P → OnErr r Q
  on_err (Ok a) f h = h
  on_err (Err e) f h = f h

  pub if_ok : {P Q : A → Type 0} (r : Result A E) → ((a : A) → P a → Q a) → IfOk r P → IfOk r Q
  if_ok (Ok a) f h = f a h
  if_ok (Err e) f h = h

  pub on_ok_with : {P Q X : Type 0} (r : Result A E) → (P → Q → X) → OnOk r P → OnOk r Q → OnOk r X
  on_ok_with (Ok a) f p q = f p q
  on_ok_with (Err e) f p q = p

  pub either_way : {P Q X : Type 0} (r : Result A E) → OnOk r P → OnErr r Q → (P → X) → (Q → X) → X
  either_way (Ok a) p q f g = f p
  either_way (Err e) p q f g = g q

  pub on_err_at : {P : Type 0} (r : Result A E) (e : E) → r ≡ Err e → (P → P) → OnErr r P → P
  on_err_at (Ok a) e is f p = absurd (let g : Ok a ≡ Err e = is in cc)
  on_err_at (Err x) e is f p = p

  pub on_err_with : {P Q X : Type 0} (r : Result A E) (e : E) → r ≡ Err e → (P → Q → X) → OnErr r P → OnErr r Q → X
  on_err_with (Ok a) e is f p q = absurd (let g : Ok a ≡ Err e = is in cc)
  on_err_with (Err x) e is f p q = f p q

  pub on_err_both : {P Q X : Type 0} (r : Result A E) → (P → Q → X) → OnErr r P → OnErr r Q → OnErr r X
  on_err_both (Ok a) f p q = p
  on_err_both (Err e) f p q = f p q

  pub on_ok_by : {Q X : Type 0} (r : Result A E) (P : A → Type 0) → ((a : A) → P a → Q → X) → IfOk r P → OnOk r Q
      → OnOk r X
  on_ok_by (Ok a) P f p q = f a p q
  on_ok_by (Err e) P f p q = p
