-- The list of rows to watch: one more, those of live steps alone, and one row after the other.
use Rattle.std.proofs.Common.{◌≡◌, ℕ, ◌+◌, ◌<◌, ◌≤◌, ◌⊎◌, Bool, List, [], ◌∷◌, ◌++◌, filter, length, get_or, Contains, IsTrue, refl, sym, ap, subst, ◌∙◌, inl, inr, ⊎_elim, arith}
use Rattle.std.proofs.lemmas.Bool.{cases_lt}
use Rattle.std.proofs.lemmas.List.{get_or_default}
use Rattle.std.proofs.lemmas.List.Elements.{Contains-append_cases, Contains-append_left, Contains-append_right}
use Rattle.calculus.proofs.Lists.{contains_cons, contains_head, contains_nil, filter_at, filter_from}
use Rattle.prefix.specs.declared.quant.Quant.{Quant}
use Rattle.prefix.specs.declared.quant.Quant.TheVariants.{Exists, Forall}
use Rattle.prefix.specs.Scopes.{Scope}
use Rattle.derive.specs.State.{is_live, side_at}
use Rattle.derive.proofs.Additions.{live_below}
use Rattle.watch.specs.State.{Holds, WatchState}
use Rattle.clean.specs.Reasons.{IsReducedStep}
use Rattle.search.specs.State.{AreWatched, IsAttached, IsIntact, IsPaused, IsSearching, IsTallied, SearchState, rows_of, watch_of}
use Rattle.search.specs.Moves.{SameSteps}
use Rattle.search.specs.Watching.{Joins, Keeps}
use Rattle.search.proofs.Marks.{live_same, reasons_same, step_live, steps_then}

-- with another list of rows to watch, and another flag
abbrev pub relisted : SearchState → List ℕ → Bool → SearchState
relisted s ids joined = record s { watched = ids; joined = joined }

same_watch : (s : SearchState) (ids : List ℕ) (joined : Bool) (side : Quant)
    → watch_of side (relisted s ids joined) ≡ watch_of side s
same_watch s ids joined Exists = refl
same_watch s ids joined Forall = refl

pub intact_relisted : (scopes : List Scope) (s : SearchState) (ids : List ℕ) (joined : Bool) → IsIntact scopes s
    → AreWatched scopes (relisted s ids joined) → IsIntact scopes (relisted s ids joined)
intact_relisted scopes s ids joined intact watched = record {
  trail = intact.trail;
  has_rows = intact.has_rows;
  legal = intact.legal;
  watched = watched;
  watching = record {
    holds = λ side. subst (λ (w : WatchState). Holds side scopes w (rows_of s)) (sym (same_watch s ids joined side))
        (intact.watching.holds side);
    front = λ side. rw (same_watch s ids joined side) (intact.watching.front side);
    room = λ side. rw (same_watch s ids joined side) (intact.watching.room side);
  };
  room = record { trail = intact.room.trail; signs = intact.room.signs };
}

-- with another flag
pub intact_flagged : (scopes : List Scope) (s : SearchState) (joined : Bool) → IsIntact scopes s
    → IsIntact scopes (record s { joined = joined })
intact_flagged scopes s joined intact =
    let h = intact.watched in
    intact_relisted scopes s s.watched joined intact
    (record {
      marked = h.marked;
      sides = h.sides;
      listed = h.listed;
      given = h.given;
      steps = h.steps;
      clauses =
          h.clauses;
    })

-- one more row
module _ (scopes : List Scope) (s : SearchState) (ids : List ℕ) (id : ℕ) (more : ids ≡ s.watched ++ id ∷ []) where
  was_or_is : (i : ℕ) → Contains ids i → Contains s.watched i ⊎ (id ≡ i)
  was_or_is i at =
      ⊎_elim inl
      (λ last. ⊎_elim inr (λ none. absurd (contains_nil i none)) (contains_cons id [] i last))
      (Contains-append_cases s.watched (id ∷ []) i (subst (λ ws. Contains ws i) more at))

  was_still : (i : ℕ) → Contains s.watched i → Contains ids i
  was_still i at = subst (λ ws. Contains ws i) (sym more) (Contains-append_left s.watched (id ∷ []) i at)

  pub is_listed : Contains ids id
  is_listed = subst (λ ws. Contains ws id) (sym more)
      (Contains-append_right s.watched (id ∷ []) id (contains_head id []))

  pub intact_more : IsReducedStep (side_at s.derivation id) scopes s.derivation id → IsIntact scopes s
      → IsIntact scopes (record s { watched = ids })
  intact_more step intact =
      let h = intact.watched in
      intact_relisted scopes s ids s.joined intact (record {
        marked = h.marked;
        sides = h.sides;
        listed = λ side i a. was_still i (h.listed side i a);
        given = λ i at. ⊎_elim (λ was. h.given i was)
            (λ e. subst (λ j. j < length s.derivation.notes) e
            (live_below s.derivation.notes id (step_live _ step.step))) (was_or_is i at);
        steps = λ i at live. ⊎_elim (λ was. h.steps i was live)
            (λ e. subst (λ j. IsReducedStep (side_at s.derivation j) scopes s.derivation j) e step) (was_or_is i at);
        clauses = λ c at. let r = h.clauses c at in (r.0, was_still r.0 r.1, r.2);
      })

  pub keeps_more : (new : SearchState) → IsSearching scopes s → Joins scopes (record s { watched = ids }) new id
      → IsTallied new → Keeps scopes s new
  keeps_more new searching joins tallied = record {
    searching = record {
      paused = record {
        intact = joins.intact;
        attached =
            λ i at live.
            ⊎_elim
            (λ was.
            let a = searching.paused.attached i was
            (sym (live_same s.derivation new.derivation joins.steps i) ∙ live) in
            (a.0, joins.stays a.0 i a.1))
            (λ e. subst (λ j. (side : Quant) × IsAttached new side j) e joins.here)
            (was_or_is i (subst (λ ws. Contains ws i) joins.watched at));
        tallied = tallied;
      };
      reasons = λ side. rw joins.trail (reasons_same s.derivation new.derivation joins.steps side scopes s.trail
          (searching.reasons side));
    };
    steps = joins.steps;
    trail = joins.trail;
  }

-- those of live steps alone
module _ (scopes : List Scope) (s : SearchState) (ids : List ℕ)
    (left : ids ≡ filter (λ id. is_live s.derivation id) s.watched) where
  pub was_before : (id : ℕ) → Contains ids id → Contains s.watched id × IsTrue (is_live s.derivation id)
  was_before id at = filter_at (λ i. is_live s.derivation i) s.watched id (subst (λ ws. Contains ws id) left at)

  live_still : (id : ℕ) → Contains s.watched id → IsTrue (is_live s.derivation id) → Contains ids id
  live_still id at live =
      subst (λ ws. Contains ws id) (sym left) (filter_from (λ i. is_live s.derivation i) s.watched id at live)

  pub intact_left : IsIntact scopes s → IsIntact scopes (record s { watched = ids })
  intact_left intact =
      let h = intact.watched in
      intact_relisted scopes s ids s.joined intact (record {
        marked = h.marked;
        sides = h.sides;
        listed = λ side id a. live_still id (h.listed side id a) (step_live _ (h.sides side id a).step);
        given = λ id at. h.given id (was_before id at).0;
        steps = λ id at live. h.steps id (was_before id at).0 live;
        clauses = λ c at. let r = h.clauses c at in (r.0, live_still r.0 r.1 (step_live _ r.2.step), r.2);
      })

-- an element by its place
pub each_by_place : (ids : List ℕ) (P : ℕ → Type 0) → ((j : ℕ) → j < length ids → P (get_or ids j 0)) → (id : ℕ)
    → Contains ids id → P id
each_by_place ids P all id i = subst P (get_or_default ids i.0 0 id i.1 ∙ i.2) (all i.0 i.1)

-- one row after the other: some were attached, and nothing else changed
pub record GoesOver (scopes : List Scope) (start s : SearchState) : Type 0 where
  pub intact : IsIntact scopes s
  pub steps : SameSteps start.derivation s.derivation
  pub trail : s.trail ≡ start.trail
  pub watched : s.watched ≡ start.watched
  pub live : (id : ℕ) → Contains s.watched id → IsTrue (is_live s.derivation id)

-- where it begins
pub over_none : (scopes : List Scope) (s : SearchState) → IsIntact scopes s
    → ((id : ℕ) → Contains s.watched id → IsTrue (is_live s.derivation id)) → GoesOver scopes s s
over_none scopes s intact live = record {
  intact = intact;
  steps = record { notes = refl; has_rows = intact.has_rows; literals = λ id. refl; clauses = refl };
  trail = refl;
  watched = refl;
  live = live;
}

module _ (scopes : List Scope) (start s new : SearchState) (over : GoesOver scopes start s) where
  over_more : IsIntact scopes new → SameSteps s.derivation new.derivation → new.trail ≡ s.trail
      → new.watched ≡ s.watched → GoesOver scopes start new
  over_more intact steps trail watched = record {
    intact = intact;
    steps = steps_then start.derivation s.derivation new.derivation over.steps steps;
    trail = trail ∙ over.trail;
    watched = watched ∙ over.watched;
    live = λ id at. live_same s.derivation new.derivation steps id
        ∙ over.live id (subst (λ ids. Contains ids id) watched at);
  }

  pub over_joins : (id : ℕ) → Joins scopes s new id → GoesOver scopes start new
  over_joins id joins = over_more joins.intact joins.steps joins.trail joins.watched

-- so many rows to watch are attached
pub record HasJoined (scopes : List Scope) (start s : SearchState) (k : ℕ) : Type 0 where
  pub over : GoesOver scopes start s
  pub tallied : IsTallied s
  pub attached : (j : ℕ) → j < k → (side : Quant) × IsAttached s side (get_or s.watched j 0)

-- what holds below a number holds below the next one
below_next : (P : ℕ → Type 0) (k : ℕ) → ((j : ℕ) → j < k → P j) → P k → (j : ℕ) → j < k + 1 → P j
below_next P k below here j h =
    ⊎_elim (λ (less : j < k). below j less) (λ (least : k ≤ j). let e : k ≡ j = omega arith in subst P e here)
    (cases_lt j k)

pub joined_none : (scopes : List Scope) (s : SearchState) → IsIntact scopes s → IsTallied s
    → ((id : ℕ) → Contains s.watched id → IsTrue (is_live s.derivation id)) → HasJoined scopes s s 0
joined_none scopes s intact tallied live =
    record { over = over_none scopes s intact live; tallied = tallied; attached = λ j h. absurd (omega arith) }

pub joined_more : (scopes : List Scope) (start s new : SearchState) (k : ℕ) → HasJoined scopes start s k
    → Joins scopes s new (get_or s.watched k 0) → IsTallied new → HasJoined scopes start new (k + 1)
joined_more scopes start s new k has joins tallied = record {
  over = over_joins scopes start s new has.over (get_or s.watched k 0) joins;
  tallied = tallied;
  attached =
      subst (λ ids. (j : ℕ) → j < k + 1 → (side : Quant) × IsAttached new side (get_or ids j 0)) (sym joins.watched)
      (below_next (λ j. (side : Quant) × IsAttached new side (get_or s.watched j 0)) k
      (λ j h. let a = has.attached j h in (a.0, joins.stays a.0 (get_or s.watched j 0) a.1)) joins.here);
}

-- at the end all are attached
pub joined_all : (scopes : List Scope) (start s : SearchState) (joined : Bool) (k : ℕ) → HasJoined scopes start s k
    → length start.watched ≤ k → IsPaused scopes (record s { joined = joined })
joined_all scopes start s joined k has past = record {
  intact = intact_flagged scopes s joined has.over.intact;
  attached =
      λ id at live.
      each_by_place s.watched (λ id. (side : Quant) × IsAttached s side id)
      (λ j h. has.attached j (let e = ap length has.over.watched in omega arith)) id at;
  tallied = has.tallied;
}
