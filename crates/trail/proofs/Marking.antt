-- A reason that is marked as clean.
use Rattle.std.proofs.Common.{◌*◌, ◌^◌, ◌≡◌, ℕ, zero, suc, ◌+◌, ◌<◌, ◌≤◌, Bool, true, false, List, [], ◌∷◌, ◌++◌, length, map, set, get_or, Contains, Option, Some, None, is_some, refl, sym, subst, ap, ap₂, ◌∙◌, ⊎_elim, arith, nat_eq}
use Rattle.std.specs.Prelude.{slice_get, cond, count_by}
use Rattle.std.specs.Option.{option_map}
use Rattle.std.proofs.lemmas.Bool.{cases_Bool, cond-true, cond-false, false≢true}
use Rattle.std.proofs.lemmas.List.{length-map, map-append, length-set}
use Rattle.std.proofs.lemmas.List.Elements.{Contains-push, Contains-append_left}
use Rattle.prefix.specs.Literal.{Literal}
use Rattle.prefix.specs.Scopes.{Scope, all_variables}
use Rattle.truth.specs.Truth.{assumed_value}
use Rattle.calculus.specs.Rows.{depth_of}
use Rattle.calculus.specs.Weights.{trail_weight}
use Rattle.calculus.specs.Search.{Cause, Placed, Trail, IsOrderedAfter, MayStand, cause_on, decisions_on, is_decision, level_after, literals_on, place_on, value_on}
use Rattle.calculus.specs.Search.Cause.{Assumed, Decided, Propagated}
use Rattle.calculus.proofs.Trails.{value_here, value_past, cause_here, cause_past, place_here, place_past}
use Rattle.trail.specs.declared.allowed.Allowed.{Allowed}
use Rattle.trail.specs.declared.allowed.Allowed.TheVariants.{Anything, NoDecision, Nothing}
use Rattle.trail.specs.declared.entry.Entry.{Entry}
use Rattle.trail.specs.declared.entry.Spot.{Spot}
use Rattle.trail.specs.declared.why.Why.TheVariants.{Propagated as propagated_from}
use Rattle.trail.specs.Causes.{cause_of}
use Rattle.trail.specs.State.{TrailState, IsPropagated, IsTrailFor, IsWeighed, with_clean, with_reason}
use Rattle.trail.specs.Open.{AreFinished}
use Rattle.trail.specs.Table.{AreFloored, AreLeveled, IsTable, IsTallied, depths_of, marks_of, placed_of, scopes_in, spot_on, trail_of}

-- the trail

pub no_cause : {X : Type 0} (id : ℕ) → None ≡ Some (Propagated id) → X
no_cause id e = absurd (let g : None ≡ Some (Propagated id) = e in false≢true (ap is_some g))

here_cause : (p : Placed) (rest : Trail) (x was : ℕ) → nat_eq p.literal.variable x ≡ true → cause_on (p ∷ rest) x ≡ Some
    (Propagated was) → p.cause ≡ Propagated was
here_cause p rest x was t cause = let e : Some p.cause ≡ Some (Propagated was) = sym (cause_here p rest x t) ∙ cause in
    cc

module _ (x id was : ℕ) where
  abbrev reasoned : Placed → Placed
  reasoned p = record { literal = p.literal; cause = Propagated id }

  pub reason_here : (p : Placed) (rest : Trail) → nat_eq p.literal.variable x ≡ true
      → with_reason (p ∷ rest) x id ≡ reasoned p ∷ rest
  reason_here p rest t = cond-true (nat_eq p.literal.variable x) (reasoned p ∷ rest) (p ∷ with_reason rest x id) t

  pub reason_past : (p : Placed) (rest : Trail) → nat_eq p.literal.variable x ≡ false
      → with_reason (p ∷ rest) x id ≡ p ∷ with_reason rest x id
  reason_past p rest f = cond-false (nat_eq p.literal.variable x) (reasoned p ∷ rest) (p ∷ with_reason rest x id) f

  -- what doesn't tell reasons apart stays
  pub map_reason : {X : Type 0} (f : Placed → X) (trail : Trail)
      → ((l : Literal) → f (record { literal = l; cause = Propagated id }) ≡ f
      (record { literal = l; cause = Propagated was })) → cause_on trail x ≡ Some (Propagated was)
      → map f (with_reason trail x id) ≡ map f trail
  map_reason {X = X} f [] alike cause = refl
  map_reason {X = X} f (p ∷ rest) alike cause =
      ⊎_elim
      (λ t.
      let own = here_cause p rest x was t cause in
      let first : f (reasoned p) ≡ f p = alike p.literal
      ∙ ap (λ (c : Cause). f (record { literal = p.literal; cause = c })) (sym own) in
      ap (map f) (reason_here p rest t) ∙ ap (λ (y : X). y ∷ map f rest) first)
      (λ e.
      ap (map f) (reason_past p rest e) ∙ ap (λ (ys : List X). f p ∷ ys)
      (map_reason f rest alike (sym (cause_past p rest x e) ∙ cause)))
      (cases_Bool (nat_eq p.literal.variable x))

  pub literals_stay : (trail : Trail) → cause_on trail x ≡ Some (Propagated was)
      → literals_on (with_reason trail x id) ≡ literals_on trail
  literals_stay trail cause = map_reason (λ (p : Placed). p.literal) trail (λ l. refl) cause

  pub decisions_stay : (trail : Trail) → cause_on trail x ≡ Some (Propagated was)
      → decisions_on (with_reason trail x id) ≡ decisions_on trail
  decisions_stay trail cause = map_reason (λ (p : Placed). is_decision p.cause) trail (λ l. refl) cause

  pub length_stays : (trail : Trail) → cause_on trail x ≡ Some (Propagated was)
      → length (with_reason trail x id) ≡ length trail
  length_stays trail cause =
      sym (length-map (with_reason trail x id) (λ (p : Placed). p.literal))
      ∙ (ap length (literals_stay trail cause) ∙ length-map trail (λ (p : Placed). p.literal))

-- the same literals have the same places
pub places_same : (trail other : Trail) (y : ℕ) → literals_on trail ≡ literals_on other
    → place_on trail y ≡ place_on other y
places_same [] [] y same = refl
places_same [] (q ∷ other) y same = absurd (let e : length (literals_on []) ≡ length (literals_on (q ∷ other)) =
    ap length same in let n : length {A = Literal} [] ≡ 0 = refl in let m : length (literals_on (q ∷ other)) ≡ suc
    (length (literals_on other)) = refl in omega arith)
places_same (p ∷ trail) [] y same = absurd (let e : length (literals_on (p ∷ trail)) ≡ length (literals_on []) =
    ap length same in let n : length {A = Literal} [] ≡ 0 = refl in let m : length (literals_on (p ∷ trail)) ≡ suc
    (length (literals_on trail)) = refl in omega arith)
places_same (p ∷ trail) (q ∷ other) y same =
    let first : p.literal ≡ q.literal = (let e : p.literal ∷ literals_on trail ≡ q.literal ∷ literals_on other = same in
    cc) in
    let rest : literals_on trail ≡ literals_on other =
    (let e : p.literal ∷ literals_on trail ≡ q.literal ∷ literals_on other = same in cc) in
    let variable : nat_eq p.literal.variable y ≡ nat_eq q.literal.variable y = ap (λ (l : Literal). nat_eq l.variable y)
    first in
    ⊎_elim
    (λ t. place_here p trail y t ∙ sym (place_here q other y (sym variable ∙ t)))
    (λ f. place_past p trail y f
    ∙ (ap suc (places_same trail other y rest) ∙ sym (place_past q other y (sym variable ∙ f))))
    (cases_Bool (nat_eq p.literal.variable y))

-- its order
may_stand_still : (scopes : List Scope) (earlier other : Trail) (q : Placed) (was y : ℕ) (cause : Cause)
    → literals_on earlier ≡ literals_on other → Contains earlier q → q.cause ≡ Propagated was
    → MayStand scopes earlier y cause → MayStand scopes other y cause
may_stand_still scopes earlier other q was y Assumed same there is may =
    absurd (let e : Propagated was ≡ Assumed = sym is ∙ may.1 q there in cc)
may_stand_still scopes earlier other q was y Decided same there is may = λ z known outer. ap
    (λ (ls : List Literal). is_some (assumed_value ls z)) (sym same) ∙ may z known outer
may_stand_still scopes earlier other q was y (Propagated step) same there is may = tt

order_stays : (scopes : List Scope) (earlier other : Trail) (q : Placed) (was : ℕ) (rest : Trail)
    → literals_on earlier ≡ literals_on other → Contains earlier q → q.cause ≡ Propagated was
    → IsOrderedAfter scopes earlier rest → IsOrderedAfter scopes other rest
order_stays scopes earlier other q was [] same there is ordered = tt
order_stays scopes earlier other q was (p ∷ rest) same there is ordered =
    let literal : Placed → Literal = λ (r : Placed). r.literal in
    let more : literals_on (earlier ++ p ∷ []) ≡ literals_on (other ++ p ∷ []) = map-append literal earlier (p ∷ [])
    ∙ (ap (λ (ls : List Literal). ls ++ p.literal ∷ []) same ∙ sym (map-append literal other (p ∷ []))) in (
      ordered.0,
      ap (λ (ls : List Literal). assumed_value ls p.literal.variable) (sym same) ∙ ordered.1,
      may_stand_still scopes earlier other q was p.literal.variable p.cause same there is ordered.2,
      order_stays scopes (earlier ++ p ∷ []) (other ++ p ∷ []) q was rest more
          (Contains-append_left earlier (p ∷ []) q there) is ordered.3,
    )

ordered_reason : (scopes : List Scope) (earlier trail : Trail) (x id was : ℕ) → cause_on trail x ≡ Some (Propagated was)
    → IsOrderedAfter scopes earlier trail → IsOrderedAfter scopes earlier (with_reason trail x id)
ordered_reason scopes earlier [] x id was cause ordered = tt
ordered_reason scopes earlier (p ∷ rest) x id was cause ordered =
    ⊎_elim
    (λ t.
    let literal : Placed → Literal = λ (r : Placed). r.literal in
    let r : Placed = record { literal = p.literal; cause = Propagated id } in
    let same : literals_on (earlier ++ p ∷ []) ≡ literals_on (earlier ++ r ∷ []) = map-append literal earlier (p ∷ [])
    ∙ sym (map-append literal earlier (r ∷ [])) in
    subst (IsOrderedAfter scopes earlier) (sym (reason_here x id was p rest t)) (
      ordered.0,
      ordered.1,
      tt,
      order_stays scopes (earlier ++ p ∷ []) (earlier ++ r ∷ []) p was rest same (Contains-push earlier p)
          (here_cause p rest x was t cause) ordered.3,
    ))
    (λ f.
    subst (IsOrderedAfter scopes earlier) (sym (reason_past x id was p rest f)) (
      ordered.0,
      ordered.1,
      ordered.2,
      ordered_reason scopes (earlier ++ p ∷ []) rest x id was (sym (cause_past p rest x f) ∙ cause) ordered.3,
    ))
    (cases_Bool (nat_eq p.literal.variable x))

weighed_same : (n restarts : ℕ) (allowed : Allowed) (trail other : Trail) (assigned : ℕ)
    → decisions_on other ≡ decisions_on trail → length other ≡ length trail → (trail ≡ [] → ⊥)
    → IsWeighed n restarts allowed trail assigned → IsWeighed n restarts allowed other assigned
weighed_same n restarts Anything trail other assigned same long some h =
    subst (λ (ds : List Bool). assigned ≤ restarts * 2 ^ (n + 1) + trail_weight n ds) (sym same) h
weighed_same n restarts NoDecision trail other assigned same long some h = (
  let short : length trail < n = h.0 in omega arith,
  subst (λ (ds : List Bool). assigned < restarts * 2 ^ (n + 1) + trail_weight n (ds ++ false ∷ [])) (sym same) h.1,
)
weighed_same n restarts Nothing trail other assigned same long some h = absurd (some h.0)

finished_same : (scopes : List Scope) (trail other : Trail) (finished : List Bool) → literals_on other ≡ literals_on
    trail → AreFinished scopes trail finished → AreFinished scopes other finished
finished_same scopes trail other finished same h x i known depth marked =
    ap (λ (ls : List Literal). is_some (assumed_value ls x)) same ∙ h x i known depth marked

pub kept_clean : (scopes : List Scope) (t : TrailState) (x id : ℕ) → IsPropagated t.placed x → IsTrailFor scopes t
    → IsTrailFor scopes (with_clean t x id)
kept_clean scopes t x id is kept =
    let was = is.0 in
    record {
      ordered = ordered_reason scopes [] t.placed x id was is.1 kept.ordered;
      numbered = kept.numbered ∙ sym (map_reason x id was (λ (p : Placed). depth_of scopes p.literal.variable) t.placed
          (λ l. refl) is.1);
      marked = length-set t.marks (place_on t.placed x) true
          ∙ (kept.marked ∙ sym (length_stays x id was t.placed is.1));
      all_assigned = finished_same scopes t.placed (with_reason t.placed x id) t.finished
          (literals_stay x id was t.placed is.1) kept.all_assigned;
      weighed = weighed_same (length (all_variables scopes)) t.restarts t.allowed t.placed (with_reason t.placed x id)
          t.assigned (decisions_stay x id was t.placed is.1) (length_stays x id was t.placed is.1)
          (λ e. no_cause was (sym (ap (λ (p : Trail). cause_on p x) e) ∙ is.1)) kept.weighed;
    }

-- the entries

abbrev pub cleaned : Entry → ℕ → Entry
cleaned e id = record {
  lit = e.lit;
  why = propagated_from id;
  level = e.level;
  scope = e.scope;
  floor = e.floor;
  clean = true;
}

pub record IsMarkedOn (entries marked : List Entry) (x id n : ℕ) : Type 0 where
  pub trail : trail_of marked ≡ with_reason (trail_of entries) x id
  pub depths : depths_of marked ≡ depths_of entries
  pub scopes : scopes_in marked ≡ scopes_in entries
  pub marks : marks_of marked ≡ set (marks_of entries) n true
  pub leveled : (before : ℕ) → AreLeveled before entries → AreLeveled before marked
  pub floored : (before : ℕ) → AreFloored before entries → AreFloored before marked

pub marked_at : (entries : List Entry) (x id n was : ℕ) (d : Entry) → cause_on (trail_of entries) x ≡ Some
    (Propagated was) → place_on (trail_of entries) x ≡ n → IsMarkedOn entries
    (set entries n (cleaned (get_or entries n d) id)) x id n
marked_at [] x id n was d cause place = no_cause was cause
marked_at (e ∷ entries) x id zero was d cause place =
    let p = placed_of e in
    let rest = trail_of entries in
    ⊎_elim
    (λ t.
    let own : cause_of e.why ≡ Propagated was = here_cause p rest x was t cause in
    record {
      trail = sym (reason_here x id was p rest t);
      depths = refl;
      scopes = refl;
      marks = refl;
      leveled = λ before h. (
        h.0 ∙ ap (λ (c : Cause). level_after before (record { literal = e.lit; cause = c })) own,
        h.1,
      );
      floored = λ before h. (h.0 ∙ ap (λ (c : Cause). level_free before e.scope c) own, h.1);
    })
    (λ f. absurd (let past = place_past p rest x f in omega arith))
    (cases_Bool (nat_eq p.literal.variable x))
  where
    level_free : ℕ → ℕ → Cause → ℕ
    level_free before scope c = cond (is_decision c) (scope + 1) before
marked_at (e ∷ entries) x id (suc n) was d cause place =
    let p = placed_of e in
    let rest = trail_of entries in
    ⊎_elim
    (λ t. absurd (let here = place_here p rest x t in omega arith))
    (λ f.
    let past = place_past p rest x f in
    let later = marked_at entries x id n was d (sym (cause_past p rest x f) ∙ cause)
    (let e : place_on rest x ≡ n = omega arith in e) in
    record {
      trail = ap (λ (r : Trail). p ∷ r) later.trail ∙ sym (reason_past x id was p rest f);
      depths = ap (λ (ds : List ℕ). (e.scope + 1) ∷ ds) later.depths;
      scopes = ap (λ (ss : List ℕ). e.scope ∷ ss) later.scopes;
      marks = ap (λ (bs : List Bool). e.clean ∷ bs) later.marks;
      leveled = λ before h. (h.0, later.leveled e.level h.1);
      floored = λ before h. (h.0, later.floored e.floor h.1);
    })
    (cases_Bool (nat_eq p.literal.variable x))

-- the table
spot_same : (trail other : Trail) (y : ℕ) → literals_on other ≡ literals_on trail → spot_on other y ≡ spot_on trail y
spot_same trail other y same =
    ap₂ (λ (ls : List Literal) (n : ℕ). option_map {U = Spot} (λ b. record { value = b; place = n })
    (assumed_value ls y)) same (places_same other trail y same)

once_same : (trail other : Trail) → literals_on other ≡ literals_on trail
    → ((i : ℕ) (p : Placed) → slice_get trail i ≡ Some p → place_on trail p.literal.variable ≡ i) → (i : ℕ) (p : Placed)
    → slice_get other i ≡ Some p → place_on other p.literal.variable ≡ i
once_same trail other same once i p at =
    let found = read trail other same i p at in
    places_same other trail p.literal.variable same ∙ moved found.0.literal p.literal found.2 (once i found.0 found.1)
  where
    moved : (l m : Literal) → l ≡ m → place_on trail l.variable ≡ i → place_on trail m.variable ≡ i
    moved l m e h = subst (λ (k : Literal). place_on trail k.variable ≡ i) e h

    read : (trail other : Trail) → literals_on other ≡ literals_on trail → (i : ℕ) (p : Placed)
        → slice_get other i ≡ Some p → (q : Placed) × (slice_get trail i ≡ Some q) × (q.literal ≡ p.literal)
    read trail [] same i p at = absurd (let g : None ≡ Some p = at in cc)
    read [] (r ∷ other) same i p at = absurd (let e : length (literals_on (r ∷ other)) ≡ length (literals_on []) =
        ap length same in let n : length {A = Literal} [] ≡ 0 = refl in let m : length (literals_on (r ∷ other)) ≡ suc
        (length (literals_on other)) = refl in omega arith)
    read (q ∷ trail) (r ∷ other) same zero p at =
        let e : r.literal ∷ literals_on other ≡ q.literal ∷ literals_on trail = same in
        let is : r ≡ p = (let g : Some r ≡ Some p = at in cc) in
        let first : r.literal ≡ q.literal = cc in
        (q, refl, sym first ∙ ap (λ (s : Placed). s.literal) is)
    read (q ∷ trail) (r ∷ other) same (suc i) p at =
        let rest : literals_on other ≡ literals_on trail =
        (let e : r.literal ∷ literals_on other ≡ q.literal ∷ literals_on trail = same in cc) in
        read trail other rest i p at

pub table_marked : (entries marked : List Entry) (spots : List (Option Spot)) (tallies : List ℕ)
    (capacity x id n was : ℕ) → cause_on (trail_of entries) x ≡ Some (Propagated was) → length marked ≡ length entries
    → IsMarkedOn entries marked x id n → IsTable entries spots capacity × IsTallied entries tallies
    → IsTable marked spots capacity × IsTallied marked tallies
table_marked entries marked spots tallies capacity x id n was cause long is both =
    let same : literals_on (trail_of marked) ≡ literals_on (trail_of entries) = ap literals_on is.trail
    ∙ literals_stay x id was (trail_of entries) cause in (
      record {
        found = λ y. both.0.found y ∙ sym (spot_same (trail_of entries) (trail_of marked) y same);
        once = once_same (trail_of entries) (trail_of marked) same both.0.once;
        leveled = is.leveled 0 both.0.leveled;
        filled = long ∙ both.0.filled;
        room = both.0.room;
      },
      record {
        tallied = λ i below. both.1.tallied i below ∙ ap (λ (ss : List ℕ). count_by (λ s. nat_eq s i) ss)
            (sym is.scopes);
        floored = is.floored 1 both.1.floored;
      },
    )

-- what is read at a place
pub mark_none : (entries : List Entry) (x : ℕ) → value_on (trail_of entries) x ≡ None → get_or (marks_of entries)
    (place_on (trail_of entries) x) false ≡ false
mark_none [] x none = refl
mark_none (e ∷ entries) x none =
    let p = placed_of e in
    let rest = trail_of entries in
    ⊎_elim
    (λ t. absurd (let g : Some p.literal.positive ≡ None = sym (value_here p rest x t) ∙ none in cc))
    (λ f. ap (λ n. get_or (e.clean ∷ marks_of entries) n false) (place_past p rest x f) ∙ mark_none entries x
    (sym (value_past p rest x f) ∙ none))
    (cases_Bool (nat_eq p.literal.variable x))

pub mark_read : (entries : List Entry) (x : ℕ) (d : Entry) → is_some (value_on (trail_of entries) x) ≡ true
    → (get_or entries (place_on (trail_of entries) x) d).clean ≡ get_or (marks_of entries)
    (place_on (trail_of entries) x) false
mark_read [] x d known = absurd (false≢true known)
mark_read (e ∷ entries) x d known =
    let p = placed_of e in
    let rest = trail_of entries in
    ⊎_elim
    (λ t. ap (λ n. (get_or (e ∷ entries) n d).clean) (place_here p rest x t)
    ∙ sym (ap (λ n. get_or (e.clean ∷ marks_of entries) n false) (place_here p rest x t)))
    (λ f.
    ap (λ n. (get_or (e ∷ entries) n d).clean) (place_past p rest x f)
    ∙ (mark_read entries x d (ap is_some (sym (value_past p rest x f)) ∙ known)
    ∙ sym (ap (λ n. get_or (e.clean ∷ marks_of entries) n false) (place_past p rest x f))))
    (cases_Bool (nat_eq p.literal.variable x))
