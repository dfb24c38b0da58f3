-- The first scope with an unassigned variable.
use Rattle.std.proofs.Common.{◌≡◌, ℕ, suc, ◌+◌, ◌-◌, ◌<◌, ◌≤◌, Bool, true, false, List, [], ◌∷◌, ◌++◌, length, Contains, is_some, refl, sym, ap, ◌∙◌, ⊎_elim, arith, nat_eq, append_assoc, append-nil}
use Rattle.std.specs.Prelude.{count_by}
use Rattle.std.proofs.lemmas.Bool.{cases_lt, cond-false, cond-true, eq-eqb, eqb-true, true≢false}
use Rattle.std.proofs.lemmas.List.Sums.{count_by-le-length}
use Rattle.prefix.specs.Scopes.{Scope, all_variables, variables_at, AreDistinct}
use Rattle.calculus.specs.Rows.{depth_of}
use Rattle.calculus.specs.Search.{Cause, Trail, IsOrderedAfter, IsOrderedTrail, MayStand, is_decision, value_on}
use Rattle.calculus.specs.Search.Cause.{Assumed, Decided, Propagated}
use Rattle.calculus.proofs.TrailMoves.{value_front}
use Rattle.calculus.proofs.Levels.{depth_at_least, distinct_from}
use Rattle.trail.specs.declared.entry.Entry.{Entry}
use Rattle.trail.specs.Causes.{cause_of}
use Rattle.trail.specs.Open.{is_assigned, is_finished, AreAssigned, AreAssignedBefore, IsFirstOpen}
use Rattle.trail.specs.Table.{IsTallied, floor_after, floor_from, placed_of, scopes_in, trail_of}
use Rattle.calculus.proofs.RowLemmas.{none_from}
use Rattle.trail.proofs.Counting.{AreNumbered, all_pass, count_scope, depth_at, depth_most, depth_stands, one_fails, variables_before, variables_in, variables_within}

-- the floor

-- a variable that is assigned early is assigned later too
pub still_assigned : (front back : Trail) (x : ℕ) → is_assigned front x ≡ true → is_assigned (front ++ back) x ≡ true
still_assigned front back x h = ap is_some (value_front front back x h) ∙ h

floor_step : (scopes : List Scope) (earlier : Trail) (before : ℕ) (e : Entry) → AreAssignedBefore scopes earlier before
    → e.scope + 1 ≡ depth_of scopes e.lit.variable → (c : Cause) → cause_of e.why ≡ c
    → MayStand scopes earlier e.lit.variable c → AreAssignedBefore scopes earlier (floor_after before e)
floor_step scopes earlier before e known number Assumed is may =
    rw (cond-false (is_decision (cause_of e.why)) (e.scope + 1) before (ap is_decision is)) known
floor_step scopes earlier before e known number Decided is may =
    rw (cond-true (is_decision (cause_of e.why)) (e.scope + 1) before (ap is_decision is), number) may
floor_step scopes earlier before e known number (Propagated step) is may =
    rw (cond-false (is_decision (cause_of e.why)) (e.scope + 1) before (ap is_decision is)) known

floor_after_all : (scopes : List Scope) (earlier : Trail) (before : ℕ) (entries : List Entry)
    → IsOrderedAfter scopes earlier (trail_of entries) → AreNumbered scopes entries → AreAssignedBefore scopes earlier
    before → AreAssignedBefore scopes (earlier ++ trail_of entries) (floor_from before entries)
floor_after_all scopes earlier before [] ordered numbered known = rw (append-nil earlier) known
floor_after_all scopes earlier before (e ∷ entries) ordered numbered known =
    let p = placed_of e in
    let now = floor_step scopes earlier before e known numbered.0 (cause_of e.why) refl ordered.2 in
    let whole : (earlier ++ p ∷ []) ++ trail_of entries ≡ earlier ++ trail_of (e ∷ entries) = append_assoc earlier
    (p ∷ []) (trail_of entries) in
    rw (← whole) (floor_after_all scopes (earlier ++ p ∷ []) (floor_after before e) entries ordered.3 numbered.1
    (λ x i below. still_assigned earlier (p ∷ []) x (now x i below)))

none_before_one : (scopes : List Scope) (trail : Trail) → AreAssignedBefore scopes trail 1
none_before_one scopes trail x i below = absurd (let least = depth_at_least scopes x in omega arith)

pub floor_earlier : (scopes : List Scope) (entries : List Entry) → IsOrderedTrail scopes (trail_of entries)
    → AreNumbered scopes entries → AreAssignedBefore scopes (trail_of entries) (floor_from 1 entries)
floor_earlier scopes entries ordered numbered = floor_after_all scopes [] 1 entries ordered numbered
    (none_before_one scopes [])

floor_least : (before : ℕ) (entries : List Entry) → 1 ≤ before → 1 ≤ floor_from before entries
floor_least before [] h = h
floor_least before (e ∷ entries) h = floor_least (floor_after before e) entries
    (step (is_decision (cause_of e.why)) refl)
  where
    step : (b : Bool) → is_decision (cause_of e.why) ≡ b → 1 ≤ floor_after before e
    step true is = rw (cond-true (is_decision (cause_of e.why)) (e.scope + 1) before is) (omega arith)
    step false is = rw (cond-false (is_decision (cause_of e.why)) (e.scope + 1) before is) h

pub floor_positive : (entries : List Entry) → 1 ≤ floor_from 1 entries
floor_positive entries = floor_least 1 entries (omega arith)

-- the count of a scope
pub tally_is : (scopes : List Scope) (entries : List Entry) (tallies : List ℕ) (scope i tally : ℕ)
    → IsTallied entries tallies → scope ≡ suc i → i < length tallies → tally ≡ count_by (λ s. nat_eq s i)
    (scopes_in entries) → AreDistinct (all_variables scopes) → IsOrderedTrail scopes (trail_of entries)
    → AreNumbered scopes entries → tally ≡ count_by (is_assigned (trail_of entries)) (variables_at scopes scope)
tally_is scopes entries tallies scope i tally tallied next within is distinct ordered numbered =
    is ∙ (count_scope scopes i entries distinct ordered numbered ∙ ap (count_by (is_assigned (trail_of entries)))
    (sym (variables_before scopes scope i next)))

-- a scope whose variables are all assigned
pub assigned_through : (scopes : List Scope) (trail : Trail) (scope : ℕ) → 1 ≤ scope → AreAssignedBefore scopes trail
    scope → length (variables_at scopes scope) ≤ count_by (is_assigned trail) (variables_at scopes scope)
    → AreAssignedBefore scopes trail (scope + 1)
assigned_through scopes trail scope first known all x i below =
    ⊎_elim (λ earlier. known x i earlier)
    (λ here.
    let number : depth_of scopes x ≡ suc (scope - 1) = omega arith in
    let is : variables_at scopes scope ≡ variables_in scopes (scope - 1) = variables_before scopes scope (scope - 1)
    (omega arith) in
    all_pass (is_assigned trail) (variables_at scopes scope) all x (rw is (depth_stands scopes (scope - 1) x i number)))
    (cases_lt (depth_of scopes x) scope)

pub assigned_all : (scopes : List Scope) (trail : Trail) (scope : ℕ) → length scopes < scope
    → AreAssignedBefore scopes trail scope → AreAssigned scopes trail
assigned_all scopes trail scope past known x i = let most = depth_most scopes x i in known x i (omega arith)

pub full_scope : (scopes : List Scope) (trail : Trail) (scope : ℕ) → is_finished scopes trail scope ≡ true
    → length (variables_at scopes scope) ≤ count_by (is_assigned trail) (variables_at scopes scope)
full_scope scopes trail scope full = let all = eqb-true (count_by (is_assigned trail) (variables_at scopes scope))
    (length (variables_at scopes scope)) full in omega arith

-- a scope with an unassigned variable
pub open_here : (scopes : List Scope) (trail : Trail) (scope : ℕ) → 1 ≤ scope → scope ≤ length scopes
    → AreAssignedBefore scopes trail scope → is_finished scopes trail scope ≡ false → IsFirstOpen scopes trail scope
open_here scopes trail scope first last known unfinished =
    let xs = variables_at scopes scope in
    let most = count_by-le-length (is_assigned trail) xs in
    let fewer : count_by (is_assigned trail) xs < length xs = ⊎_elim
    (λ (below : count_by (is_assigned trail) xs < length xs). below)
    (λ (all : length xs ≤ count_by (is_assigned trail) xs). absurd
    (true≢false (sym (eq-eqb (count_by (is_assigned trail) xs) (length xs) (omega arith)) ∙ unfinished)))
    (cases_lt (count_by (is_assigned trail) xs) (length xs)) in
    let open_one = one_fails (is_assigned trail) (variables_at scopes scope) fewer in
    record {
      first = first;
      last = last;
      variable = open_one.0;
      stands = open_one.1;
      unassigned = none_from (value_on trail open_one.0) open_one.2;
      earlier = known;
    }

-- it isn't so that all are assigned
pub open_not_all : (scopes : List Scope) (trail : Trail) (scope : ℕ) → IsFirstOpen scopes trail scope
    → AreAssigned scopes trail → ⊥
open_not_all scopes trail scope first all =
    let is : variables_at scopes scope ≡ variables_in scopes (scope - 1) = variables_before scopes scope (scope - 1)
    (let h = first.first in omega arith) in
    let stands : Contains (variables_in scopes (scope - 1)) first.variable = rw (← is) first.stands in
    true≢false (sym (all first.variable (variables_within scopes (scope - 1) first.variable stands))
    ∙ ap is_some first.unassigned)

-- the depth of what stands in a scope
pub open_depth : (scopes : List Scope) (scope x : ℕ) → AreDistinct (all_variables scopes) → 1 ≤ scope
    → Contains (variables_at scopes scope) x → Contains (all_variables scopes) x × (depth_of scopes x ≡ scope)
open_depth scopes scope x distinct first stands =
    let is : variables_at scopes scope ≡ variables_in scopes (scope - 1) = variables_before scopes scope (scope - 1)
    (omega arith) in
    let there : Contains (variables_in scopes (scope - 1)) x = rw (← is) stands in
    let depth = depth_at scopes (scope - 1) x (distinct_from (all_variables scopes) distinct) there in
    (variables_within scopes (scope - 1) x there, omega arith)
