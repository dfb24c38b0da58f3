-- Rows that are bad on a front of the trail.
use Rattle.std.proofs.Common.{◌≡◌, ℕ, ◌<◌, ◌≤◌, ◌⊎◌, Bool, true, false, not, ◌||◌, List, [], ◌∷◌, Contains, take, Option, Some, None, is_some, is_none, refl, sym, subst, ap, ◌∙◌, inl, inr, ⊎_elim, arith, nat_eq, nat_lt, nat_le}
use Rattle.std.proofs.lemmas.Bool.{cases_Bool, cases_lt, cond_both, cond-true, cond-false, and_parts, and_from, or_left, or_right, or_cases, ltb-true, lt-ltb, eqb-true, eq-eqb, le-leb, lt-leb, true≢false, false≢true}
use mathlib.Core.Path.{fun_ext}
use Rattle.prefix.specs.declared.quant.Quant.{Quant}
use Rattle.prefix.specs.Literal.{Literal, negation}
use Rattle.prefix.specs.Scopes.{Scope, quantifier_of}
use Rattle.truth.specs.Matrix.{Values}
use Rattle.calculus.specs.Rows.{IsRow, Row, depth_of, is_pivot, reduce, resolve}
use Rattle.calculus.specs.Search.{AreTheAssumptions, IsBadRow, IsLast, IsOrderedTrail, IsPending, MakesUnitAt, Trail, before_on, cause_on, cut_trail, decision_level_on, is_bad_if, is_bad_now, is_open, last_level, level_after, level_from_start, must_stay, place_on, resolved_with, value_on, values_up_to}
use Rattle.calculus.specs.Search.Cause.{Assumed, Decided}
use Rattle.calculus.specs.Verdicts.{IsEndRow}
use Rattle.calculus.proofs.Ascending.{rises}
use Rattle.calculus.proofs.Levels.{one_quantifier}
use Rattle.calculus.proofs.RowLemmas.{one_literal, resolve_at, same_from, same_true}
use Rattle.calculus.proofs.Searching.{bad_assigned, reduce_within}
use Rattle.calculus.proofs.TrailLaws.{cut_value_from, level_most}
use Rattle.calculus.proofs.Trails.{decided_after, level_here, level_least, level_past, levels_rise_at, place_here, place_past, places_apart}
use Rattle.clean.proofs.Fronts.{before_take, front_place, place_none, place_some, value_high, value_low}
use Rattle.clean.proofs.Ways.{front_whole}
use Rattle.analyse.specs.Fronts.{IsBadOnFront}

-- literals of a front
bad_low : (pivot : Quant) (n : ℕ) (trail : Trail) (l : Literal) → place_on trail l.variable < n
    → is_bad_now pivot (value_on trail) l ≡ true → is_bad_now pivot (value_on (take n trail)) l ≡ true
bad_low pivot n trail l below bad = ap (λ o. is_bad_if pivot o l) (value_low n trail l.variable below) ∙ bad

open_high : (n : ℕ) (trail : Trail) (l : Literal) → n ≤ place_on trail l.variable
    → is_open (value_on (take n trail)) l ≡ true
open_high n trail l above = ap is_none (value_high n trail l.variable above)

open_not_known : (o : Option Bool) → is_none o ≡ true → is_some o ≡ true → ⊥
open_not_known None n s = false≢true s
open_not_known (Some v) n s = false≢true n

pub known_or_none : (o : Option Bool) → (is_some o ≡ true) ⊎ (o ≡ None)
known_or_none None = inr refl
known_or_none (Some b) = inl refl

-- levels rise along a trail
pub levels_grow : (before : ℕ) (trail : Trail) (y z : ℕ) → place_on trail y ≤ place_on trail z
    → level_from_start before trail y ≤ level_from_start before trail z
levels_grow before [] y z below = omega arith
levels_grow before (p ∷ rest) y z below =
    ⊎_elim
    (λ ty.
    let ly : level_from_start before (p ∷ rest) y ≡ level_after before p = level_here p rest y before ty in
    ⊎_elim
    (λ tz. let lz : level_from_start before (p ∷ rest) z ≡ level_after before p = level_here p rest z before tz in
    omega arith)
    (λ fz.
    let lz : level_from_start before (p ∷ rest) z ≡ level_from_start (level_after before p) rest z =
    level_past p rest z before fz in
    let least : level_after before p ≤ level_from_start (level_after before p) rest z =
    level_least (level_after before p) rest z in
    omega arith)
    (cases_Bool (nat_eq p.literal.variable z)))
    (λ fy.
    let py = place_past p rest y fy in
    let ly : level_from_start before (p ∷ rest) y ≡ level_from_start (level_after before p) rest y =
    level_past p rest y before fy in
    ⊎_elim
    (λ tz. absurd (let pz = place_here p rest z tz in omega arith))
    (λ fz.
    let pz = place_past p rest z fz in
    let lz : level_from_start before (p ∷ rest) z ≡ level_from_start (level_after before p) rest z =
    level_past p rest z before fz in
    let deeper : level_from_start (level_after before p) rest y ≤ level_from_start (level_after before p) rest z =
    levels_grow (level_after before p) rest y z (omega arith) in
    omega arith)
    (cases_Bool (nat_eq p.literal.variable z)))
    (cases_Bool (nat_eq p.literal.variable y))

-- the literals that must stay bad where one is to be unit
module _ (pivot : Quant) (scopes : List Scope) (e : Literal) where
  pub stays_apart : (l : Literal) → must_stay pivot scopes e l ≡ true → l.variable ≡ e.variable → ⊥
  stays_apart l must same =
      let parts = and_parts (not (nat_eq l.variable e.variable))
      (is_pivot pivot scopes l || nat_lt (depth_of scopes l.variable) (depth_of scopes e.variable)) must in
      true≢false (sym parts.0 ∙ ap not (eq-eqb l.variable e.variable same))

  pub stays_held : (l : Literal) → must_stay pivot scopes e l ≡ true
      → (is_pivot pivot scopes l ≡ true) ⊎ (depth_of scopes l.variable < depth_of scopes e.variable)
  stays_held l must =
      let parts = and_parts (not (nat_eq l.variable e.variable))
      (is_pivot pivot scopes l || nat_lt (depth_of scopes l.variable) (depth_of scopes e.variable)) must in
      ⊎_elim inl (λ t. inr (ltb-true (depth_of scopes l.variable) (depth_of scopes e.variable) t))
      (or_cases (is_pivot pivot scopes l) (nat_lt (depth_of scopes l.variable) (depth_of scopes e.variable)) parts.1)

  pub stays_from : (l : Literal) → nat_eq l.variable e.variable ≡ false
      → (is_pivot pivot scopes l ≡ true) ⊎ (depth_of scopes l.variable < depth_of scopes e.variable)
      → must_stay pivot scopes e l ≡ true
  stays_from l apart held = and_from (not (nat_eq l.variable e.variable))
      (is_pivot pivot scopes l || nat_lt (depth_of scopes l.variable) (depth_of scopes e.variable)) (ap not apart)
      (⊎_elim
      (λ p. or_left (is_pivot pivot scopes l) (nat_lt (depth_of scopes l.variable) (depth_of scopes e.variable)) p)
      (λ d. or_right (is_pivot pivot scopes l) (nat_lt (depth_of scopes l.variable) (depth_of scopes e.variable))
      (lt-ltb (depth_of scopes l.variable) (depth_of scopes e.variable) d))
      held)

  later_depth : is_pivot pivot scopes e ≡ true → (l : Literal) → is_pivot pivot scopes l ≡ false
      → depth_of scopes e.variable ≤ depth_of scopes l.variable
      → depth_of scopes e.variable < depth_of scopes l.variable
  later_depth p l n not_lower =
      let differ : depth_of scopes e.variable ≡ depth_of scopes l.variable → ⊥ = λ same.
      true≢false (sym (same_from (quantifier_of scopes l.variable) pivot
      (sym (one_quantifier scopes e.variable l.variable same)
      ∙ same_true (quantifier_of scopes e.variable) pivot p)) ∙ n) in
      omega arith

-- a bad row on a front, with its last pivot-type literal
module _ (pivot : Quant) (scopes : List Scope) (trail : Trail) (end : ℕ) (row : Row) (f : Literal)
    (bad : IsBadRow pivot scopes (value_on (take end trail)) row) (last : IsLast pivot scopes trail row f) where
  pub pivot_bad : (l : Literal) → Contains row l → is_pivot pivot scopes l ≡ true
      → is_bad_now pivot (value_on (take end trail)) l ≡ true
  pivot_bad l i p =
      ⊎_elim (λ kept. absurd kept)
      (λ r. ⊎_elim (λ b. b) (λ o. absurd (true≢false (sym p ∙ o.1))) r)
      (bad l i)

  pub pivot_place : (l : Literal) → Contains row l → is_pivot pivot scopes l ≡ true → place_on trail l.variable < end
  pivot_place l i p = front_place end trail l.variable
      (bad_assigned pivot (value_on (take end trail) l.variable) l (pivot_bad l i p))

  pub pivot_known : (l : Literal) → Contains row l → is_pivot pivot scopes l ≡ true
      → is_some (value_on trail l.variable) ≡ true
  pivot_known l i p = bad_assigned pivot (value_on trail l.variable) l
      (front_whole pivot trail end l (pivot_bad l i p))

  pub last_known : is_some (value_on trail f.variable) ≡ true
  last_known = pivot_known f last.stands last.pivot_type

  last_place : place_on trail f.variable < end
  last_place = pivot_place f last.stands last.pivot_type

  -- a literal that stands before the last one is bad
  pub earlier_bad : (l : Literal) → Contains row l → place_on trail l.variable < place_on trail f.variable
      → is_bad_now pivot (value_on trail) l ≡ true
  earlier_bad l i below =
      let within : place_on trail l.variable < end = (let e = last_place in omega arith) in
      let size = place_some trail f.variable last_known in
      ⊎_elim (λ kept. absurd kept)
      (λ r. ⊎_elim (λ b. front_whole pivot trail end l b)
      (λ o. absurd (⊎_elim
      (λ known. open_not_known (value_on trail l.variable)
      (sym (ap is_none (value_low end trail l.variable within)) ∙ o.0) known)
      (λ none. let past = place_none trail l.variable none in omega arith)
      (known_or_none (value_on trail l.variable)))) r)
      (bad l i)

  -- one that must stay, of a lower level, stands before it
  lower_place : (l : Literal) (b : ℕ) → decision_level_on trail l.variable ≤ b
      → b < decision_level_on trail f.variable → place_on trail l.variable < place_on trail f.variable
  lower_place l b low high =
      ⊎_elim (λ (below : place_on trail l.variable < place_on trail f.variable). below)
      (λ (above : place_on trail f.variable ≤ place_on trail l.variable). absurd
      (let grows = levels_grow 0 trail f.variable l.variable above in omega arith))
      (cases_lt (place_on trail l.variable) (place_on trail f.variable))

  -- one of a lower level is assigned
  pub lower_known : (l : Literal) → Contains row l
      → decision_level_on trail l.variable < decision_level_on trail f.variable
      → is_some (value_on trail l.variable) ≡ true
  lower_known l i low = bad_assigned pivot (value_on trail l.variable) l
      (earlier_bad l i (lower_place l (decision_level_on trail l.variable) (omega arith) low))

  cut_bad : (l : Literal) (b : ℕ) → decision_level_on trail l.variable ≤ b → is_bad_now pivot (value_on trail) l ≡ true
      → is_bad_now pivot (values_up_to (value_on trail) (decision_level_on trail) b) l ≡ true
  cut_bad l b low is = ap (λ o. is_bad_if pivot o l) (cond-true (nat_le (decision_level_on trail l.variable) b)
      (value_on trail l.variable) None (le-leb (decision_level_on trail l.variable) b low)) ∙ is

  cut_open : (l : Literal) (b : ℕ) → b < decision_level_on trail l.variable
      → is_open (values_up_to (value_on trail) (decision_level_on trail) b) l ≡ true
  cut_open l b high = ap is_none (cond-false (nat_le (decision_level_on trail l.variable) b)
      (value_on trail l.variable) None (lt-leb (decision_level_on trail l.variable) b high))

  -- it is unit at each lower level at which those that must stay do
  pub front_unit : (b : ℕ) → IsRow scopes row → b < decision_level_on trail f.variable
      → ((l : Literal) → Contains row l → must_stay pivot scopes f l ≡ true → decision_level_on trail l.variable ≤ b)
      → MakesUnitAt pivot scopes trail row f b
  front_unit b is_row low bound =
      let most : decision_level_on trail f.variable ≤ last_level trail = level_most 0 trail f.variable in
      let same : value_on (cut_trail b trail) ≡ values_up_to (value_on trail) (decision_level_on trail) b =
      fun_ext (λ x. cut_value_from 0 b trail x) in
      record {
        below = omega arith;
        unit = rw same (record {
          stands = last.stands;
          pivot_type = last.pivot_type;
          open_yet = cut_open f b low;
          others = others;
        });
      }
    where
      held : (l : Literal) → Contains row l → must_stay pivot scopes f l ≡ true
          → is_bad_now pivot (values_up_to (value_on trail) (decision_level_on trail) b) l ≡ true
      held l i must =
          let level = bound l i must in
          cut_bad l b level (earlier_bad l i (lower_place l b level low))

      free : (l : Literal) → Contains row l
          → (is_bad_now pivot (values_up_to (value_on trail) (decision_level_on trail) b) l ≡ true)
          ⊎ (is_open (values_up_to (value_on trail) (decision_level_on trail) b) l ≡ true)
      free l i =
          ⊎_elim
          (λ (high : b < decision_level_on trail l.variable). inr (cut_open l b high))
          (λ (level : decision_level_on trail l.variable ≤ b). inl
          (cut_bad l b level (earlier_bad l i (lower_place l b level low))))
          (cases_lt b (decision_level_on trail l.variable))

      others : IsPending pivot scopes (values_up_to (value_on trail) (decision_level_on trail) b) (Some f) row
      others l i =
          ⊎_elim
          (λ t. inl (one_literal row (rises is_row) l f i last.stands (eqb-true l.variable f.variable t)))
          (λ apart. inr (⊎_elim
          (λ p. inl (held l i (stays_from pivot scopes f l apart (inl p))))
          (λ n. ⊎_elim
          (λ (earlier : depth_of scopes l.variable < depth_of scopes f.variable). inl
          (held l i (stays_from pivot scopes f l apart (inr earlier))))
          (λ (later : depth_of scopes f.variable ≤ depth_of scopes l.variable). ⊎_elim inl
          (λ o. inr (o, n, later_depth pivot scopes f last.pivot_type l n later)) (free l i))
          (cases_lt (depth_of scopes l.variable) (depth_of scopes f.variable)))
          (cases_Bool (is_pivot pivot scopes l))))
          (cases_Bool (nat_eq l.variable f.variable))

  -- where it was decided, those that must stay are assigned, and of lower levels
  pub decided_stays : IsOrderedTrail scopes trail → IsRow scopes row → cause_on trail f.variable ≡ Some Decided
      → (l : Literal) → Contains row l → must_stay pivot scopes f l ≡ true
      → (is_some (value_on trail l.variable) ≡ true)
      × (decision_level_on trail l.variable < decision_level_on trail f.variable)
  decided_stays ordered is_row decided l i must =
      ⊎_elim
      (λ p.
      let known = pivot_known l i p in
      let at_most = last.last l i p in
      let differ : place_on trail l.variable ≡ place_on trail f.variable → ⊥ =
      λ same. stays_apart pivot scopes f l must (places_apart trail l.variable f.variable known last_known same) in
      (known, levels_rise_at 0 trail l.variable f.variable known decided (omega arith)))
      (λ d. ⊎_elim (λ a. absurd (false≢true a))
      (λ r. (r.0, levels_rise_at 0 trail l.variable f.variable r.0 decided r.1))
      (decided_after scopes [] trail ordered f.variable decided l.variable (is_row.over_prefix l i) d))
      (stays_held pivot scopes f l must)

  -- a resolvent with a row that is pending before its place is bad there
  module _ (reason : Row)
      (pending : IsPending pivot scopes (value_on (before_on trail f.variable)) (Some (negation f)) reason) where
    mixes : (l : Literal) → Contains (resolved_with row reason f) l
        → (Contains row l ⊎ Contains reason l) × (l.variable ≡ f.variable → ⊥)
    mixes l = cond_both f.positive (resolve row reason f.variable) (resolve reason row f.variable)
        (λ r. Contains r l → (Contains row l ⊎ Contains reason l) × (l.variable ≡ f.variable → ⊥))
        (λ t i. resolve_at row reason f.variable l i)
        (λ n i. let r = resolve_at reason row f.variable l i in (⊎_elim inr inl r.0, r.1))

    no_kept : (values : Values) (k : Literal) → None ≡ Some k → is_open values k ≡ true
    no_kept values k e = absurd (let g : None ≡ Some k = e in cc)

    part : (l : Literal) → Contains (reduce pivot scopes (resolved_with row reason f)) l
        → Contains (resolved_with row reason f) l
    part l i = reduce_within pivot scopes (value_on trail) (place_on trail) None (no_kept (value_on trail))
        (resolved_with row reason f) l i

    abbrev Front : Trail
    Front = take (place_on trail f.variable) trail

    from_row : (l : Literal) → Contains row l → (l.variable ≡ f.variable → ⊥)
        → (is_bad_now pivot (value_on Front) l ≡ true)
        ⊎ ((is_open (value_on Front) l ≡ true) × (is_pivot pivot scopes l ≡ false))
    from_row l i ne =
        ⊎_elim
        (λ (below : place_on trail l.variable < place_on trail f.variable). inl
        (bad_low pivot (place_on trail f.variable) trail l below (earlier_bad l i below)))
        (λ (above : place_on trail f.variable ≤ place_on trail l.variable). inr (
          open_high (place_on trail f.variable) trail l above,
          ⊎_elim
              (λ p. absurd
              (let at_most = last.last l i p in
              let same : place_on trail l.variable ≡ place_on trail f.variable = omega arith in
              ne (places_apart trail l.variable f.variable (pivot_known l i p) last_known same)))
              (λ n. n)
              (cases_Bool (is_pivot pivot scopes l)),
        ))
        (cases_lt (place_on trail l.variable) (place_on trail f.variable))

    from_reason : (l : Literal) → Contains reason l → (l.variable ≡ f.variable → ⊥)
        → (is_bad_now pivot (value_on Front) l ≡ true)
        ⊎ ((is_open (value_on Front) l ≡ true) × (is_pivot pivot scopes l ≡ false))
    from_reason l i ne =
        let here = subst (λ (t : Trail). IsPending pivot scopes (value_on t) (Some (negation f)) reason)
        (before_take trail f.variable) pending in
        ⊎_elim
        (λ kept. absurd (ne (ap (λ (m : Literal). m.variable) kept)))
        (λ r. ⊎_elim inl (λ o. inr (o.0, o.1)) r)
        (here l i)

    pub before_bad : IsBadRow pivot scopes (value_on Front) (reduce pivot scopes (resolved_with row reason f))
    before_bad l i =
        let m = mixes l (part l i) in
        inr (⊎_elim inl (λ o. inr (o.0, o.1, tt))
        (⊎_elim (λ k. from_row l k m.1) (λ k. from_reason l k m.1) m.0))

-- a bad row on the front of a trail, whose pivot-type literals were assumed, is an end row
pub front_ends : (pivot : Quant) (scopes : List Scope) (trail : Trail) (row : Row)
    → IsBadOnFront pivot scopes trail row
    → ((l : Literal) → Contains row l → is_pivot pivot scopes l ≡ true → cause_on trail l.variable ≡ Some Assumed)
    → (assumptions : List Literal) → AreTheAssumptions trail assumptions → IsEndRow pivot scopes assumptions row
front_ends pivot scopes trail row on assumed assumptions are = record {
  pivots = λ l i p. are.entries l.variable (assumed l i p);
  bad = λ l b i e.
      let stands = are.stand l.variable b e in
      let v : value_on (take on.end trail) l.variable ≡ Some b =
      value_low on.end trail l.variable (on.assumed l.variable stands.1) ∙ stands.0 in
      ⊎_elim (λ k. absurd k)
      (λ s. ⊎_elim (λ t. ap (λ o. is_bad_if pivot o l) (sym v) ∙ t)
      (λ o. absurd (open_not_known (value_on (take on.end trail) l.variable) o.0 (ap is_some v))) s)
      (on.bad l i);
}
