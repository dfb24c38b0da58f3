-- On an ordered trail: a blocker was propagated; a clean row is unit below its last decision, or an end row.
use Rattle.std.proofs.Common.{◌≡◌, ℕ, ◌-◌, ◌<◌, ◌≤◌, Bool, true, false, List, [], Contains, Option, Some, None, is_some, is_none, sym, ap, ◌∙◌, inl, inr, ⊎_elim, arith}
use Rattle.std.proofs.lemmas.Bool.{cases_Bool, cases_eq, cases_lt, true≢false, false≢true}
use Rattle.prefix.specs.Literal.{Literal}
use Rattle.prefix.specs.Scopes.{Scope, all_variables, quantifier_of}
use Rattle.prefix.specs.declared.quant.Quant.{Quant}
use Rattle.calculus.specs.Rows.{IsRow, Row, depth_of, is_pivot}
use Rattle.calculus.specs.Search.{Cause, HasAssumptions, IsBadRow, IsClean, IsLast, IsOrderedTrail, IsUnitIn, Trail, cause_on, values_up_to, decision_level_on, is_bad_if, place_on, value_on, MakesUnitAt, last_level, cut_trail}
use Rattle.calculus.specs.Search.Cause.{Assumed, Decided, Propagated}
use Rattle.calculus.specs.Verdicts.{IsEndRow}
use Rattle.calculus.proofs.Ascending.{rises}
use Rattle.calculus.proofs.Levels.{one_quantifier, depth_at_least}
use Rattle.calculus.proofs.RowLemmas.{one_literal, same_true, same_from}
use Rattle.calculus.proofs.Searching.{bad_assigned, unit_at_level}
use Rattle.calculus.proofs.Trails.{places_apart, decided_after, assumed_after, levels_rise_at, decision_level_least, cause_of_assigned}
use mathlib.Core.Path.{fun_ext}
use Rattle.std.specs.List.{list_any}
use Rattle.calculus.proofs.TrailLaws.{level_most, cut_value_from}
use Rattle.calculus.proofs.Lists.{any_from}

open_not_assigned : (o : Option Bool) → is_none o ≡ true → is_some o ≡ true → ⊥
open_not_assigned None a b = false≢true b
open_not_assigned (Some x) a b = false≢true a

-- a literal that keeps an open one from reduction was propagated
pub blocker_propagated : (scopes : List Scope) (trail : Trail) → IsOrderedTrail scopes trail → (f u : ℕ)
    → is_some (value_on trail f) ≡ true → Contains (all_variables scopes) u → is_none (value_on trail u) ≡ true
    → depth_of scopes u < depth_of scopes f → (step : ℕ) × (cause_on trail f ≡ Some (Propagated step))
blocker_propagated scopes trail ordered f u assigned i open_ below =
    let r = cause_of_assigned trail f assigned in
    by_cause r.0 r.1
  where
    by_cause : (c : Cause) → cause_on trail f ≡ Some c → (step : ℕ) × (cause_on trail f ≡ Some (Propagated step))
    by_cause Assumed e = absurd (let a = assumed_after scopes [] trail ordered f e in let one = a.0 in let least :
        1 ≤ depth_of scopes u = depth_at_least scopes u in omega arith)
    by_cause Decided e = absurd (⊎_elim (λ a. false≢true a) (λ r. open_not_assigned (value_on trail u) open_ r.0)
        (decided_after scopes [] trail ordered f e u i below))
    by_cause (Propagated step) e = (step, e)

-- a clean row whose last pivot-type literal was decided is unit one level down
pub decided_unit : (pivot : Quant) (scopes : List Scope) (trail : Trail) (row : Row) (e : Literal)
    → IsOrderedTrail scopes trail → IsRow scopes row → IsClean pivot (value_on trail) row
    → IsLast pivot scopes trail row e → cause_on trail e.variable ≡ Some Decided
    → IsUnitIn pivot scopes
    (values_up_to (value_on trail) (decision_level_on trail) (decision_level_on trail e.variable - 1)) row e
decided_unit pivot scopes trail row e ordered is_row clean last decided =
    let above : 0 < decision_level_on trail e.variable = decision_level_least 0 trail e.variable decided in
    unit_at_level pivot scopes (value_on trail) (decision_level_on trail) row e (decision_level_on trail e.variable - 1)
    clean last.stands last.pivot_type (omega arith)
    (λ l i.
    let l_assigned = bad_assigned pivot (value_on trail l.variable) l (clean l i) in
    let e_assigned = bad_assigned pivot (value_on trail e.variable) e (clean e last.stands) in
    let earlier : place_on trail l.variable < place_on trail e.variable → decision_level_on trail l.variable ≤
    decision_level_on trail e.variable - 1 = λ below. let h : decision_level_on trail l.variable < decision_level_on
    trail e.variable = levels_rise_at 0 trail l.variable e.variable l_assigned decided below in omega arith in
    ⊎_elim
    (λ p. ⊎_elim
    (λ same. inl
    (one_literal row (rises is_row) l e i last.stands
    (places_apart trail l.variable e.variable l_assigned e_assigned same)))
    (λ differ. inr (inl (earlier (let at_most = last.last l i p in omega arith))))
    (cases_eq (place_on trail l.variable) (place_on trail e.variable)))
    (λ n. ⊎_elim
    (λ lower. inr
    (inl (earlier
    (⊎_elim (λ a. absurd (false≢true a)) (λ r. r.1)
    (decided_after scopes [] trail ordered e.variable decided l.variable (is_row.over_prefix l i) lower)))))
    (λ not_lower. inr (inr (n, later l n not_lower)))
    (cases_lt (depth_of scopes l.variable) (depth_of scopes e.variable)))
    (cases_Bool (is_pivot pivot scopes l)))
  where
    later : (l : Literal) → is_pivot pivot scopes l ≡ false → depth_of scopes e.variable ≤ depth_of scopes l.variable
        → depth_of scopes e.variable < depth_of scopes l.variable
    later l n not_lower =
        let differ : depth_of scopes e.variable ≡ depth_of scopes l.variable → ⊥ = λ same. true≢false
        (sym (same_from (quantifier_of scopes l.variable) pivot
        (sym (one_quantifier scopes e.variable l.variable same) ∙ same_true (quantifier_of scopes e.variable) pivot
        last.pivot_type)) ∙ n) in
        omega arith

-- a bad row whose pivot-type literals were assumed is an end row
pub assumed_end : (pivot : Quant) (scopes : List Scope) (trail : Trail) (assumptions : List Literal) (row : Row)
    → HasAssumptions trail assumptions → IsBadRow pivot scopes (value_on trail) row
    → ((l : Literal) → Contains row l → is_pivot pivot scopes l ≡ true → cause_on trail l.variable ≡ Some Assumed)
    → IsEndRow pivot scopes assumptions row
assumed_end pivot scopes trail assumptions row has bad assumed = record {
  pivots = λ l i p. has.entries l.variable (assumed l i p);
  bad = λ l b i e.
      let v : value_on trail l.variable ≡ Some b = has.values l.variable b e in
      ⊎_elim (λ k. absurd k)
      (λ s. ⊎_elim (λ t. ap (λ o. is_bad_if pivot o l) (sym v) ∙ t)
      (λ o. absurd (open_not_assigned (value_on trail l.variable) o.0 (ap is_some v))) s)
      (bad l i);
}

-- a clean row whose last pivot-type literal was assumed is an end row
pub last_assumed_end : (pivot : Quant) (scopes : List Scope) (trail : Trail) (assumptions : List Literal) (row : Row)
    (e : Literal) → IsOrderedTrail scopes trail → HasAssumptions trail assumptions → IsClean pivot (value_on trail) row
    → IsLast pivot scopes trail row e → cause_on trail e.variable ≡ Some Assumed → IsEndRow pivot scopes assumptions row
last_assumed_end pivot scopes trail assumptions row e ordered has clean last assumed =
    assumed_end pivot scopes trail assumptions row has (λ l i. inr (inl (clean l i)))
    (λ l i p.
    let l_assigned = bad_assigned pivot (value_on trail l.variable) l (clean l i) in
    let e_assigned = bad_assigned pivot (value_on trail e.variable) e (clean e last.stands) in
    ⊎_elim
    (λ same. ap (cause_on trail) (places_apart trail l.variable e.variable l_assigned e_assigned same) ∙ assumed)
    (λ differ. (assumed_after scopes [] trail ordered e.variable assumed).2 l.variable l_assigned
    (let at_most = last.last l i p in omega arith))
    (cases_eq (place_on trail l.variable) (place_on trail e.variable)))

-- so is a bad row without pivot-type literals
pub no_pivots_end : (pivot : Quant) (scopes : List Scope) (trail : Trail) (assumptions : List Literal) (row : Row)
    → HasAssumptions trail assumptions → IsBadRow pivot scopes (value_on trail) row → list_any (is_pivot pivot scopes)
    row ≡ false → IsEndRow pivot scopes assumptions row
no_pivots_end pivot scopes trail assumptions row has bad none = assumed_end pivot scopes trail assumptions row has bad
    (λ l i p. absurd (true≢false (sym (any_from (is_pivot pivot scopes) row l i p) ∙ none)))

-- a clean row whose last pivot-type literal was decided makes it unit one level down
pub decided_makes_unit : (pivot : Quant) (scopes : List Scope) (trail : Trail) (row : Row) (e : Literal)
    → IsOrderedTrail scopes trail → IsRow scopes row → IsClean pivot (value_on trail) row
    → IsLast pivot scopes trail row e → cause_on trail e.variable ≡ Some Decided → MakesUnitAt pivot scopes trail row e
    (decision_level_on trail e.variable - 1)
decided_makes_unit pivot scopes trail row e ordered is_row clean last decided =
    let b = decision_level_on trail e.variable - 1 in
    let above : 0 < decision_level_on trail e.variable = decision_level_least 0 trail e.variable decided in
    let most : decision_level_on trail e.variable ≤ last_level trail = level_most 0 trail e.variable in
    let same : value_on (cut_trail b trail) ≡ values_up_to (value_on trail) (decision_level_on trail) b =
    fun_ext (λ x. cut_value_from 0 b trail x) in
    record {
      below = omega arith;
      unit =
          rw same (decided_unit pivot scopes trail row e ordered is_row clean last decided);
    }
