-- Lower levels at which a clean row is unit.
use Rattle.std.proofs.Common.{◌≡◌, ℕ, ◌<◌, ◌≤◌, ◌⊎◌, true, false, not, ◌||◌, List, [], Contains, Some, None, is_some, sym, ap, ◌∙◌, inl, inr, ⊎_elim, arith, nat_eq, nat_lt, nat_le}
use Rattle.std.proofs.lemmas.Bool.{cases_Bool, cases_lt, and_parts, and_from, or_left, or_right, or_cases, ltb-true, lt-ltb, eqb-true, eq-eqb, true≢false, false≢true, leb-true, cond-false}
use mathlib.Core.Path.{fun_ext}
use Rattle.prefix.specs.declared.quant.Quant.{Quant}
use Rattle.prefix.specs.Literal.{Literal}
use Rattle.prefix.specs.Scopes.{Scope, quantifier_of}
use Rattle.calculus.specs.Rows.{IsRow, Row, depth_of, is_pivot}
use Rattle.calculus.specs.Search.{IsClean, IsLast, IsOrderedTrail, MakesUnitAt, Trail, cause_on, values_up_to, cut_trail, decision_level_on, last_level, must_stay, place_on, value_on}
use Rattle.calculus.specs.Search.Cause.{Decided}
use Rattle.calculus.proofs.Ascending.{rises}
use Rattle.calculus.proofs.Levels.{one_quantifier}
use Rattle.calculus.proofs.RowLemmas.{one_literal, same_true, same_from}
use Rattle.calculus.proofs.Searching.{bad_assigned, unit_at_level}
use Rattle.calculus.proofs.TrailLaws.{cut_value_from, level_most}
use Rattle.calculus.proofs.Trails.{decided_after, levels_rise_at, places_apart}

pub lower_unit : (pivot : Quant) (scopes : List Scope) (trail : Trail) (row : Row) (e : Literal) (b : ℕ)
    → IsClean pivot (value_on trail) row → Contains row e → is_pivot pivot scopes e ≡ true
    → b < decision_level_on trail e.variable
    → ((l : Literal) → Contains row l → (l ≡ e)
    ⊎ ((decision_level_on trail l.variable ≤ b)
    ⊎ ((is_pivot pivot scopes l ≡ false) × (depth_of scopes e.variable < depth_of scopes l.variable))))
    → MakesUnitAt pivot scopes trail row e b
lower_unit pivot scopes trail row e b clean i p below others =
    let most : decision_level_on trail e.variable ≤ last_level trail = level_most 0 trail e.variable in
    let same : value_on (cut_trail b trail) ≡ values_up_to (value_on trail) (decision_level_on trail) b =
    fun_ext (λ x. cut_value_from 0 b trail x) in
    record {
      below = omega arith;
      unit =
          rw same (unit_at_level pivot scopes (value_on trail) (decision_level_on trail) row e b clean i p below
          others);
    }

-- the literals that must stay bad
module _ (pivot : Quant) (scopes : List Scope) (row : Row) (e : Literal) where
  differs : (l : Literal) → must_stay pivot scopes e l ≡ true → l.variable ≡ e.variable → ⊥
  differs l must same = let parts = and_parts (not (nat_eq l.variable e.variable))
      (is_pivot pivot scopes l || nat_lt (depth_of scopes l.variable) (depth_of scopes e.variable)) must in
      true≢false (sym parts.0 ∙ ap not (eq-eqb l.variable e.variable same))

  holds_back : (l : Literal) → must_stay pivot scopes e l ≡ true → (is_pivot pivot scopes l ≡ true)
      ⊎ (depth_of scopes l.variable < depth_of scopes e.variable)
  holds_back l must =
      let parts = and_parts (not (nat_eq l.variable e.variable))
      (is_pivot pivot scopes l || nat_lt (depth_of scopes l.variable) (depth_of scopes e.variable)) must in
      ⊎_elim inl (λ t. inr (ltb-true (depth_of scopes l.variable) (depth_of scopes e.variable) t))
      (or_cases (is_pivot pivot scopes l) (nat_lt (depth_of scopes l.variable) (depth_of scopes e.variable))
      parts.1)

  must_from : (l : Literal) → nat_eq l.variable e.variable ≡ false → (is_pivot pivot scopes l ≡ true)
      ⊎ (depth_of scopes l.variable < depth_of scopes e.variable) → must_stay pivot scopes e l ≡ true
  must_from l apart held = and_from (not (nat_eq l.variable e.variable))
      (is_pivot pivot scopes l || nat_lt (depth_of scopes l.variable) (depth_of scopes e.variable)) (ap not apart)
      (⊎_elim
      (λ p. or_left (is_pivot pivot scopes l) (nat_lt (depth_of scopes l.variable) (depth_of scopes e.variable)) p)
      (λ d. or_right (is_pivot pivot scopes l) (nat_lt (depth_of scopes l.variable) (depth_of scopes e.variable))
      (lt-ltb (depth_of scopes l.variable) (depth_of scopes e.variable) d))
      held)

  other_depth : is_pivot pivot scopes e ≡ true → (l : Literal) → is_pivot pivot scopes l ≡ false
      → depth_of scopes e.variable ≤ depth_of scopes l.variable → depth_of scopes e.variable < depth_of scopes
      l.variable
  other_depth p l n not_lower =
      let differ : depth_of scopes e.variable ≡ depth_of scopes l.variable → ⊥ = λ same. true≢false
      (sym (same_from (quantifier_of scopes l.variable) pivot
      (sym (one_quantifier scopes e.variable l.variable same) ∙ same_true (quantifier_of scopes e.variable) pivot
      p)) ∙ n) in
      omega arith

  pub must_unit : (trail : Trail) (b : ℕ) → IsRow scopes row → IsClean pivot (value_on trail) row → Contains row e
      → is_pivot pivot scopes e ≡ true → b < decision_level_on trail e.variable
      → ((l : Literal) → Contains row l → must_stay pivot scopes e l ≡ true → decision_level_on trail l.variable ≤ b)
      → MakesUnitAt pivot scopes trail row e b
  must_unit trail b is_row clean stands p low bound =
      lower_unit pivot scopes trail row e b clean stands p low
      (λ l i. ⊎_elim
      (λ t. inl (one_literal row (rises is_row) l e i stands (eqb-true l.variable e.variable t)))
      (λ apart. ⊎_elim
      (λ held. inr (inl (bound l i (must_from l apart (inl held)))))
      (λ n. ⊎_elim
      (λ earlier. inr (inl (bound l i (must_from l apart (inr earlier)))))
      (λ not_earlier. inr (inr (n, other_depth p l n not_earlier)))
      (cases_lt (depth_of scopes l.variable) (depth_of scopes e.variable)))
      (cases_Bool (is_pivot pivot scopes l)))
      (cases_Bool (nat_eq l.variable e.variable)))

  pub must_least : (trail : Trail) (b : ℕ) → MakesUnitAt pivot scopes trail row e b → (l : Literal) → Contains row l
      → must_stay pivot scopes e l ≡ true → decision_level_on trail l.variable ≤ b
  must_least trail b makes l i must =
      ⊎_elim
      (λ same. absurd (differs l must (ap (λ (m : Literal). m.variable) same)))
      (λ r. ⊎_elim
      (λ bad. assigned_low (bad_assigned pivot (value_on (cut_trail b trail) l.variable) l bad))
      (λ o. absurd
      (⊎_elim (λ p. true≢false (sym p ∙ o.1))
      (λ (earlier : depth_of scopes l.variable < depth_of scopes e.variable). let later = o.2 in omega arith)
      (holds_back l must)))
      r)
      (makes.unit.others l i)
    where
      assigned_low : is_some (value_on (cut_trail b trail) l.variable) ≡ true → decision_level_on trail l.variable ≤ b
      assigned_low known =
          ⊎_elim (λ t. leb-true (decision_level_on trail l.variable) b t)
          (λ f. absurd
          (false≢true
          (sym (ap is_some
          (cut_value_from 0 b trail l.variable ∙ cond-false (nat_le (decision_level_on trail l.variable) b)
          (value_on trail l.variable) None f)) ∙ known)))
          (cases_Bool (nat_le (decision_level_on trail l.variable) b))

  -- where the last was decided they stand at lower levels
  pub must_below : (trail : Trail) → IsOrderedTrail scopes trail → IsRow scopes row → IsClean pivot (value_on trail) row
      → IsLast pivot scopes trail row e → cause_on trail e.variable ≡ Some Decided → (l : Literal) → Contains row l
      → must_stay pivot scopes e l ≡ true → decision_level_on trail l.variable < decision_level_on trail e.variable
  must_below trail ordered is_row clean last decided l i must =
      let l_assigned = bad_assigned pivot (value_on trail l.variable) l (clean l i) in
      let e_assigned = bad_assigned pivot (value_on trail e.variable) e (clean e last.stands) in
      let earlier : place_on trail l.variable < place_on trail e.variable → decision_level_on trail l.variable <
      decision_level_on trail e.variable = λ before. levels_rise_at 0 trail l.variable e.variable l_assigned decided
      before in
      ⊎_elim
      (λ p.
      let at_most = last.last l i p in
      let differ : place_on trail l.variable ≡ place_on trail e.variable → ⊥ = λ same. differs l must
      (places_apart trail l.variable e.variable l_assigned e_assigned same) in
      earlier (omega arith))
      (λ d. earlier
      (⊎_elim (λ a. absurd (false≢true a)) (λ r. r.1)
      (decided_after scopes [] trail ordered e.variable decided l.variable (is_row.over_prefix l i) d)))
      (holds_back l must)
