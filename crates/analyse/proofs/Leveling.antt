-- The level at which a clean row is unit.
use Rattle.std.proofs.Common.{◌≡◌, ℕ, ◌<◌, ◌≤◌, ◌⊎◌, Contains, Bool, true, false, List, [], ◌∷◌, ◌++◌, max, Option, Some, None, is_some, is_none, cond, nat_le, refl, sym, ap, ◌∙◌, inl, inr, ⊎_elim, arith}
use Rattle.std.specs.Prelude.{IsTrue}
use Rattle.std.proofs.lemmas.Bool.{cases_lt, cond-true, false≢true, le-leb, true≢false}
use Rattle.std.proofs.lemmas.List.Elements.{Contains-push, Contains-push_cases, Contains-append_left}
use Rattle.prefix.specs.declared.quant.Quant.{Quant}
use Rattle.prefix.specs.Literal.{Literal}
use Rattle.prefix.specs.Scopes.{Scope}
use Rattle.calculus.specs.Rows.{IsRow, Row, depth_of}
use Rattle.calculus.specs.Search.{IsLast, IsOrderedTrail, MakesUnitAt, Trail, cause_on, cut_trail, decision_level_on, must_stay, value_on}
use Rattle.calculus.specs.Search.Cause.{Decided}
use Rattle.calculus.proofs.Lists.{contains_nil}
use Rattle.calculus.proofs.Lowering.{must_least}
use Rattle.calculus.proofs.Searching.{bad_assigned}
use Rattle.calculus.proofs.TrailLaws.{cut_value_from}
use Rattle.calculus.proofs.Trails.{decision_level_least}
use Rattle.analyse.specs.Fronts.{IsBadOnFront}
use Rattle.analyse.proofs.Fronting.{decided_stays, front_unit, last_known, stays_apart, stays_held}
use Rattle.analyse.specs.Levels.{IsLevelBelow, MakesUnitFirstAt}

clash : (b : Bool) → b ≡ true → b ≡ false → ⊥
clash b t f = true≢false (sym t ∙ f)

-- one literal further
module _ (pivot : Quant) (scopes : List Scope) (trail : Trail) (unit : Literal) where
  pub level_nil : IsLevelBelow pivot scopes trail unit [] 0
  level_nil = record { bound = λ l i. absurd (contains_nil l i); reached = inl refl }

  pub level_skip : (row : Row) (v : Literal) (level : ℕ) → must_stay pivot scopes unit v ≡ false
      → IsLevelBelow pivot scopes trail unit row level → IsLevelBelow pivot scopes trail unit (row ++ v ∷ []) level
  level_skip row v level out before = record {
    bound = λ l i counted. ⊎_elim (λ j. before.bound l j counted)
        (λ e. absurd (clash (must_stay pivot scopes unit v) (ap (must_stay pivot scopes unit) e ∙ counted) out))
        (Contains-push_cases row v l i);
    reached = ⊎_elim inl (λ at. inr (at.0, Contains-append_left row (v ∷ []) at.0 at.1, at.2, at.3)) before.reached;
  }

  pub level_takes : (row : Row) (v : Literal) (level : ℕ) → must_stay pivot scopes unit v ≡ true
      → IsLevelBelow pivot scopes trail unit row level
      → IsLevelBelow pivot scopes trail unit (row ++ v ∷ []) (max (decision_level_on trail v.variable) level)
  level_takes row v level counted before = record {
    bound = λ l i l_counted. ⊎_elim
        (λ j. let most = before.bound l j l_counted in omega arith)
        (λ e. let same : decision_level_on trail v.variable ≡ decision_level_on trail l.variable = ap
        (λ (m : Literal). decision_level_on trail m.variable) e in omega arith)
        (Contains-push_cases row v l i);
    reached = ⊎_elim
        (λ (higher : level < decision_level_on trail v.variable). inr (
          v,
          Contains-push row v,
          counted,
          (let e : decision_level_on trail v.variable ≡ max
              (decision_level_on trail v.variable) level = omega arith in e),
        ))
        (λ (lower : decision_level_on trail v.variable ≤ level).
        let same : level ≡ max (decision_level_on trail v.variable) level = omega arith in
        ⊎_elim (λ zero_is. inl (sym same ∙ zero_is))
        (λ at. inr (at.0, Contains-append_left row (v ∷ []) at.0 at.1, at.2, at.3 ∙ same)) before.reached)
        (cases_lt level (decision_level_on trail v.variable));
  }

-- a row that is bad on a front is unit at that level first, where it is below that of its last pivot-type literal
module _ (pivot : Quant) (scopes : List Scope) (trail : Trail) (row : Row) (e : Literal) (is_row : IsRow scopes row)
    (on : IsBadOnFront pivot scopes trail row) (last : IsLast pivot scopes trail row e) where
  pub level_makes_unit : (b : ℕ) → IsLevelBelow pivot scopes trail e row b → b < decision_level_on trail e.variable
      → MakesUnitFirstAt pivot scopes trail row e b
  level_makes_unit b below low = record {
    makes = front_unit pivot scopes trail on.end row e on.bad last b is_row low below.bound;
    least = λ c makes. ⊎_elim
        (λ none. omega arith)
        (λ at. let most = must_least pivot scopes row e trail c makes at.0 at.1 at.2 in let is = at.3 in omega arith)
        below.reached;
  }

  -- where it was decided, those that must stay are assigned
  pub decided_known : IsOrderedTrail scopes trail → cause_on trail e.variable ≡ Some Decided
      → (l : Literal) → Contains row l → IsTrue (must_stay pivot scopes e l)
      → IsTrue (is_some (value_on trail l.variable))
  decided_known ordered decided l i must =
      (decided_stays pivot scopes trail on.end row e on.bad last ordered is_row decided l i must).0

  -- and the level is below
  pub decided_is_below : IsOrderedTrail scopes trail → cause_on trail e.variable ≡ Some Decided → (b : ℕ)
      → IsLevelBelow pivot scopes trail e row b → b < decision_level_on trail e.variable
  decided_is_below ordered decided b below =
      let above : 0 < decision_level_on trail e.variable = decision_level_least 0 trail e.variable decided in
      ⊎_elim
      (λ none. omega arith)
      (λ at. let lower = (decided_stays pivot scopes trail on.end row e on.bad last ordered is_row decided at.0 at.1
      at.2).1 in
      let is = at.3 in omega arith)
      below.reached

  -- where one that must stay is unassigned or of no earlier level, no level makes the row unit in it
  pub no_level_makes : (decision_level_on trail e.variable ≡ 0)
      ⊎ ((l : Literal) × Contains row l × IsTrue (must_stay pivot scopes e l)
      × ((value_on trail l.variable ≡ None)
      ⊎ (decision_level_on trail e.variable ≤ decision_level_on trail l.variable)))
      → (b : ℕ) → MakesUnitAt pivot scopes trail row e b → ⊥
  no_level_makes held b makes =
      let assigned = last_known pivot scopes trail on.end row e on.bad last in
      let low : b < decision_level_on trail e.variable = ⊎_elim (λ (l : b < decision_level_on trail e.variable). l)
      (λ (h : decision_level_on trail e.variable ≤ b). absurd
      (stays_assigned assigned (le-leb (decision_level_on trail e.variable) b h)))
      (cases_lt b (decision_level_on trail e.variable)) in
      ⊎_elim
      (λ none. omega arith)
      (λ at. ⊎_elim (λ unassigned. stays_open at.0 at.1 at.2 unassigned)
      (λ high. let one = must_least pivot scopes row e trail b makes at.0 at.1 at.2 in omega arith) at.3)
      held
    where
      open_not : (o : Option Bool) → is_none o ≡ true → is_some o ≡ true → ⊥
      open_not None n s = false≢true s
      open_not (Some v) n s = false≢true n

      stays_assigned : is_some (value_on trail e.variable) ≡ true → nat_le (decision_level_on trail e.variable) b ≡ true
          → ⊥
      stays_assigned known t =
          let same : value_on (cut_trail b trail) e.variable ≡ value_on trail e.variable =
          cut_value_from 0 b trail e.variable ∙ cond-true (nat_le (decision_level_on trail e.variable) b)
          (value_on trail e.variable) None t in
          open_not (value_on (cut_trail b trail) e.variable) makes.unit.open_yet (ap is_some same ∙ known)

      gone : (t : Bool) (o : Option Bool) → o ≡ None → cond t o None ≡ None
      gone true o none = none
      gone false o none = refl

      stays_open : (l : Literal) → Contains row l → must_stay pivot scopes e l ≡ true → value_on trail l.variable ≡ None
          → ⊥
      stays_open l i must unassigned =
          let none : value_on (cut_trail b trail) l.variable ≡ None =
          cut_value_from 0 b trail l.variable
          ∙ gone (nat_le (decision_level_on trail l.variable) b) (value_on trail l.variable) unassigned in
          ⊎_elim
          (λ same. stays_apart pivot scopes e l must (ap (λ (m : Literal). m.variable) same))
          (λ r. ⊎_elim
          (λ bad. false≢true (sym (ap is_some none)
          ∙ bad_assigned pivot (value_on (cut_trail b trail) l.variable) l bad))
          (λ o. ⊎_elim (λ p. true≢false (sym p ∙ o.1))
          (λ (earlier : depth_of scopes l.variable < depth_of scopes e.variable).
          let later : depth_of scopes e.variable < depth_of scopes l.variable = o.2 in omega arith)
          (stays_held pivot scopes e l must))
          r)
          (makes.unit.others l i)
