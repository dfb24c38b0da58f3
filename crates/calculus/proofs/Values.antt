-- What is known of values that follow a proof: they rest on earlier scopes alone, and decide the truth from the first
-- scope on.
use Rattle.std.proofs.Common.{◌≡◌, ◌≢◌, ℕ, suc, zero, ◌<◌, ◌≤◌, Bool, false, List, [], ◌∷◌, Contains, Some, None, unwrap_or, sym, refl, ap, ◌∙◌, ⊎_elim, arith, nat_eq}
use Rattle.std.proofs.lemmas.Bool.{cases_Bool, cond-true, cond-false, eq-eqb, ne_eqb, eqb-true, true≢false}
use Rattle.std.proofs.lemmas.List.Elements.{Contains-append_left}
use Rattle.prefix.specs.Literal.{Literal}
use Rattle.prefix.specs.Scopes.{AreDistinct, Scope, all_variables, is_among, quantifier_of, variables_at}
use Rattle.prefix.specs.Sides.{bad_of}
use Rattle.prefix.specs.declared.quant.Quant.{Quant}
use Rattle.truth.specs.Truth.{assumed_value, truth_under}
use Rattle.calculus.specs.Derivations.{Inference}
use Rattle.calculus.specs.Plays.{AgreeBefore, Follows, first_forced, literals_of}
use Rattle.calculus.specs.Rows.{Assignment, Row, depth_of}
use Rattle.calculus.specs.Verdicts.{AreOuter}
use Rattle.calculus.proofs.Levels.{level_from, depth_at_least, outer_level, level_at_least, depth_counted}
use Rattle.calculus.proofs.Sound.{AreSoundSteps, IsSound}
use Rattle.calculus.proofs.Lists.{contains_cons, contains_nil, contains_head, contains_tail, among_at, among_from}
use Rattle.calculus.proofs.Strategy.{same_quantifier_cases}
use Rattle.calculus.proofs.Locality.{first_forced_same}
use Rattle.calculus.proofs.Verdict.{following_decides, strategy_decides, option_cases, override, override_assumed, override_free, override_same, play_of, play_local}

-- two plays that agree on the loser's variables of earlier scopes agree on a variable of the winner
module _ (pivot : Quant) (scopes : List Scope) (clauses : List Row) (assumptions : List Literal)
    (steps : List Inference) (outer : AreOuter scopes assumptions)
    (are : AreSoundSteps pivot scopes clauses assumptions [] steps) (v w : Assignment)
    (plays_v : Follows pivot scopes assumptions steps v) (plays_w : Follows pivot scopes assumptions steps w) where
  earlier_alone_below : (bound x : ℕ) → depth_of scopes x < bound → Contains (all_variables scopes) x
      → quantifier_of scopes x ≢ Some pivot → AgreeBefore pivot scopes x v w → v x ≡ w x
  earlier_alone_below zero x below i q agree = absurd (omega arith)
  earlier_alone_below (suc bound) x below i q agree =
      let level : (x : ℕ) (b : Bool) → assumed_value assumptions x ≡ Some b → depth_of scopes x ≡ 1 =
      λ x b e. (outer_level scopes assumptions outer x b e).1 in
      ⊎_elim
      (λ n. plays_v.ruled x i q n
      ∙ (ap (λ o. unwrap_or o false) (first_forced_same pivot scopes clauses assumptions level v w x
      (λ y j lower. ⊎_elim (λ same. agree y j same lower)
      (λ ne. earlier_alone_below bound y (omega arith) j ne (λ z k e lower'. agree z k e (omega arith)))
      (same_quantifier_cases (quantifier_of scopes y) pivot))
      (λ y b e ne. plays_v.given y b e ne ∙ sym (plays_w.given y b e ne))
      [] steps are)
      ∙ sym (plays_w.ruled x i q n)))
      (λ r. plays_v.given x r.0 r.1 q ∙ sym (plays_w.given x r.0 r.1 q))
      (option_cases (assumed_value assumptions x))

  pub earlier_alone : (x : ℕ) → Contains (all_variables scopes) x → quantifier_of scopes x ≢ Some pivot
      → AgreeBefore pivot scopes x v w → v x ≡ w x
  earlier_alone x i q agree = earlier_alone_below (suc (depth_of scopes x)) x (omega arith) i q agree

-- the first scope
outermost_level : (scopes : List Scope) (x : ℕ) → Contains (variables_at scopes 1) x → depth_of scopes x ≡ 1
outermost_level [] x i = absurd (contains_nil x i)
outermost_level (scope ∷ scopes) x i = depth_counted (scope ∷ scopes) x ∙ cond-true (is_among x scope.variables) 1
    (level_from 2 scopes x) (among_from scope.variables x i)

level_outermost : (scopes : List Scope) (x : ℕ) → Contains (all_variables scopes) x → depth_of scopes x ≡ 1
    → Contains (variables_at scopes 1) x
level_outermost [] x i e = absurd (contains_nil x i)
level_outermost (scope ∷ scopes) x i e =
    ⊎_elim (λ t. among_at scope.variables x t)
    (λ f. let past : level_from 1 (scope ∷ scopes) x ≡ level_from 2 scopes x = cond-false (is_among x scope.variables) 1
    (level_from 2 scopes x) f in
    let counted : depth_of (scope ∷ scopes) x ≡ level_from 1 (scope ∷ scopes) x = depth_counted (scope ∷ scopes) x in
    let high : 2 ≤ level_from 2 scopes x = level_at_least 2 scopes x in absurd (omega arith))
    (cases_Bool (is_among x scope.variables))

pub outermost_order : (scopes : List Scope) (x : ℕ) → Contains (variables_at scopes 1) x
    → Contains (all_variables scopes) x
outermost_order [] x i = i
outermost_order (scope ∷ scopes) x i = Contains-append_left scope.variables (all_variables scopes) x i

literals_value : (values : Assignment) (xs : List ℕ) (x : ℕ) → Contains xs x → assumed_value (literals_of values xs)
    x ≡ Some (values x)
literals_value values [] x i = absurd (contains_nil x i)
literals_value values (y ∷ ys) x i =
    ⊎_elim (λ t. cond-true (nat_eq y x) (Some (values y)) (assumed_value (literals_of values ys) x) t
    ∙ ap (λ z. Some (values z)) (eqb-true y x t))
    (λ f. cond-false (nat_eq y x) (Some (values y)) (assumed_value (literals_of values ys) x) f
    ∙ ⊎_elim (λ e. absurd (true≢false (sym (eq-eqb y x e) ∙ f))) (λ j. literals_value values ys x j)
    (contains_cons y ys x i))
    (cases_Bool (nat_eq y x))

literals_none : (values : Assignment) (xs : List ℕ) (x : ℕ) → (Contains xs x → ⊥)
    → assumed_value (literals_of values xs) x ≡ None
literals_none values [] x out = refl
literals_none values (y ∷ ys) x out =
    cond-false (nat_eq y x) (Some (values y)) (assumed_value (literals_of values ys) x)
    (ne_eqb y x (λ e. out (rw e (contains_head x ys))))
    ∙ literals_none values ys x (λ i. out (contains_tail y ys x i))

-- what the first-falsified rule gives to the variables of the first scope: it reads no values
abbrev pub AreFirstValues : Quant → List Scope → List Literal → List Inference → Assignment → Type 0
AreFirstValues pivot scopes assumptions steps values = (x : ℕ) → Contains (variables_at scopes 1) x
    → values x ≡ override assumptions (play_of pivot assumptions steps (λ x. false)) x

pub first_values_truth : (pivot : Quant) (scopes : List Scope) (clauses : List Row) (assumptions : List Literal)
    (steps : List Inference) (values : Assignment) → AreDistinct (all_variables scopes) → AreOuter scopes assumptions
    → IsSound pivot scopes clauses assumptions steps
    → ((x : ℕ) → Contains (variables_at scopes 1) x → quantifier_of scopes x ≢ Some pivot)
    → AreFirstValues pivot scopes assumptions steps values → truth_under (literals_of values (variables_at scopes 1))
    scopes clauses ≡ bad_of pivot
unfolding play_of
first_values_truth pivot scopes clauses assumptions steps values distinct outer proof winners first =
    let fixed = literals_of values (variables_at scopes 1) in
    let first_level : (u : Assignment) (x : ℕ) → Contains (variables_at scopes 1) x → play_of pivot assumptions steps
    (λ x. false) x ≡ play_of pivot assumptions steps u x = λ u x i. play_local pivot scopes clauses assumptions
    steps outer proof.last_step (λ x. false) u x (λ y lower. let one = outermost_level scopes x i in let least :
    1 ≤ depth_of scopes y = depth_at_least scopes y in absurd (omega arith)) in
    strategy_decides pivot scopes clauses fixed (play_of pivot assumptions steps)
    (play_local pivot scopes clauses assumptions steps outer proof.last_step) distinct
    (λ u plays.
    let outermost_in : (x : ℕ) → Contains (variables_at scopes 1) x → Contains (all_variables scopes) x =
    λ x i. outermost_order scopes x i in
    let at_first : (x : ℕ) → Contains (variables_at scopes 1) x → u x ≡ override assumptions
    (play_of pivot assumptions steps (λ x. false)) x = λ x i. plays.given x (values x) (outermost_in x i)
    (literals_value values (variables_at scopes 1) x i) ∙ first x i in
    let respected : (x : ℕ) (b : Bool) → assumed_value assumptions x ≡ Some b → u x ≡ b = λ x b e. let o =
    outer_level scopes assumptions outer x b e in at_first x (level_outermost scopes x o.0 o.1)
    ∙ override_assumed assumptions (play_of pivot assumptions steps (λ x. false)) x b e in
    let read : override assumptions u ≡ u = override_same assumptions u respected in
    let played : (x : ℕ) → play_of pivot assumptions steps u x ≡ unwrap_or (first_forced pivot u x steps) false =
    λ x. ap (λ t. unwrap_or (first_forced pivot t x steps) false) read in
    following_decides pivot scopes clauses assumptions steps u outer proof (λ x b e q. respected x b e) (record {
      given = λ x b e q. respected x b e;
      ruled = λ x i q n. ⊎_elim
          (λ t. let j = among_at (variables_at scopes 1) x t in at_first x j
          ∙ (override_free assumptions (play_of pivot assumptions steps (λ x. false)) x n
          ∙ (first_level u x j ∙ played x)))
          (λ f. plays.chosen x i q
          (literals_none values (variables_at scopes 1) x
          (λ j. true≢false (sym (among_from (variables_at scopes 1) x j) ∙ f))) ∙ played x)
          (cases_Bool (is_among x (variables_at scopes 1)));
    }))

-- values that follow a proof have the first values
pub following_first : (pivot : Quant) (scopes : List Scope) (clauses : List Row) (assumptions : List Literal)
    (steps : List Inference) (values : Assignment) → AreOuter scopes assumptions → AreSoundSteps pivot scopes clauses
    assumptions [] steps → ((x : ℕ) → Contains (variables_at scopes 1) x → Contains (all_variables scopes) x
    × (quantifier_of scopes x ≢ Some pivot)) → Follows pivot scopes assumptions steps values
    → AreFirstValues pivot scopes assumptions steps values
unfolding play_of
following_first pivot scopes clauses assumptions steps values outer are winners follows x i =
    let level : (x : ℕ) (b : Bool) → assumed_value assumptions x ≡ Some b → depth_of scopes x ≡ 1 =
    λ x b e. (outer_level scopes assumptions outer x b e).1 in
    ⊎_elim
    (λ n. follows.ruled x (winners x i).0 (winners x i).1 n
    ∙ (ap (λ o. unwrap_or o false) (first_forced_same pivot scopes clauses assumptions level values
    (override assumptions (λ x. false)) x
    (λ y j lower. let one = outermost_level scopes x i in let least : 1 ≤ depth_of scopes y = depth_at_least scopes y in
    absurd (omega arith))
    (λ y b e q. follows.given y b e q ∙ sym (override_assumed assumptions (λ x. false) y b e))
    [] steps are)
    ∙ sym (override_free assumptions (play_of pivot assumptions steps (λ x. false)) x n)))
    (λ r. follows.given x r.0 r.1 (winners x i).1
    ∙ sym (override_assumed assumptions (play_of pivot assumptions steps (λ x. false)) x r.0 r.1))
    (option_cases (assumed_value assumptions x))
