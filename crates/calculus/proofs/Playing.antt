-- Against each choice of the loser's values there is a play that follows a proof.
use Rattle.std.proofs.Common.{◌≡◌, ℕ, ◌≤◌, Bool, true, false, ◌||◌, cond, List, [], ◌∷◌, Contains, Some, is_some, unwrap_or, sym, refl, ap, ◌∙◌, ⊎_elim, arith}
use Rattle.std.proofs.lemmas.Bool.{cond-true, cond-false, true≢false, cond_both, or_left, or_right, or_from, false_from_ne_true}
use Rattle.prefix.specs.Literal.{Literal}
use Rattle.prefix.specs.Scopes.{AreDistinct, Scope, all_variables, quantifier_of}
use Rattle.prefix.specs.declared.quant.Quant.{Quant}
use Rattle.truth.specs.Truth.{assumed_value}
use Rattle.calculus.specs.Derivations.{Inference}
use Rattle.calculus.specs.Plays.{Follows, assign, first_forced, played, played_from, with_given}
use Rattle.calculus.specs.Rows.{Assignment, Row, depth_of, is_of}
use Rattle.calculus.specs.Verdicts.{AreOuter}
use Rattle.calculus.proofs.Sound.{AreSoundSteps}
use Rattle.calculus.proofs.Lists.{contains_cons, contains_nil, contains_head, contains_tail}
use Rattle.calculus.proofs.Levels.{outer_level, order_ordered}
use Rattle.calculus.proofs.Strategy.{IsOrdered, assign_here, assign_other}
use Rattle.calculus.proofs.RowLemmas.{same_true, same_from}
use Rattle.calculus.proofs.Locality.{first_forced_same}

module _ (pivot : Quant) (scopes : List Scope) (clauses : List Row) (assumptions : List Literal)
    (steps : List Inference) (outer : AreOuter scopes assumptions)
    (are : AreSoundSteps pivot scopes clauses assumptions [] steps) where
  -- the variables that the play doesn't choose
  abbrev is_fixed : ℕ → Bool
  is_fixed x = is_of (quantifier_of scopes x) pivot || is_some (assumed_value assumptions x)

  one_more : ℕ → Assignment → Assignment
  one_more x values = cond (is_fixed x) values (assign values x (unwrap_or (first_forced pivot values x steps) false))

  one_more_other : (x : ℕ) (values : Assignment) (y : ℕ) → (x ≡ y → ⊥) → one_more x values y ≡ values y
  unfolding one_more
  one_more_other x values y ne = cond_both (is_fixed x) values
      (assign values x (unwrap_or (first_forced pivot values x steps) false)) (λ u. u y ≡ values y) (λ t. refl)
      (λ f. assign_other values x (unwrap_or (first_forced pivot values x steps) false) y ne)

  one_more_fixed : (x : ℕ) (values : Assignment) (y : ℕ) → is_fixed y ≡ true → one_more x values y ≡ values y
  unfolding one_more
  one_more_fixed x values y fixed = cond_both (is_fixed x) values
      (assign values x (unwrap_or (first_forced pivot values x steps) false)) (λ u. u y ≡ values y) (λ t. refl)
      (λ f. assign_other values x (unwrap_or (first_forced pivot values x steps) false) y
      (λ e. true≢false (sym fixed ∙ (ap is_fixed (sym e) ∙ f))))

  off_list : (xs : List ℕ) (values : Assignment) (y : ℕ) → (Contains xs y → ⊥) → played_from pivot scopes assumptions
      steps xs values y ≡ values y
  unfolding played_from one_more
  off_list [] values y out = refl
  off_list (x ∷ xs) values y out = off_list xs (one_more x values) y (λ i. out (contains_tail x xs y i))
      ∙ one_more_other x values y (λ e. out (rw e (contains_head y xs)))

  fixed_stays : (xs : List ℕ) (values : Assignment) (y : ℕ) → is_fixed y ≡ true → played_from pivot scopes assumptions
      steps xs values y ≡ values y
  unfolding played_from one_more
  fixed_stays [] values y fixed = refl
  fixed_stays (x ∷ xs) values y fixed = fixed_stays xs (one_more x values) y fixed ∙ one_more_fixed x values y fixed

  chosen : (xs : List ℕ) → IsOrdered (depth_of scopes) xs → (values : Assignment) (y : ℕ) → Contains xs y
      → is_fixed y ≡ false → played_from pivot scopes assumptions steps xs values y ≡ unwrap_or
      (first_forced pivot (played_from pivot scopes assumptions steps xs values) y steps) false
  unfolding played_from one_more
  chosen [] ordered values y i free = absurd (contains_nil y i)
  chosen (x ∷ xs) ordered values y i free =
      ⊎_elim
      here
      (λ j. chosen xs ordered.2 (one_more x values) y j free)
      (contains_cons x xs y i)
    where
      last : Assignment
      last = played_from pivot scopes assumptions steps (x ∷ xs) values

      level : (x : ℕ) (b : Bool) → assumed_value assumptions x ≡ Some b → depth_of scopes x ≡ 1
      level x b e = (outer_level scopes assumptions outer x b e).1

      here : x ≡ y → last y ≡ unwrap_or (first_forced pivot last y steps) false
      here same =
          let free_x : is_fixed x ≡ false = ap is_fixed same ∙ free in
          let choice = unwrap_or (first_forced pivot values x steps) false in
          let at_x : last x ≡ choice = off_list xs (one_more x values) x ordered.1
          ∙ (ap (λ (u : Assignment). u x) (cond-false (is_fixed x) values (assign values x choice) free_x)
          ∙ assign_here values x choice) in
          let agree : first_forced pivot values x steps ≡ first_forced pivot last x steps =
          first_forced_same pivot scopes clauses assumptions level values last x
          (λ z k lower. sym
          (off_list (x ∷ xs) values z
          (λ m. ⊎_elim (λ e. let s : depth_of scopes x ≡ depth_of scopes z = ap (depth_of scopes) e in omega arith)
          (λ n. let above : depth_of scopes x ≤ depth_of scopes z = ordered.0 z n in omega arith)
          (contains_cons x xs z m))))
          (λ z b e q. sym
          (fixed_stays (x ∷ xs) values z
          (or_right (is_of (quantifier_of scopes z) pivot) (is_some (assumed_value assumptions z)) (ap is_some e))))
          [] steps are in
          rw (← same) (at_x ∙ ap (λ o. unwrap_or o false) agree)

  pub played_follows : AreDistinct (all_variables scopes) → (inputs : Assignment) → Follows pivot scopes assumptions
      steps (played pivot scopes assumptions steps inputs)
  unfolding with_given
  played_follows distinct inputs = record {
    given = λ x b e q.
        fixed_stays (all_variables scopes) (with_given pivot scopes assumptions inputs) x
        (or_right (is_of (quantifier_of scopes x) pivot) (is_some (assumed_value assumptions x)) (ap is_some e))
        ∙ (cond-false (is_of (quantifier_of scopes x) pivot) (inputs x)
        (unwrap_or (assumed_value assumptions x) (inputs x))
        (false_from_ne_true (is_of (quantifier_of scopes x) pivot)
        (λ t. q (same_true (quantifier_of scopes x) pivot t)))
        ∙ ap (λ o. unwrap_or o (inputs x)) e);
    ruled = λ x i q n. chosen (all_variables scopes) (order_ordered scopes distinct)
        (with_given pivot scopes assumptions inputs) x i
        (or_from (is_of (quantifier_of scopes x) pivot) (is_some (assumed_value assumptions x))
        (false_from_ne_true (is_of (quantifier_of scopes x) pivot)
        (λ t. q (same_true (quantifier_of scopes x) pivot t))) (ap is_some n));
  }

  -- the loser's variables keep their values
  pub played_inputs : (inputs : Assignment) (x : ℕ) → quantifier_of scopes x ≡ Some pivot
      → played pivot scopes assumptions steps inputs x ≡ inputs x
  unfolding with_given
  played_inputs inputs x q =
      fixed_stays (all_variables scopes) (with_given pivot scopes assumptions inputs) x
      (or_left (is_of (quantifier_of scopes x) pivot) (is_some (assumed_value assumptions x))
      (same_from (quantifier_of scopes x) pivot q))
      ∙ cond-true (is_of (quantifier_of scopes x) pivot) (inputs x) (unwrap_or (assumed_value assumptions x) (inputs x))
      (same_from (quantifier_of scopes x) pivot q)
