-- The gates of a proof's circuit are within its gate weight.
use Rattle.std.proofs.Common.{◌≡◌, ℕ, suc, ◌+◌, ◌-◌, ◌*◌, ◌≤◌, ◌==◌, Bool, true, false, not, ◌&&◌, cond, List, [], ◌∷◌, ◌++◌, length, map, Contains, refl, sym, ap, ap₂, ◌∙◌, ⊎_elim, arith, subst, filter}
use Rattle.std.specs.List.{list_any}
use Rattle.std.proofs.lemmas.Bool.{cases_Bool, cond-true, cond-false, true≢false, eqb-true, eq-eqb, not-true, false_from_ne_true}
use Rattle.prefix.specs.declared.quant.Quant.{Quant}
use Rattle.prefix.specs.Literal.{Literal}
use Rattle.prefix.specs.Scopes.{Scope, AreDistinct, all_variables}
use Rattle.calculus.specs.Rows.{Row, bad_choice, stays, is_pivot}
use Rattle.calculus.specs.Derivations.{Inference, Reason}
use Rattle.calculus.specs.Derivations.Reason.{Input, One, Two}
use Rattle.calculus.specs.Verdicts.{IsProof, is_assumed}
use Rattle.calculus.specs.Limits.{gates_of, gate_weight}
use Rattle.calculus.proofs.Sound.{AreSoundSteps, IsSoundStep, sound}
use Rattle.calculus.proofs.Lists.{contains_head, contains_tail, filter_from, filter_all, any_from}
use Rattle.calculus.proofs.Levels.{IsDistinct, distinct_from}
use Rattle.extract.specs.Removals.{Removed, removals, removed_by, removed_from, goes, stands_over, weight_of, weights_of}

pub bounded_by : (a b c d : ℕ) → a ≤ b + c → c ≤ d → a ≤ b + d
bounded_by a b c d f g = omega arith

pub weights_same : (f g : ℕ → List Removed) (xs : List ℕ) → ((x : ℕ) → f x ≡ g x) → weights_of f xs ≡ weights_of g xs
weights_same f g [] same = refl
weights_same f g (x ∷ xs) same = ap₂ (λ (a b : ℕ). a + b) (ap weight_of (same x)) (weights_same f g xs same)

weight_append : (a b : List Removed) → weight_of (a ++ b) ≡ weight_of a + weight_of b
weight_append [] b = omega arith
weight_append (r ∷ a) b = let e = weight_append a b in omega arith

weights_split : (f g : ℕ → List Removed) (xs : List ℕ)
    → weights_of (λ x. f x ++ g x) xs ≡ weights_of f xs + weights_of g xs
weights_split f g [] = refl
weights_split f g (x ∷ xs) = let e = weights_split f g xs in let a = weight_append (f x) (g x) in omega arith

weights_none : (xs : List ℕ) → weights_of (λ x. []) xs ≡ 0
weights_none [] = refl
weights_none (x ∷ xs) = let e = weights_none xs in omega arith

-- sums over variables
abbrev sum_over : (ℕ → ℕ) → List ℕ → ℕ
sum_over f [] = 0
sum_over f (x ∷ xs) = f x + sum_over f xs

sum_split : (f g h : ℕ → ℕ) (xs : List ℕ) → ((x : ℕ) → f x ≡ g x + h x) → sum_over f xs ≡ sum_over g xs + sum_over h xs
sum_split f g h [] same = refl
sum_split f g h (x ∷ xs) same = let e = sum_split f g h xs same in let a = same x in omega arith

sum_none : (f : ℕ → ℕ) (xs : List ℕ) → ((x : ℕ) → f x ≡ 0) → sum_over f xs ≡ 0
sum_none f [] none = refl
sum_none f (x ∷ xs) none = let e = sum_none f xs none in let a = none x in omega arith

abbrev bit : Bool → ℕ
bit b = cond b 1 0

filter_count : {X : Type 0} (p : X → Bool) (x : X) (xs : List X)
    → length (filter p (x ∷ xs)) ≡ bit (p x) + length (filter p xs)
filter_count p x xs =
    ⊎_elim (λ t. rw (cond-true (p x) (x ∷ filter p xs) (filter p xs) t)
    (rw t (let e : suc (length (filter p xs)) ≡ 1 + length (filter p xs) = omega arith in e)))
    (λ f. rw (cond-false (p x) (x ∷ filter p xs) (filter p xs) f)
    (rw f (let e : length (filter p xs) ≡ 0 + length (filter p xs) = omega arith in e)))
    (cases_Bool (p x))

-- a variable stands once in a list without repetition
none_is : (v : ℕ) (xs : List ℕ) → (Contains xs v → ⊥) → sum_over (λ x. bit (v == x)) xs ≡ 0
none_is v [] out = refl
none_is v (x ∷ xs) out =
    let e = none_is v xs (λ i. out (contains_tail x xs v i)) in
    let differ : (v == x) ≡ false =
    false_from_ne_true (v == x) (λ t. out (subst (λ y. Contains (y ∷ xs) v) (eqb-true v x t) (contains_head v xs))) in
    let z : bit (v == x) ≡ 0 = ap bit differ in
    omega arith

once_is : (v : ℕ) (xs : List ℕ) → IsDistinct xs → sum_over (λ x. bit (v == x)) xs ≤ 1
once_is v [] distinct = omega arith
once_is v (x ∷ xs) distinct =
    ⊎_elim
    (λ t. let e = none_is v xs (λ i. distinct.0 (subst (Contains xs) (eqb-true v x t) i)) in
    let z : bit (v == x) ≡ 1 = ap bit t in omega arith)
    (λ f. let e = once_is v xs distinct.1 in let z : bit (v == x) ≡ 0 = ap bit f in omega arith)
    (cases_Bool (v == x))

module _ (pivot : Quant) (row : Row) where
  abbrev gone : Literal → Bool
  gone l = not (stands_over row l.variable)

  abbrev count_of : List Literal → ℕ → ℕ
  count_of ls x = length (filter (goes x row) ls)

  weight_is : (ls : List Literal)
      → weight_of (map (λ (l : Literal). record { row = row; value = bad_choice pivot l }) ls) ≡ length ls *
      (length row + 1)
  weight_is [] = omega arith
  weight_is (l ∷ ls) = let e = weight_is ls in grind (arith)

  weights_are : (before : List Literal) (xs : List ℕ)
      → weights_of (λ x. removed_from pivot x row before) xs ≡ sum_over (count_of before) xs * (length row + 1)
  weights_are before [] = omega arith
  weights_are before (x ∷ xs) = let e = weights_are before xs in let a = weight_is (filter (goes x row) before) in
      grind (arith)

  one_literal : (l : Literal) (xs : List ℕ) → IsDistinct xs → (b : Bool) → gone l ≡ b
      → sum_over (λ x. bit (goes x row l)) xs ≤ bit b
  one_literal l xs distinct true is = let once = once_is l.variable xs distinct in
      let same : sum_over (λ x. bit (goes x row l)) xs ≡ sum_over (λ x. bit (l.variable == x)) xs =
      ap (λ (f : ℕ → ℕ). sum_over f xs) (λ i x. bit (and_gone (l.variable == x) is i)) in rw same once
    where
      and_true : (b : Bool) → (b && true) ≡ b
      and_true true = refl
      and_true false = refl

      and_gone : (b : Bool) → gone l ≡ true → (b && gone l) ≡ b
      and_gone b t = ap (λ g. b && g) t ∙ and_true b
  one_literal l xs distinct false is = let none =
      sum_none (λ x. bit (goes x row l)) xs (λ x. ap bit (and_gone (l.variable == x))) in omega arith
    where
      and_false : (b : Bool) → (b && false) ≡ false
      and_false true = refl
      and_false false = refl

      and_gone : (b : Bool) → (b && gone l) ≡ false
      and_gone b = ap (λ g. b && g) is ∙ and_false b

  counts_few : (ls : List Literal) (xs : List ℕ) → IsDistinct xs → sum_over (count_of ls) xs ≤ length (filter gone ls)
  counts_few [] xs distinct = let e = sum_none (count_of []) xs (λ x. refl) in omega arith
  counts_few (l ∷ ls) xs distinct =
      let further = counts_few ls xs distinct in
      let split = sum_split (count_of (l ∷ ls)) (λ x. bit (goes x row l)) (count_of ls) xs
      (λ x. filter_count (goes x row) l ls) in
      let here = one_literal l xs distinct (gone l) refl in
      let all = filter_count gone l ls in
      omega arith

-- what goes and what stays
apart_few : {X : Type 0} (p q : X → Bool) (xs : List X) → ((x : X) → Contains xs x → q x ≡ true → p x ≡ false)
    → length (filter q xs) + length (filter p xs) ≤ length xs
apart_few p q [] apart = omega arith
apart_few p q (x ∷ xs) apart =
    let further = apart_few p q xs (λ y i. apart y (contains_tail x xs y i)) in
    let a = filter_count p x xs in
    let b = filter_count q x xs in
    let both : bit (q x) + bit (p x) ≤ 1 = pair_few (p x) (q x) (apart x (contains_head x xs)) in
    omega arith
  where
    pair_few : (a b : Bool) → (b ≡ true → a ≡ false) → bit b + bit a ≤ 1
    pair_few true true h = absurd (true≢false (h refl))
    pair_few true false h = omega arith
    pair_few false true h = omega arith
    pair_few false false h = omega arith

gone_few : (p : Literal → Bool) (before row : Row) → row ≡ filter p before
    → length (filter (λ (l : Literal). not (stands_over row l.variable)) before) + length row ≤ length before
gone_few p before row is =
    let few = apart_few p (λ (l : Literal). not (stands_over row l.variable)) before
    (λ l i t. false_from_ne_true (p l) (λ s.
    let j : Contains row l = subst (λ (w : Row). Contains w l) (sym is) (filter_from p before l i s) in
    true≢false (sym (any_from (λ (m : Literal). m.variable == l.variable) row l j (eq-eqb l.variable l.variable refl))
    ∙ not-true (stands_over row l.variable) t))) in
    let e : length row ≡ length (filter p before) = ap (λ (w : Row). length w) is in
    omega arith

mul_few : (a b c n : ℕ) → a ≤ b → b + c ≤ n → a * (c + 1) ≤ (n - c) * (c + 1)
mul_few a b c n f g = let h : a ≤ n - c = omega arith in search (arith)

module _ (pivot : Quant) (scopes : List Scope) (clauses : List Row) (assumptions : List Literal) (xs : List ℕ)
    (distinct : IsDistinct xs) where
  removal_fits : (before row : Row)
      → length (filter (λ (l : Literal). not (stands_over row l.variable)) before) + length row ≤ length before
      → weights_of (λ x. removed_from pivot x row before) xs ≤ gates_of row (One before)
  removal_fits before row few =
      rw (weights_are pivot row before xs) (mul_few _ _ (length row) (length before)
      (counts_few pivot row before xs distinct) few)

  step_fits : (earlier : List Row) (row : Row) (reason : Reason)
      → IsSoundStep pivot scopes clauses assumptions earlier row reason
      → weights_of (λ x. removed_by pivot x row reason) xs ≤ gates_of row reason
  step_fits earlier row Input step = let e = weights_none xs in omega arith
  step_fits earlier row (Two a b y) step = let e = weights_none xs in omega arith
  step_fits earlier row (One before) step =
      removal_fits before row (⊎_elim
      (λ is. ⊎_elim
      (λ t. gone_few (stays pivot scopes before) before row
      (is ∙ cond-true (list_any (is_pivot pivot scopes) before) (filter (stays pivot scopes before) before) before t))
      (λ f. gone_few (λ l. true) before row (is
      ∙ cond-false (list_any (is_pivot pivot scopes) before) (filter (stays pivot scopes before) before) before f
      ∙ sym (filter_all (λ l. true) before (λ l i. refl))))
      (cases_Bool (list_any (is_pivot pivot scopes) before)))
      (λ finish. gone_few (is_assumed assumptions) before row finish.1)
      step.1)

  steps_fit : (earlier : List Row) (steps : List Inference)
      → AreSoundSteps pivot scopes clauses assumptions earlier steps
      → weights_of (λ x. removals pivot x steps) xs ≤ gate_weight steps
  steps_fit earlier [] are = let e = weights_none xs in omega arith
  steps_fit earlier (s ∷ steps) are =
      let here = step_fits earlier s.row s.reason are.1 in
      let further = steps_fit (s.row ∷ earlier) steps are.2 in
      let split = weights_split (λ x. removed_by pivot x s.row s.reason) (λ x. removals pivot x steps) xs in
      omega arith

pub weights_fit : (pivot : Quant) (scopes : List Scope) (clauses : List Row) (assumptions : List Literal)
    (steps : List Inference) → AreDistinct (all_variables scopes) → IsProof pivot scopes clauses assumptions steps
    → weights_of (λ x. removals pivot x steps) (all_variables scopes) ≤ gate_weight steps
weights_fit pivot scopes clauses assumptions steps distinct proof =
    steps_fit pivot scopes clauses assumptions (all_variables scopes)
    (distinct_from (all_variables scopes) distinct) [] steps
    (sound pivot scopes clauses assumptions steps proof).last_step
