-- Formulas counted one after another, and budgets that suffice.
use Rattle.std.proofs.Common.{◌≡◌, ◌≢◌, ℕ, zero, suc, ◌+◌, ◌*◌, ◌^◌, ◌%◌, ◌-◌, ◌<◌, ◌≤◌, Bool, true, false, [], ap, refl, subst, ◌∙◌, arith, lit<}
use Rattle.std.specs.Prelude.{cond, count_by, not}
use Rattle.std.specs.List.{range_with_len}
use Rattle.std.proofs.Math.Nat.{mul-le-mul, pow-le-pow_right}
use Rattle.std.proofs.lemmas.List.Sums.{sum_by-cons}
use Rattle.truth.specs.declared.formula.Formula.{Formula}
use Rattle.truth.specs.Truth.{truth}
use Rattle.generate.specs.Draws.{start_of}
use Rattle.generate.specs.Made.{clauses_from, made, scopes_over}
use Rattle.steps.specs.Counter.{step_limit}
use Rattle.solve.specs.Answers.{IsAnswerTo, IsShort}
use Rattle.solve.specs.Terms.{Terms}
use Rattle.solve.specs.declared.answer.Answer.{Answer}
use Rattle.solve.specs.declared.answer.Answer.TheVariants.{Sat, Unsat, Unknown}
use Rattle.samples.specs.Samples.{false_ones, is_true, true_ones}

module _ (p : ℕ → Bool) where
  one : ℕ → ℕ
  one x = cond (p x) 1 0

  -- one number more at the end
  counted : (a n : ℕ) → count_by p (range_with_len a (suc n)) ≡ count_by p (range_with_len a n) + cond (p (a + n)) 1 0
  counted a zero =
      let same : a ≡ a + 0 = omega arith in
      subst (λ k. count_by p (range_with_len a (suc zero)) ≡ count_by p (range_with_len a zero) + cond (p k) 1 0) same
      (let first = sum_by-cons (λ x. cond (p x) 1 0) a [] in omega (arith, first))
  counted a (suc n) =
      let same : a + 1 + n ≡ a + suc n = omega arith in
      let rest = subst (λ k. count_by p (range_with_len (a + 1) (suc n))
      ≡ count_by p (range_with_len (a + 1) n) + cond (p k) 1 0) same (counted (a + 1) n) in
      let longer = sum_by-cons (λ x. cond (p x) 1 0) a (range_with_len (a + 1) (suc n)) in
      let shorter = sum_by-cons (λ x. cond (p x) 1 0) a (range_with_len (a + 1) n) in
      omega (arith, rest, longer, shorter)

  counted_next : (n : ℕ) → count_by p (range_with_len 0 (n + 1)) ≡ count_by p (range_with_len 0 n) + cond (p n) 1 0
  counted_next n =
      let on : suc n ≡ n + 1 = omega arith in
      let same : 0 + n ≡ n = omega arith in
      subst (λ m. count_by p (range_with_len 0 m) ≡ count_by p (range_with_len 0 n) + cond (p n) 1 0) on
      (subst (λ k. count_by p (range_with_len 0 (suc n)) ≡ count_by p (range_with_len 0 n) + cond (p k) 1 0) same
      (counted 0 n))

  counted_yes : (n : ℕ) → p n ≡ true → count_by p (range_with_len 0 (n + 1)) ≡ count_by p (range_with_len 0 n) + 1
  counted_yes n is = counted_next n ∙ ap (λ b. count_by p (range_with_len 0 n) + cond b 1 0) is

  counted_no : (n : ℕ) → p n ≡ false → count_by p (range_with_len 0 (n + 1)) ≡ count_by p (range_with_len 0 n)
  counted_no n is = counted_next n ∙ ap (λ b. count_by p (range_with_len 0 n) + cond b 1 0) is
      ∙ (let e : count_by p (range_with_len 0 n) + 0 ≡ count_by p (range_with_len 0 n) = omega arith in e)

module _ (seed i : ℕ) where
  -- a true formula more
  pub true_more : is_true seed i ≡ true → true_ones seed (i + 1) ≡ true_ones seed i + 1
  true_more is = counted_yes (is_true seed) i is

  pub false_same : is_true seed i ≡ true → false_ones seed (i + 1) ≡ false_ones seed i
  false_same is = counted_no (λ k. not (is_true seed k)) i (ap not is)

  -- a false one more
  pub false_more : is_true seed i ≡ false → false_ones seed (i + 1) ≡ false_ones seed i + 1
  false_more is = counted_yes (λ k. not (is_true seed k)) i (ap not is)

  pub true_same : is_true seed i ≡ false → true_ones seed (i + 1) ≡ true_ones seed i
  true_same is = counted_no (is_true seed) i is

-- the greatest budget suffices for twelve variables
pub enough : (v : ℕ) → v ≤ 12 → step_limit 0 v < 2 ^ 64 - 1
enough v few =
    let two : 0 < 2 = omega arith in
    let weights : 1 * 2 ^ (v + 1) ≤ 1 * 2 ^ 13 =
    mul-le-mul (let h : 1 ≤ 1 = omega arith in h)
    (pow-le-pow_right two (let h : v + 1 ≤ 13 = omega arith in h)) in
    let most : (8 * v + 8) * (1 * 2 ^ (v + 1)) ≤ 104 * (1 * 2 ^ 13) =
    mul-le-mul (let h : 8 * v + 8 ≤ 104 = omega arith in h) weights in
    let small : 104 * (1 * 2 ^ 13) < 2 ^ 64 - 1 = lit< tt in
    omega (arith, most, small)

pub three_more : (i : ℕ) → 3 + i % 10 ≤ 12
three_more i = omega arith

-- an answer that isn't that a formula is true says that it is false, where the budget isn't short
pub decided_false : (terms : Terms) (f : Formula) (a : Answer) → IsAnswerTo terms f a → a ≢ Sat → (IsShort terms f → ⊥)
    → truth f.prefix f.clauses ≡ false
decided_false terms f Sat right apart long = absurd (apart refl)
decided_false terms f Unsat right apart long = right
decided_false terms f Unknown right apart long = absurd (long right)

-- seeds that begin with one state make one formula
pub made_alike : (a b v m : ℕ) → start_of a ≡ start_of b → made a v m ≡ made b v m
made_alike a b v m same = ap (λ start. record {
  prefix = scopes_over v;
  clauses = clauses_from start v m;
  declared_vars = v;
  declared_clauses = m;
}) same
