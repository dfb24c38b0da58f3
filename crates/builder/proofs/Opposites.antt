-- Circuit literals and their opposites.
use Rattle.std.proofs.Common.{◌≡◌, ℕ, ◌+◌, ◌-◌, ◌*◌, ◌/◌, ◌%◌, ◌⊎◌, inl, inr, ⊎_elim, ap, ◌∙◌, arith, nat_eq}
use Rattle.std.proofs.lemmas.Bool.{cond-true, cond-false, eq-eqb, ne_eqb, cases_eq}
use Rattle.builder.specs.Rows.{flipped}

pub flip_even : (n m : ℕ) → n ≡ 2 * m → flipped n ≡ 2 * m + 1
flip_even n m e =
    let rest : n % 2 ≡ 0 = omega (arith, e) in
    cond-true (nat_eq (n % 2) 0) (n + 1) (n - 1) (eq-eqb (n % 2) 0 rest) ∙ ap (λ k. k + 1) e

pub flip_odd : (n m : ℕ) → n ≡ 2 * m + 1 → flipped n ≡ 2 * m
flip_odd n m e =
    let rest : n % 2 ≡ 0 → ⊥ = λ r. omega (arith, e, r) in
    let less : n - 1 ≡ 2 * m = omega (arith, e) in
    cond-false (nat_eq (n % 2) 0) (n + 1) (n - 1) (ne_eqb (n % 2) 0 rest) ∙ less

-- a literal is even or odd
pub parity : (n : ℕ) → (n ≡ 2 * (n / 2)) ⊎ (n ≡ 2 * (n / 2) + 1)
parity n = ⊎_elim (λ (e : n % 2 ≡ 0). inl (omega (arith, e))) (λ (o : n % 2 ≡ 0 → ⊥). inr (omega (arith, o)))
    (cases_eq (n % 2) 0)
