-- The truth of circuit literals and of clauses of them.
use Rattle.std.proofs.Common.{◌≡◌, ℕ, zero, suc, ◌+◌, ◌*◌, ◌/◌, ◌%◌, ◌<◌, ⊎_elim, Bool, true, false, not, ◌&&◌, cond, List, [], ◌∷◌, refl, sym, ap, ap₂, ◌∙◌, arith, nat_eq}
use Rattle.std.specs.List.{list_any, list_all}
use Rattle.std.proofs.lemmas.Bool.{cond-true, cond-false, eq-eqb, ne_eqb}
use Rattle.truth.specs.Matrix.{same}
use Rattle.calculus.specs.Rows.{Assignment}
use Rattle.builder.specs.Rows.{flipped}
use Rattle.builder.proofs.Lists.{or_off}
use Rattle.builder.proofs.Opposites.{flip_even, flip_odd, parity}
use Rattle.certcheck.specs.Check.{number_when, units}

-- Number 0 is no variable, and false.
pub value_at : Assignment → ℕ → Bool
value_at σ zero = false
value_at σ (suc v) = σ (suc v)

pub value_zero : (σ : Assignment) → value_at σ zero ≡ false
unfolding value_at
value_zero σ = refl

pub value_suc : (σ : Assignment) (v : ℕ) → value_at σ (suc v) ≡ σ (suc v)
unfolding value_at
value_suc σ v = refl

-- whether a literal is true
pub number_true : Assignment → ℕ → Bool
number_true σ n = cond (nat_eq (n % 2) 0) (value_at σ (n / 2)) (not (value_at σ (n / 2)))

-- whether a clause is
abbrev pub holds : Assignment → List ℕ → Bool
holds σ ns = list_any (number_true σ) ns

-- whether all clauses are
abbrev pub all_hold : Assignment → List (List ℕ) → Bool
all_hold σ cs = list_all (holds σ) cs

pub even_true : (σ : Assignment) (n m : ℕ) → n ≡ 2 * m → number_true σ n ≡ value_at σ m
unfolding number_true
even_true σ n m e =
    let rest : n % 2 ≡ 0 = omega (arith, e) in
    let half : n / 2 ≡ m = omega (arith, e) in
    cond-true (nat_eq (n % 2) 0) (value_at σ (n / 2)) (not (value_at σ (n / 2))) (eq-eqb (n % 2) 0 rest)
    ∙ ap (value_at σ) half

pub odd_true : (σ : Assignment) (n m : ℕ) → n ≡ 2 * m + 1 → number_true σ n ≡ not (value_at σ m)
unfolding number_true
odd_true σ n m e =
    let rest : n % 2 ≡ 0 → ⊥ = λ r. omega (arith, e, r) in
    let half : n / 2 ≡ m = omega (arith, e) in
    cond-false (nat_eq (n % 2) 0) (value_at σ (n / 2)) (not (value_at σ (n / 2))) (ne_eqb (n % 2) 0 rest)
    ∙ ap (λ v. not (value_at σ v)) half

not_not : (b : Bool) → b ≡ not (not b)
not_not true = refl
not_not false = refl

pub flipped_true : (σ : Assignment) (n : ℕ) → number_true σ (flipped n) ≡ not (number_true σ n)
flipped_true σ n =
    ⊎_elim
    (λ e. odd_true σ (flipped n) (n / 2) (flip_even n (n / 2) e) ∙ sym (ap not (even_true σ n (n / 2) e)))
    (λ o. even_true σ (flipped n) (n / 2) (flip_odd n (n / 2) o) ∙ not_not (value_at σ (n / 2))
    ∙ sym (ap not (odd_true σ n (n / 2) o)))
    (parity n)

pub flipped_below : (n m : ℕ) → n < 2 * m → flipped n < 2 * m
flipped_below n m below =
    ⊎_elim
    (λ (e : n ≡ 2 * (n / 2)). let f : flipped n ≡ 2 * (n / 2) + 1 = flip_even n (n / 2) e in
    omega (arith, below, e, f))
    (λ (o : n ≡ 2 * (n / 2) + 1). let f : flipped n ≡ 2 * (n / 2) = flip_odd n (n / 2) o in omega (arith, below, o, f))
    (parity n)

pub when_true : (σ : Assignment) (b : Bool) (n : ℕ) → number_true σ (number_when b n) ≡ same (number_true σ n) b
when_true σ true n = same_yes (number_true σ n)
  where
    same_yes : (b : Bool) → b ≡ same b true
    same_yes true = refl
    same_yes false = refl
when_true σ false n = flipped_true σ n ∙ same_no (number_true σ n)
  where
    same_no : (b : Bool) → not b ≡ same b false
    same_no true = refl
    same_no false = refl

pub when_below : (b : Bool) (n m : ℕ) → n < 2 * m → number_when b n < 2 * m
when_below true n m below = below
when_below false n m below = flipped_below n m below

pub unit_holds : (σ : Assignment) (n : ℕ) → holds σ (n ∷ []) ≡ number_true σ n
unit_holds σ n = or_off (number_true σ n)

pub units_hold : (σ : Assignment) (ns : List ℕ) → all_hold σ (units ns) ≡ list_all (number_true σ) ns
units_hold σ [] = refl
units_hold σ (n ∷ ns) = ap₂ (λ a b. a && b) (unit_holds σ n) (units_hold σ ns)
