-- Numbers one after another.
use Rattle.std.proofs.Common.{◌≡◌, ℕ, zero, suc, ◌+◌, ◌<◌, ◌≤◌, true, false, ◌||◌, [], ◌∷◌, ◌++◌, refl, ap, ◌∙◌, arith, ⊎_elim}
use Rattle.std.specs.Prelude.{nat_lt}
use Rattle.std.specs.List.{AllByRecursion, range_with_len}
use Rattle.std.proofs.lemmas.Bool.{cases_eq, cond-false, eq-eqb, le-ltb, ne_eqb}
use Rattle.prefix.specs.Scopes.{IsAscending, insert_ascending, is_among}

-- all of them are from the first on, and below what follows them
pub range_above : (w a n : ℕ) → w < a → AllByRecursion (λ u. w < u) (range_with_len a n)
range_above w a zero h = tt
range_above w a (suc n) h = (h, range_above w (a + 1) n (omega arith))

pub range_within : (w b a n : ℕ) → w ≤ a → a + n ≤ b → AllByRecursion (λ u. (w ≤ u) × (u < b)) (range_with_len a n)
range_within w b a zero h k = tt
range_within w b a (suc n) h k = ((h, omega arith), range_within w b (a + 1) n (omega arith) (omega arith))

pub range_ascends : (a n : ℕ) → IsAscending (range_with_len a n)
range_ascends a zero = tt
range_ascends a (suc n) = (range_above a (a + 1) n (omega arith), range_ascends (a + 1) n)

pub range_among : (u a n : ℕ) → a ≤ u → u < a + n → is_among u (range_with_len a n) ≡ true
range_among u a zero low high = absurd (omega arith)
range_among u a (suc n) low high = ⊎_elim
    (λ (e : a ≡ u). ap (λ b. b || is_among u (range_with_len (a + 1) n)) (eq-eqb a u e))
    (λ (e : a ≡ u → ⊥). ap (λ b. b || is_among u (range_with_len (a + 1) n)) (ne_eqb a u e)
    ∙ range_among u (a + 1) n (omega arith) (omega arith)) (cases_eq a u)

pub range_apart : (u a n : ℕ) → a + n ≤ u → is_among u (range_with_len a n) ≡ false
range_apart u a zero h = refl
range_apart u a (suc n) h =
    ap (λ b. b || is_among u (range_with_len (a + 1) n)) (ne_eqb a u (λ e. omega arith))
    ∙ range_apart u (a + 1) n (omega arith)

-- the next one goes behind them
pub range_put : (a n : ℕ) → insert_ascending (a + n) (range_with_len a n) ≡ range_with_len a (suc n)
range_put a zero = ap (λ u. u ∷ []) (let e : a + 0 ≡ a = omega arith in e)
range_put a (suc n) =
    cond-false (nat_lt (a + suc n) a) ((a + suc n) ∷ range_with_len a (suc n))
    (a ∷ insert_ascending (a + suc n) (range_with_len (a + 1) n)) (le-ltb (a + suc n) a (omega arith))
    ∙ ap (λ u. a ∷ insert_ascending u (range_with_len (a + 1) n)) (let e : a + suc n ≡ a + 1 + n = omega arith in e)
    ∙ ap (λ us. a ∷ us) (range_put (a + 1) n)

pub range_joined : (a m b n : ℕ) → b ≡ a + m → range_with_len a m ++ range_with_len b n ≡ range_with_len a (m + n)
range_joined a zero b n e =
    ap (λ c. range_with_len c n) e ∙ ap (λ c. range_with_len c n) (let f : a + 0 ≡ a = omega arith in f)
    ∙ ap (range_with_len a) (let f : n ≡ 0 + n = omega arith in f)
range_joined a (suc m) b n e =
    ap (λ us. a ∷ us) (range_joined (a + 1) m b n (omega arith))
    ∙ ap (range_with_len a) (let f : suc (m + n) ≡ suc m + n = omega arith in f)

pub range_below : (b a n : ℕ) → a + n ≤ b → AllByRecursion (λ u. u < b) (range_with_len a n)
range_below b a zero h = tt
range_below b a (suc n) h = (omega arith, range_below b (a + 1) n (omega arith))
