-- The places of a clause differ, and are below the number of variables.
use Rattle.std.proofs.Common.{◌≡◌, ℕ, ◌+◌, ◌-◌, ◌*◌, ◌/◌, ◌%◌, ◌<◌, ◌≤◌, ◌≢◌, ◌⊎◌, ⊎_elim, inl, inr, sym, ap, ◌∙◌, arith}
use Rattle.std.proofs.Math.Nat.{add-mod_right, mod-eq_of_lt, mod-lt}
use Rattle.std.proofs.lemmas.Bool.{cases_lt}
use Rattle.std.proofs.lemmas.Bool.Decides.{nat_tests}
use Rattle.generate.specs.Draws.{drawn, state_at}
use Rattle.generate.specs.Made.{first_place, second_from, second_place, third_from, third_place}

-- a number below twice another, modulo that
once_round : (n v : ℕ) → n < v + v → 0 < v → (n % v ≡ n) ⊎ (n % v + v ≡ n)
once_round n v h k = ⊎_elim
    (λ (low : n < v). inl (mod-eq_of_lt low))
    (λ (high : v ≤ n).
    let rest : n - v < v = omega arith in
    let is : n - v + v ≡ n = omega arith in
    let same : n % v ≡ n - v = ap (λ m. m % v) (sym is) ∙ add-mod_right (n - v) v ∙ mod-eq_of_lt rest in
    inr (omega (arith, same)))
    (cases_lt n v)

pub drawn_below : (start n m : ℕ) → 0 < m → drawn start n m < m
drawn_below start n m h = mod-lt (state_at start (n + 1) / 65536) h

second_apart : (v x step : ℕ) → x < v → step < v - 1 → x ≢ second_from v x step
second_apart v x step h k e = ⊎_elim
    (λ (f : (x + 1 + step) % v ≡ x + 1 + step). omega (arith, f, e))
    (λ (f : (x + 1 + step) % v + v ≡ x + 1 + step). omega (arith, f, e))
    (once_round (x + 1 + step) v (omega arith) (omega arith))

third_within : (v x y t : ℕ) → x < v → y < v → x ≢ y → t < v - 2 → third_from x y t < v
third_within v x y t h k n l = grind (arith, nat_tests, n)

third_apart : (x y t : ℕ) → x ≢ y → (x ≢ third_from x y t) × (y ≢ third_from x y t)
third_apart x y t n = (grind (arith, nat_tests, n), grind (arith, nat_tests, n))

-- the places of a clause

pub first_below : (start v i : ℕ) → 3 ≤ v → first_place start v i < v
first_below start v i h = drawn_below start (6 * i) v (omega arith)

pub second_below : (start v i : ℕ) → 3 ≤ v → second_place start v i < v
second_below start v i h = mod-lt (first_place start v i + 1 + drawn start (6 * i + 1) (v - 1)) (omega arith)

pub second_differs : (start v i : ℕ) → 3 ≤ v → first_place start v i ≢ second_place start v i
second_differs start v i h = second_apart v (first_place start v i) (drawn start (6 * i + 1) (v - 1))
    (first_below start v i h)
    (drawn_below start (6 * i + 1) (v - 1) (omega arith))

pub third_below : (start v i : ℕ) → 3 ≤ v → third_place start v i < v
third_below start v i h = third_within v (first_place start v i) (second_place start v i)
    (drawn start (6 * i + 2) (v - 2))
    (first_below start v i h) (second_below start v i h) (second_differs start v i h)
    (drawn_below start (6 * i + 2) (v - 2) (omega arith))

pub third_differs : (start v i : ℕ) → 3 ≤ v → (first_place start v i ≢ third_place start v i)
    × (second_place start v i ≢ third_place start v i)
third_differs start v i h = third_apart (first_place start v i) (second_place start v i)
    (drawn start (6 * i + 2) (v - 2))
    (second_differs start v i h)
