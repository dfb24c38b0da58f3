-- States, draws and clauses further on.
use Rattle.std.proofs.Common.{◌≡◌, ℕ, zero, suc, ◌+◌, ◌-◌, ◌*◌, ◌/◌, ◌%◌, [], ◌∷◌, ap, ap₂, ◌∙◌, arith}
use Rattle.generate.specs.Draws.{drawn, following, state_at}
use Rattle.generate.specs.Made.{by_variable, clause_at, first_place, literal_at, second_from, second_place, third_from, third_place}

-- so many states on from one of the sequence
pub state_on : (start n k : ℕ) → state_at (state_at start n) k ≡ state_at start (n + k)
unfolding state_at
state_on start n zero = ap (state_at start) (let e : n ≡ n + 0 = omega arith in e)
state_on start n (suc k) =
    ap following (state_on start n k)
    ∙ ap (state_at start) (let e : suc (n + k) ≡ n + suc k = omega arith in e)

pub drawn_on : (start n k m : ℕ) → drawn (state_at start n) k m ≡ drawn start (n + k) m
drawn_on start n k m =
    ap (λ s. (s / 65536) % m) (state_on start n (k + 1)
    ∙ ap (state_at start) (let e : n + (k + 1) ≡ n + k + 1 = omega arith in e))

-- the first clause of the draws from clause i on is clause i
pub clause_on : (start v i : ℕ) → clause_at (state_at start (6 * i)) v 0 ≡ clause_at start v i
clause_on start v i =
    let here = state_at start (6 * i) in
    let first : first_place here v 0 ≡ first_place start v i =
    drawn_on start (6 * i) 0 v ∙ ap (λ n. drawn start n v) (let e : 6 * i + 0 ≡ 6 * i = omega arith in e) in
    let second : second_place here v 0 ≡ second_place start v i =
    ap₂ (second_from v) first (drawn_on start (6 * i) 1 (v - 1)) in
    let third : third_place here v 0 ≡ third_place start v i =
    ap₂ (λ x y. third_from x y (drawn here 2 (v - 2))) first second
    ∙ ap (third_from (first_place start v i) (second_place start v i)) (drawn_on start (6 * i) 2 (v - 2)) in
    ap₂ (λ l ls. by_variable (l ∷ ls)) (ap₂ literal_at first (drawn_on start (6 * i) 3 2))
    (ap₂ (λ l ls. l ∷ ls) (ap₂ literal_at second (drawn_on start (6 * i) 4 2))
    (ap (λ l. l ∷ []) (ap₂ literal_at third (drawn_on start (6 * i) 5 2))))
