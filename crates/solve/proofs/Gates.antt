-- The weight bound grows with each of its numbers.
use Rattle.std.proofs.Common.{ℕ, ◌+◌, ◌*◌, ◌<◌, ◌≤◌, arith}
use Rattle.std.specs.Prelude.{min}
use Rattle.std.proofs.Math.Nat.{mul-le-mul, pow-le-pow_right}
use Rattle.steps.specs.Counter.{step_limit}
use Rattle.calculus.specs.Limits.{assignment_limit, removal_bound, weight_bound}

limit_grows : (r q m n : ℕ) → r ≤ q → m ≤ n → step_limit r m ≤ step_limit q n
limit_grows r q m n anew few =
    let two : 0 < 2 = omega arith in
    let weights : assignment_limit r m ≤ assignment_limit q n =
    mul-le-mul (let h : r + 1 ≤ q + 1 = omega arith in h)
    (pow-le-pow_right two (let h : m + 1 ≤ n + 1 = omega arith in h)) in
    mul-le-mul (let h : 8 * m + 8 ≤ 8 * n + 8 = omega arith in h) weights

removals_grow : (c d k l b e r q m n : ℕ) → c ≤ d → k ≤ l → b ≤ e → r ≤ q → m ≤ n
    → removal_bound c k b r m ≤ removal_bound d l e q n
removals_grow c d k l b e r q m n clauses solves terms restarts vars =
    by (step_limit r m) (step_limit q n) (limit_grows r q m n restarts vars)
  where
    by : (a z : ℕ) → a ≤ z → c + k * (min b a + 1) + 1 ≤ d + l * (min e z + 1) + 1
    by a z grows =
        let most : k * (min b a + 1) ≤ l * (min e z + 1) =
        mul-le-mul solves (let h : min b a + 1 ≤ min e z + 1 = omega arith in h) in
        omega (arith, most, clauses)

pub weight_grows : (c d k l b e r q m n : ℕ) → c ≤ d → k ≤ l → b ≤ e → r ≤ q → m ≤ n
    → weight_bound c k b r m ≤ weight_bound d l e q n
weight_grows c d k l b e r q m n clauses solves terms restarts vars =
    mul-le-mul (removals_grow c d k l b e r q m n clauses solves terms restarts vars)
    (mul-le-mul vars (let h : m + 1 ≤ n + 1 = omega arith in h))
