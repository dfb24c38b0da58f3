-- The steps of a search, and the step limit.
use Rattle.std.proofs.Common.{ℕ, ◌+◌, ◌*◌, ◌≤◌, arith, ◌<◌, le_refl, mul-le-mul}
use Rattle.steps.specs.Counter.{step_limit}
use Rattle.calculus.specs.Limits.{assignment_limit, steps_for, HasFewSteps}

-- assignments, resolutions of cleaning, resolutions of lessons and reductions, one of each under way
pub steps_below : (n assigned cleaning lessons resolved reduced : ℕ) → HasFewSteps n assigned cleaning lessons resolved
    reduced → assigned + cleaning + resolved + reduced < steps_for n assigned
steps_below n assigned cleaning lessons resolved reduced few =
    let l : lessons ≤ assigned + 1 = few.lessons_few in
    let m : lessons * (2 * n) ≤ (assigned + 1) * (2 * n) = mul-le-mul few.lessons_few (le_refl (2 * n)) in
    let c : cleaning ≤ (assigned + 1) * n = few.cleaning_few in
    let r : resolved ≤ lessons * (2 * n) = few.resolved_few in
    let d : reduced ≤ cleaning + resolved + lessons = few.reduced_few in
    omega arith

pub limit_above : (restarts n assigned : ℕ) → assigned + 1 < assignment_limit restarts n
    → steps_for n assigned ≤ step_limit restarts n
limit_above restarts n assigned fewer = mul-le-mul (le_refl (8 * n + 8)) (weaken fewer)
  where
    weaken : {a b : ℕ} → a < b → a ≤ b
    weaken {a} {b} p = omega (arith, p)
