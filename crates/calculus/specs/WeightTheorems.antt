-- Theorems on weights, limits and numbers of steps, as statements for contracts.
use Rattle.std.specs.Prelude.{ℕ, ◌+◌, ◌^◌, ◌<◌, ◌≤◌, suc, Bool, true, false, List, [], ◌∷◌, ◌++◌, length}
use Rattle.steps.specs.Counter.{step_limit}
use Rattle.calculus.specs.Limits.{assignment_limit, steps_for, HasFewSteps}
use Rattle.calculus.specs.Weights.{Search, trail_weight}

-- An assignment raises the weight, and so does a cut at a decision with an assignment that is none in its place.
pub record WeightLaws : Type 0 where
  pub rises : (n : ℕ) (trail : List Bool) (is_decision : Bool)
      → trail_weight n trail < trail_weight n (trail ++ is_decision ∷ [])
  pub turns : (n : ℕ) (front back : List Bool) → length (front ++ true ∷ back) ≤ n
      → trail_weight n (front ++ true ∷ back) < trail_weight n (front ++ false ∷ [])
  pub bounded : (n : ℕ) (trail : List Bool) → length trail ≤ n → trail_weight n trail + 2 ≤ 2 ^ suc n

-- A search over n variables makes fewer assignments than the assignment limit for the times that it began anew.
abbrev pub SearchesEnd : Type 0
SearchesEnd = (n restarts : ℕ) (trail : List Bool) (assigned : ℕ) → Search n restarts trail assigned
    → assigned + 1 < assignment_limit restarts n

-- With at most n resolutions to clean each reason, and 2 n for each lesson, and a reduction for each of these and for
-- an initial cube, the steps are few.
abbrev pub StepsAreFew : Type 0
StepsAreFew = (n assigned cleaning lessons resolved reduced : ℕ)
    → HasFewSteps n assigned cleaning lessons resolved reduced
    → assigned + cleaning + resolved + reduced < steps_for n assigned

-- So with few assignments the steps stay below the step limit.
abbrev pub LimitsSuffice : Type 0
LimitsSuffice = (restarts n assigned : ℕ) → assigned + 1 < assignment_limit restarts n
    → steps_for n assigned ≤ step_limit restarts n
