-- How many values are tried at most.
use Rattle.std.proofs.Common.{◌≡◌, ℕ, suc, ◌+◌, ◌*◌, ◌^◌, ◌≤◌, Bool, true, false, cond, List, [], ◌∷◌, length, sym, ap, ◌∙◌, arith, add-one}
use Rattle.std.proofs.lemmas.List.{length-map}
use Rattle.std.proofs.Math.Nat.{mul-le-mul_right}
use Rattle.std.proofs.lemmas.Grind.{pow_more}
use Rattle.prefix.specs.Literal.{Literal}
use Rattle.prefix.specs.Scopes.{Scope, all_variables, BoundVariable, prefix_order}
use Rattle.steps.specs.Counter.{step_limit}
use Rattle.truth.specs.Matrix.{Values, no_values, with_value}
use Rattle.truth.specs.Truth.{truth_from, plain_steps_from, settles, plain_steps}
use Rattle.truth.proofs.OrderLemmas.{variables_of-prefix_order}

-- the values tried for what is left
pub from_bound : (xs : List BoundVariable) (cs : List (List Literal)) (σ : Values) → plain_steps_from xs cs σ + 2 ≤ 2 ^
    (length xs + 1)
from_bound [] cs σ = omega arith
from_bound (x ∷ xs) cs σ =
    by_test (settles x.quantifier (truth_from xs cs (with_value x.variable false σ))) _ _
    (from_bound xs cs (with_value x.variable false σ)) (from_bound xs cs (with_value x.variable true σ))
  where
    by_test : (s : Bool) (m n : ℕ) → m + 2 ≤ 2 ^ (length xs + 1) → n + 2 ≤ 2 ^ (length xs + 1)
        → cond s (1 + m) (1 + m + (1 + n)) + 2 ≤ 2 ^ (suc (length xs) + 1)
    by_test true m n h k = rw (pow_more 2 (suc (length xs)), ← add-one (length xs)) (omega (arith, h, k))
    by_test false m n h k = rw (pow_more 2 (suc (length xs)), ← add-one (length xs)) (omega (arith, h, k))

-- over n variables at most 2 ^ (n + 1) - 2 values are tried
pub plain_steps_bound : (ss : List Scope) (cs : List (List Literal)) → plain_steps ss cs + 2 ≤ 2 ^
    (length (all_variables ss) + 1)
plain_steps_bound ss cs =
    let same : length (prefix_order ss) ≡ length (all_variables ss) =
    sym (length-map (prefix_order ss) (λ (x : BoundVariable). x.variable))
    ∙ ap length (variables_of-prefix_order ss) in
    rw (← same) (from_bound (prefix_order ss) cs no_values)

-- the step limit suffices
pub plain_steps_limit : (ss : List Scope) (cs : List (List Literal)) → plain_steps ss cs ≤ step_limit 0
    (length (all_variables ss))
plain_steps_limit ss cs =
    let n = length (all_variables ss) in
    let enough = plain_steps_bound ss cs in
    let one : (0 + 1) * 2 ^ (n + 1) ≡ 2 ^ (n + 1) = omega arith in
    let eight : 1 ≤ 8 * n + 8 = omega arith in
    rw one (omega (arith, enough, mul-le-mul_right (2 ^ (n + 1)) eight))
