-- How many assignments and steps a search needs, how many gates a proof costs at most, and how many a script's proofs
-- do.
use Rattle.std.specs.Prelude.{ℕ, ◌+◌, ◌*◌, ◌-◌, ◌^◌, ◌≤◌, Bool, true, false, if◌then◌else◌, min, List, [], ◌∷◌, length}
use Rattle.steps.specs.Counter.{step_limit}
use Rattle.calculus.specs.Rows.{Row}
use Rattle.calculus.specs.Derivations.{Reason, Inference}
use Rattle.calculus.specs.Derivations.Reason.{Input, One, Two}

-- a search over n variables that begins anew this many times makes fewer assignments than this
abbrev pub assignment_limit : ℕ → ℕ → ℕ
assignment_limit restarts n = (restarts + 1) * 2 ^ (n + 1)

-- a number of steps that suffices for a search over n variables that made so many assignments
abbrev pub steps_for : ℕ → ℕ → ℕ
steps_for n assigned = (8 * n + 8) * (assigned + 1)

-- a number of steps that suffices over n variables where propagation alone refutes the clauses
abbrev pub propagation_limit : ℕ → ℕ
propagation_limit n = 2 * n * (n + 3)

-- at most n resolutions clean the reason of each assignment, one that is under way too, and 2 n make each lesson; each
-- resolution goes with one reduction at most, and so does the initial cube of a lesson
pub record HasFewSteps (n assigned cleaning lessons resolved reduced : ℕ) : Type 0 where
  pub cleaning_few : cleaning ≤ (assigned + 1) * n
  pub lessons_few : lessons ≤ assigned + 1
  pub resolved_few : resolved ≤ lessons * (2 * n)
  pub reduced_few : reduced ≤ cleaning + resolved + lessons

-- what a step with one antecedent costs in gates at most: for each removed literal one more than the literals left
abbrev pub gates_of : Row → Reason → ℕ
gates_of row Input = 0
gates_of row (One before) = (length before - length row) * (length row + 1)
gates_of row (Two a b x) = 0

-- the gate weight of a proof
abbrev pub gate_weight : List Inference → ℕ
gate_weight [] = 0
gate_weight (s ∷ steps) = gates_of s.row s.reason + gate_weight steps

-- whether a step has one antecedent
abbrev pub is_removal : Reason → Bool
is_removal Input = false
is_removal (One before) = true
is_removal (Two a b x) = false

-- how many steps have one antecedent
abbrev pub removals_of : List Inference → ℕ
removals_of [] = 0
removals_of (s ∷ steps) = (if is_removal s.reason then 1 else 0) + removals_of steps

-- the removals that a script may have made: with this many clauses accepted, and this many solves of at most this
-- budget over n variables, each of which began anew at most so often
abbrev pub removal_bound : ℕ → ℕ → ℕ → ℕ → ℕ → ℕ
removal_bound clauses solves budget restarts n = clauses + solves * (min budget (step_limit restarts n) + 1) + 1

-- the weight bound: the gates that a circuit of such a script may have
abbrev pub weight_bound : ℕ → ℕ → ℕ → ℕ → ℕ → ℕ
weight_bound clauses solves budget restarts n = removal_bound clauses solves budget restarts n * (n * (n + 1))
