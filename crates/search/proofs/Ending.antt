-- Searches that end.
use Rattle.std.proofs.Common.{◌≡◌, ℕ, ◌+◌, ◌-◌, ◌*◌, ◌^◌, ◌<◌, ◌≤◌, List, refl, sym, ap, subst, ◌∙◌, arith}
use Rattle.std.proofs.Math.Nat.{mul-le-mul_left, mul-le-mul_right}
use Rattle.prefix.specs.declared.quant.Quant.{Quant}
use Rattle.prefix.specs.Literal.{Literal}
use Rattle.prefix.specs.Sides.{bad_of}
use Rattle.prefix.specs.Scopes.{Scope, IsPrefix}
use Rattle.steps.specs.Counter.{Counter, left, step_limit}
use Rattle.calculus.specs.Derivations.Why.{FinishedFrom}
use Rattle.calculus.specs.Limits.{assignment_limit, steps_for}
use Rattle.calculus.specs.Rows.{Row}
use Rattle.calculus.specs.VerdictTheorems.{EndRowsGiveProofs, ProofsDecide}
use Rattle.calculus.specs.Verdicts.{AreOuter, IsEndRow, proof_of}
use Rattle.calculus.specs.Derivations.{Step}
use Rattle.trail.specs.State.{Account, TrailState, IsTrailFor, account_of}
use Rattle.trail.proofs.Keeping.{assigned_few}
use Rattle.derive.specs.State.{State, IsLegalFor, clauses_of, row_of, side_at, steps_of, why_at}
use Rattle.derive.specs.Adding.{Removes, finish_at}
use Rattle.derive.specs.Theorems.{SameClausesServe, StepsAreListed}
use Rattle.step_core.specs.Theorems.{FinishesEndProofs}
use Rattle.clean.specs.Reasons.{IsReducedStep}
use Rattle.search.specs.Counting.{IsBounded, size_of}
use Rattle.search.specs.Moves.{IsMatrix}
use Rattle.search.specs.Stops.{IsOutcome, IsSpent, WasSpentWhenDue}
use Rattle.search.specs.Stops.WasSpentWhenDue.{assuming, searching}

-- the finish of an end row is an outcome
pub is_outcome : (scopes : List Scope) (matrix : List Row) (assumptions : List Literal) (old new : State)
    (side : Quant) (row id : ℕ) → StepsAreListed → SameClausesServe → EndRowsGiveProofs → ProofsDecide
    → FinishesEndProofs → IsPrefix scopes → IsLegalFor scopes old → IsMatrix old matrix → AreOuter scopes assumptions
    → IsReducedStep side scopes old row → IsEndRow side scopes assumptions (row_of old row)
    → Removes old new id row (FinishedFrom row) (finish_at assumptions old row)
    → IsOutcome scopes matrix assumptions new (record { loser = side; end = id })
is_outcome scopes matrix assumptions old new side row id listed serve give decide finishes valid legal is_matrix outer
    step end removes =
    let last : Step = record { id = row; side = side_at old row; row = row_of old row; why = why_at old row } in
    let derivation = serve scopes old matrix is_matrix.there is_matrix.none_else legal in
    let ends = subst (λ q. IsEndRow q scopes assumptions (row_of old row)) (sym step.of_side) end in
    let proof = give.step scopes matrix assumptions (steps_of old) last derivation
    (listed.listed old row step.step) ends in
    record {
      truth = decide (side_at old row) scopes matrix assumptions
          (proof_of (steps_of old) last assumptions) valid.distinct outer proof.proof ∙ ap bad_of step.of_side;
      live = removes.live;
      of_side = removes.has_side ∙ step.of_side;
      finish = finishes scopes assumptions old new id row step.step ends removes;
    }

-- fewer steps than suffice
few_limit : (restarts n assigned spent : ℕ) → assigned + 1 < assignment_limit restarts n → spent < steps_for n assigned
    → spent < step_limit restarts n
few_limit restarts n assigned spent few h =
    let one : (8 * n + 8) * (assigned + 1) ≤ (8 * n + 8) * ((restarts + 1) * 2 ^ (n + 1)) =
    mul-le-mul_left (8 * n + 8) (omega arith) in
    omega arith

-- the limit rises with the restarts
pub limit_rises : (few many n : ℕ) → few ≤ many → assignment_limit few n ≤ assignment_limit many n
limit_rises few many n h = mul-le-mul_right (2 ^ (n + 1)) (let e : few + 1 ≤ many + 1 = omega arith in e)

pub steps_few : (restarts : ℕ) (scopes : List Scope) (start : ℕ) (t : TrailState) (steps : Counter)
    → t.restarts ≤ restarts → IsTrailFor scopes t → IsBounded (size_of scopes) start t steps
    → steps.spent - start < step_limit restarts (size_of scopes)
steps_few restarts scopes start t steps most trail bounded =
    let few = assigned_few scopes t trail in
    let all = limit_rises t.restarts restarts (size_of scopes) most in
    few_limit restarts (size_of scopes) t.assigned (steps.spent - start) (omega (arith, few, all)) bounded.few

-- the same clauses at the start
pub due_first : (scopes : List Scope) (old new : State) (assumptions : List Literal) (before : Counter) (assigned : ℕ)
    → clauses_of new ≡ clauses_of old → WasSpentWhenDue scopes new assumptions before assigned
    → WasSpentWhenDue scopes old assumptions before assigned
due_first scopes old new assumptions before assigned same (assuming few count) = assuming few count
due_first scopes old new assumptions before assigned same (searching at is clauses assumed count due) =
    searching at is (clauses ∙ same) assumed count due

-- the budget is spent
pub is_spent : (restarts : ℕ) (scopes : List Scope) (first : State) (assumptions : List Literal) (before now : Counter)
    (t : TrailState) (stopped : Account) → t.restarts ≤ restarts → IsTrailFor scopes t → now.spent ≡ now.budget
    → now.budget ≡ before.budget
    → WasSpentWhenDue scopes first assumptions before t.assigned → IsBounded (size_of scopes) before.spent t now
    → stopped ≡ account_of scopes t now.budget → IsSpent restarts scopes first assumptions before now stopped
is_spent restarts scopes first assumptions before now t stopped most trail spent budget due bounded is =
    let few = bounded.few in
    let limit : now.spent - before.spent < step_limit restarts (size_of scopes) =
    steps_few restarts scopes before.spent t now most trail bounded in
    let same : left before ≡ now.spent - before.spent = omega arith in
    rw is (record {
      spent = spent;
      budget = budget;
      vars = refl;
      due = due;
      few = few;
      restarts = most;
      short = rw same limit;
    })
