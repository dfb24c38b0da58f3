use Rattle.std.proofs.Common.{◌≡◌, ℕ, ◌+◌, ◌*◌, ◌-◌, ◌≤◌, Bool, Option, Some, None, length}
use Rattle.steps.specs.Counter.{left}
use Rattle.truth.specs.Truth.{truth, plain_steps}
use Rattle.prefix.specs.Scopes.{prefix_order}
use Rattle.truth.proofs.ResumeLemmas.{outcome}
use Rattle.truth.proofs.decide.decide_plain.Given as goal

-- one where the answer is still to find
abbrev pub still_open : Option Bool → ℕ
still_open None = 1
still_open (Some b) = 0

abbrev pub invariant-loop-answer : goal.invariant-loop-answer
invariant-loop-answer l =
    record {
      order_is : l.search.order ≡ prefix_order l.f.prefix;
      answer_is : (outcome l.search l.f.clauses l.answer).answer ≡ truth l.f.prefix l.f.clauses;
      ticks_are : l.steps.spent + (outcome l.search l.f.clauses l.answer).ticks ≡ l.initial.steps.spent + plain_steps
          l.f.prefix l.f.clauses;
      later : l.initial.steps.spent ≤ l.steps.spent;
      room : l.steps.spent - l.initial.steps.spent ≤ left l.initial.steps;
      budget_is : l.steps.budget ≡ l.initial.steps.budget;
    }

abbrev pub decreases-loop-answer : goal.decreases-loop-answer
decreases-loop-answer l = 2 * (outcome l.search l.f.clauses l.answer).ticks + length l.search.values + still_open
    l.answer
