use Rattle.std.proofs.Common.{◌≡◌}
use Rattle.search.proofs.lessons.bump_resolved.Given as goal

abbrev pub invariant-loop-id : goal.invariant-loop-id
invariant-loop-id l = l.decider ≡ l.fn.decider
