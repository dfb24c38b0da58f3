use Rattle.std.proofs.Common.{◌≡◌}
use Rattle.search.proofs.lessons.bump.Given as goal

abbrev pub invariant-loop-lit : goal.invariant-loop-lit
invariant-loop-lit l = l.decider ≡ l.fn.decider
