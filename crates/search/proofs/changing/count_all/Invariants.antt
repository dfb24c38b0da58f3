use Rattle.std.proofs.Common.{◌≡◌}
use Rattle.search.proofs.changing.count_all.Given as goal

abbrev pub invariant-loop-clause : goal.invariant-loop-clause
invariant-loop-clause l = l.decider ≡ l.fn.decider
