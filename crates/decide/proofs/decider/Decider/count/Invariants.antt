use Rattle.std.proofs.Common.{◌≡◌}
use Rattle.decide.proofs.decider.Decider.count.Given as goal

abbrev pub invariant-loop-lit : goal.invariant-loop-lit
invariant-loop-lit l = l.self ≡ l.fn.self
