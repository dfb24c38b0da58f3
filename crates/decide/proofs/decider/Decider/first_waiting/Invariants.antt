use Rattle.std.proofs.Common.{◌≡◌}
use Rattle.decide.proofs.decider.Decider.first_waiting.Given as goal

abbrev pub invariant-loop : goal.invariant-loop
invariant-loop l = l.self ≡ l.fn.self
