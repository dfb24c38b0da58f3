use Rattle.trail.proofs.Assuming.{HasAssumed}
use Rattle.trail.proofs.trail.Trail.assume_each.Given as goal

abbrev pub invariant-loop-lit : goal.invariant-loop-lit
invariant-loop-lit l = HasAssumed l.prefix l.fn.self l.self l.lits l.fn.steps l.steps l.lit-index
