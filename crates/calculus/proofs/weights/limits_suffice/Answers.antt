use Rattle.calculus.proofs.Bounds.{limit_above}
use Rattle.calculus.proofs.weights.limits_suffice.Goals as goal

pub returns : goal.returns
returns c = limit_above
