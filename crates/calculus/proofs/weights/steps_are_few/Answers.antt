use Rattle.calculus.proofs.Bounds.{steps_below}
use Rattle.calculus.proofs.weights.steps_are_few.Goals as goal

pub returns : goal.returns
returns c = steps_below
