use Rattle.calculus.proofs.Weighing.{weight_rises, weight_turns, weight_below}
use Rattle.calculus.proofs.weights.weight_laws.Goals as goal

pub returns : goal.returns
returns c = record { rises = weight_rises; turns = weight_turns; bounded = weight_below }
