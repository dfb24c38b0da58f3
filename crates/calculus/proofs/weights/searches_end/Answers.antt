use Rattle.calculus.proofs.Weighing.{search_bound}
use Rattle.calculus.proofs.weights.searches_end.Goals as goal

pub returns : goal.returns
returns c = search_bound
