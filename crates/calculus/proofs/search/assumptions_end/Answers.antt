use Rattle.calculus.proofs.Analysis.{last_assumed_end}
use Rattle.calculus.proofs.search.assumptions_end.Goals as goal

pub returns : goal.returns
returns c = last_assumed_end
