use Rattle.calculus.proofs.Analysis.{blocker_propagated}
use Rattle.calculus.proofs.search.blockers_were_propagated.Goals as goal

pub returns : goal.returns
returns c = blocker_propagated
