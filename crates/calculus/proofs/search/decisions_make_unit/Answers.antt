use Rattle.calculus.proofs.Analysis.{decided_makes_unit}
use Rattle.calculus.proofs.search.decisions_make_unit.Goals as goal

pub returns : goal.returns
returns c = decided_makes_unit
