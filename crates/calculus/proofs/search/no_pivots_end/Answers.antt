use Rattle.calculus.proofs.Analysis.{no_pivots_end}
use Rattle.calculus.proofs.search.no_pivots_end.Goals as goal

pub returns : goal.returns
returns c = no_pivots_end
