use Rattle.calculus.proofs.WorkingSearch.{units}
use Rattle.calculus.proofs.worked.worked_units.Goals as goal

pub returns : goal.returns
returns c pivot = units pivot
