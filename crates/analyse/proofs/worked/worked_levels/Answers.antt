use Rattle.analyse.proofs.Working.{levels}
use Rattle.analyse.proofs.worked.worked_levels.Goals as goal

pub returns : goal.returns
returns c pivot = levels pivot
