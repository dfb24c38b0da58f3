use Rattle.clean.proofs.WorkingLeft.{left}
use Rattle.clean.proofs.worked.worked_reasons_left.Goals as goal

pub returns : goal.returns
returns c pivot = left pivot
