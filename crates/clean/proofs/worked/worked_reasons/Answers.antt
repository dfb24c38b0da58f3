use Rattle.clean.proofs.Working.{reasons}
use Rattle.clean.proofs.worked.worked_reasons.Goals as goal

pub returns : goal.returns
returns c pivot = reasons pivot
