use Rattle.clean.proofs.Working.{steps}
use Rattle.clean.proofs.worked.worked_steps.Goals as goal

pub returns : goal.returns
returns c pivot = steps pivot
