use Rattle.derive.proofs.WorkingLeaving.{leaving}
use Rattle.derive.proofs.worked.worked_leaving.Goals as goal

pub returns : goal.returns
returns c = leaving
