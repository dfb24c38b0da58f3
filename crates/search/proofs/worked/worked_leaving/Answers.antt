use Rattle.search.proofs.WorkingLeaving.{leaving}
use Rattle.search.proofs.worked.worked_leaving.Goals as goal

pub returns : goal.returns
returns c = leaving
