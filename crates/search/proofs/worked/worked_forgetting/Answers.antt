use Rattle.search.proofs.WorkingForgetting.{forgetting}
use Rattle.search.proofs.worked.worked_forgetting.Goals as goal

pub returns : goal.returns
returns c side = forgetting side
