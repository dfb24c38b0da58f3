use Rattle.session.proofs.WorkingAsks.{changes}
use Rattle.session.proofs.worked.worked_changes.Goals as goal

pub returns : goal.returns
returns c = changes
