use Rattle.search.proofs.Working.{dues}
use Rattle.search.proofs.worked.worked_dues.Goals as goal

pub returns : goal.returns
returns c = dues
