use Rattle.search.proofs.Working.{finishes}
use Rattle.search.proofs.worked.worked_finishes.Goals as goal

pub returns : goal.returns
returns c pivot = finishes pivot
