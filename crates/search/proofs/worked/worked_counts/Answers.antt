use Rattle.search.proofs.Working.{counts}
use Rattle.search.proofs.worked.worked_counts.Goals as goal

pub returns : goal.returns
returns c = counts
