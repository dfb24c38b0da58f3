use Rattle.cores.proofs.Working.{cores}
use Rattle.cores.proofs.worked.worked_cores.Goals as goal

pub returns : goal.returns
returns c = cores
