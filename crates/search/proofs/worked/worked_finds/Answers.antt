use Rattle.search.proofs.Working.{finds}
use Rattle.search.proofs.worked.worked_finds.Goals as goal

pub returns : goal.returns
returns c pivot = finds pivot
