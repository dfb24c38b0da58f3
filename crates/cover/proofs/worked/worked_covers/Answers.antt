use Rattle.cover.proofs.Working.{covers}
use Rattle.cover.proofs.worked.worked_covers.Goals as goal

pub returns : goal.returns
returns c = covers
