use Rattle.analyse.proofs.Working.{lessons}
use Rattle.analyse.proofs.worked.worked_lessons.Goals as goal

pub returns : goal.returns
returns c pivot = lessons pivot
