use Rattle.clean.proofs.Working.{cleaning}
use Rattle.clean.proofs.worked.worked_cleaning.Goals as goal

pub returns : goal.returns
returns c pivot = cleaning pivot
