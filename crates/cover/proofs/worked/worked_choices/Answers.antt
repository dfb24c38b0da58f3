use Rattle.cover.proofs.Working.{choices}
use Rattle.cover.proofs.worked.worked_choices.Goals as goal

pub returns : goal.returns
returns c = choices
