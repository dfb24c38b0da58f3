use Rattle.frames.proofs.Leaving.{level-without_variables, without_extends}
use Rattle.frames.proofs.laws.others_stay.Goals as goal

pub returns : goal.returns
returns c = record { levels = level-without_variables; extends = without_extends }
