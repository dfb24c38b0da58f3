use Rattle.samples.proofs.MadeTexts.{made_read}
use Rattle.samples.proofs.laws.made_formulas_are_read.Goals as goal

pub returns : goal.returns
returns c = record { made = made_read }
