use Rattle.truth.proofs.PlainSteps.{plain_steps_bound}
use Rattle.truth.proofs.laws.plain_steps_are_bounded.Goals as goal

pub returns : goal.returns
returns c = plain_steps_bound
