use Rattle.step_core.proofs.Finishing.{finish_ends}
use Rattle.step_core.proofs.laws.finishes_end_proofs.Goals as goal

pub returns : goal.returns
returns c = finish_ends
