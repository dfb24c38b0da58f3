use Rattle.derive.proofs.WorkingInputs.{inputs}
use Rattle.derive.proofs.worked.worked_inputs.Goals as goal

pub returns : goal.returns
returns c = inputs
