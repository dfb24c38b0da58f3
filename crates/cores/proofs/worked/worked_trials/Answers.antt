use Rattle.cores.proofs.WorkingTrials.{trials}
use Rattle.cores.proofs.worked.worked_trials.Goals as goal

pub returns : goal.returns
returns c = trials
