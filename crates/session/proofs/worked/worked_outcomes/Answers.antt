use Rattle.session.proofs.WorkingOutcomes.{outcomes}
use Rattle.session.proofs.worked.worked_outcomes.Goals as goal

pub returns : goal.returns
returns c = outcomes
