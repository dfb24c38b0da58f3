use Rattle.cores.proofs.Fewer.{fewer_true}
use Rattle.cores.proofs.laws.fewer_clauses_stay_true.Goals as goal

pub returns : goal.returns
returns c = fewer_true
