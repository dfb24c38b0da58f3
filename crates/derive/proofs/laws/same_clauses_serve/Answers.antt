use Rattle.derive.proofs.Legality.{served}
use Rattle.derive.proofs.laws.same_clauses_serve.Goals as goal

pub returns : goal.returns
returns c = served
