use Rattle.derive.proofs.Legality.{moved}
use Rattle.derive.proofs.laws.prefixes_may_change.Goals as goal

pub returns : goal.returns
returns c = moved
