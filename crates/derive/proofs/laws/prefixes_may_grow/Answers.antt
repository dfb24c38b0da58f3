use Rattle.derive.proofs.Legality.{grown}
use Rattle.derive.proofs.laws.prefixes_may_grow.Goals as goal

pub returns : goal.returns
returns c = grown
