use Rattle.cores.proofs.Minimal.{core_is}
use Rattle.cores.proofs.laws.cores_are_minimal.Goals as goal

pub returns : goal.returns
returns c = core_is
