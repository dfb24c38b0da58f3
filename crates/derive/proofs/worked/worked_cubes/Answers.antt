use Rattle.derive.proofs.Working.{cubes}
use Rattle.derive.proofs.worked.worked_cubes.Goals as goal

pub returns : goal.returns
returns c = cubes
