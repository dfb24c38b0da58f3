use Rattle.std.proofs.Common.{refl}
use Rattle.calculus.proofs.worked.worked_cores.Goals as goal

pub returns : goal.returns
returns c = record { whole = refl; part = refl }
