use Rattle.std.proofs.Common.{refl}
use Rattle.calculus.specs.Weights.{trail_weight}
use Rattle.calculus.proofs.worked.worked_weights.Goals as goal

pub returns : goal.returns
unfolding trail_weight
returns c = record { decided_then_assigned = refl; assigned_once = refl; assigned_thrice = refl }
