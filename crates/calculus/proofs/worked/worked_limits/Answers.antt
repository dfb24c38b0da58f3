use Rattle.std.proofs.Common.{refl}
use Rattle.calculus.proofs.worked.worked_limits.Goals as goal

pub returns : goal.returns
returns c = record {
  one = refl;
  two = refl;
  three = refl;
  four = refl;
  twice_anew = refl;
  propagation = refl;
  assigned = refl;
  assigned_twice_anew = refl;
  steps_at_first = refl;
  steps_after_fifteen = refl;
  removals = refl;
  capped = refl;
  uncapped = refl;
  weight = refl;
}
