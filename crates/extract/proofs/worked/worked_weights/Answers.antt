use Rattle.std.proofs.Common.{refl}
use Rattle.extract.proofs.worked.worked_weights.Goals as goal

pub returns : goal.returns
returns c = record {
  nothing = refl;
  both = refl;
  of_each = refl;
  two_removed = refl;
  two_removed_gates = refl;
  one_removed = refl;
  one_removed_gates = refl;
}
