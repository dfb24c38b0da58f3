use Rattle.std.proofs.Common.{refl}
use Rattle.aig.proofs.worked.worked_numbers.Goals as goal

pub returns : goal.returns
returns c = record {
  zero = refl;
  one = refl;
  first_input = refl;
  second_input = refl;
  first_gate = refl;
  its_opposite = refl;
  second_gate = refl;
}
