use Rattle.std.proofs.Common.{refl}
use Rattle.aig.specs.Circuits.{value_of}
use Rattle.aig.proofs.worked.worked_circuits.Goals as goal

pub returns : goal.returns
unfolding value_of
returns c = record {
  both_true = refl;
  first_false = refl;
  second_false = refl;
  not_both = refl;
  second_input = refl;
  always_false = refl;
  always_true = refl;
  either_of_none = refl;
  either_of_first = refl;
  either_of_second = refl;
  either_of_both = refl;
}
