use Rattle.std.proofs.Common.{refl}
use Rattle.decide.proofs.worked.worked_memories.Goals as goal

pub returns : goal.returns
returns c = record {
  one = refl;
  last_counts = refl;
  other_order = refl;
  without_room = refl;
  first_sign = refl;
  second_sign = refl;
  no_sign = refl;
  no_number = refl;
}
