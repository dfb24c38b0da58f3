use Rattle.std.proofs.Common.{refl}
use Rattle.generate.specs.Draws.{state_at}
use Rattle.generate.proofs.worked.worked_places.Goals as goal

pub returns : goal.returns
unfolding state_at
returns c = record {
  first = refl;
  second = refl;
  third = refl;
  literals = refl;
  round = refl;
  not_back = refl;
  past_none = refl;
  past_one = refl;
  past_both = refl;
  past_itself = refl;
  sorted = refl;
}
