use Rattle.std.proofs.Common.{refl}
use Rattle.calculus.proofs.worked.worked_rows.Goals as goal

pub returns : goal.returns
returns c = record {
  last_universal_goes = refl;
  blocked_universal_stays = refl;
  lone_universal_stays = refl;
  last_existential_goes = refl;
  blocked_existential_stays = refl;
  lone_existential_stays = refl;
  absent_is_last = refl;
  absent_goes = refl;
  other_pair_clashes = refl;
  pivot_alone_does_not = refl;
  resolvent = refl;
}
