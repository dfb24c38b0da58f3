use Rattle.std.proofs.Common.{refl}
use Rattle.frames.proofs.worked.worked_versions.Goals as goal

pub returns : goal.returns
returns c = record {
  leaves = refl;
  gone = refl;
  again = refl;
  stays = refl;
  there = refl;
  twice = refl;
  third_leaves = refl;
  third_gone = refl;
  dropped = refl;
  free = refl;
  kept = refl;
  held = refl;
  frames = refl;
  all = refl;
  one_less = refl;
  one_left = refl;
  one_clause = refl;
  next = refl;
  two_less = refl;
  two_left = refl;
  none_next = refl;
  all_stay = refl;
  all_assumed = refl;
}
