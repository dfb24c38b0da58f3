use Rattle.std.proofs.Common.{refl}
use Rattle.watch.proofs.worked.worked_lists.Goals as goal

pub returns : goal.returns
returns c = record {
  made_bad = refl;
  made_good = refl;
  made_bad_of_cubes = refl;
  name = refl;
  name_of_held = refl;
  attached = refl;
  not_to_clauses = refl;
  not_attached = refl;
  list = refl;
  no_list = refl;
  list_of_the_other_side = refl;
  cut = refl;
  cut_beyond = refl;
  cut_twice = refl;
}
