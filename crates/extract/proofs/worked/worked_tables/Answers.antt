use Rattle.std.proofs.Common.{refl}
use Rattle.extract.proofs.worked.worked_tables.Goals as goal

pub returns : goal.returns
returns c = record {
  edge = refl;
  no_edge = refl;
  past_the_table = refl;
  at_its_place = refl;
  of_none = refl;
  of_resolvent = refl;
  stands_for = refl;
  stamped = refl;
  stamped_before = refl;
  past_the_stamps = refl;
}
