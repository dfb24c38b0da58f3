use Rattle.std.proofs.Common.{refl}
use Rattle.extract.proofs.worked.worked_rules.Goals as goal

pub returns : goal.returns
returns c = record {
  first_bad_clause = refl;
  second_bad_clause = refl;
  first_bad_cube = refl;
  second_bad_cube = refl;
  both_bad = refl;
  both_bad_turned = refl;
  first_good = refl;
  half_bad = refl;
  cube_half_bad = refl;
  none = refl;
}
