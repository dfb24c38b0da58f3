use Rattle.std.proofs.Common.{refl}
use Rattle.builder.proofs.worked.worked_rows.Goals as goal

pub returns : goal.returns
returns c = record {
  opposite = refl;
  opposite_of_negation = refl;
  constants = refl;
  row = refl;
  stays = refl;
  both_signs = refl;
  constant_true = refl;
  all = refl;
}
