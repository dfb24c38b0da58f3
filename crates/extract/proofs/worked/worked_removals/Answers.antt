use Rattle.std.proofs.Common.{refl}
use Rattle.extract.proofs.worked.worked_removals.Goals as goal

pub returns : goal.returns
returns c = record {
  stands = refl;
  stands_not = refl;
  goes_alone = refl;
  stays = refl;
  of_another = refl;
  clauses = refl;
  resolvents_remove_none = refl;
  cubes = refl;
}
