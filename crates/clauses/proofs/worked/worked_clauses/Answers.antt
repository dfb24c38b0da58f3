use Rattle.std.proofs.Common.{refl}
use Rattle.clauses.proofs.worked.worked_clauses.Goals as goal

pub returns : goal.returns
returns c = record {
  repeats_count_once = refl;
  both_signs = refl;
  empty = refl;
  literal_stands = refl;
  negation_does_not = refl;
}
