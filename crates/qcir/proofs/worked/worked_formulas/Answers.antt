use Rattle.std.proofs.Common.{refl}
use Rattle.qcir.proofs.worked.worked_formulas.Goals as goal

pub returns : goal.returns
returns c = record {
  joined = refl;
  count = refl;
  behind = refl;
  true_after = refl;
  of_doubled = refl;
  one_more = refl;
  of_constant = refl;
  of_nothing = refl;
  of_none = refl;
}
