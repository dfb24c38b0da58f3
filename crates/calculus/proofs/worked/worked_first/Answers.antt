use Rattle.std.proofs.Common.{refl}
use Rattle.calculus.proofs.Working.{chained_proof, falsifies, falsifies_too, then_false, then_second}
use Rattle.calculus.proofs.worked.worked_first.Goals as goal

pub returns : goal.returns
returns c = record {
  proof = chained_proof;
  first_counts = refl;
  falsifies = falsifies;
  then_second = then_second;
  nothing_forced = refl;
  then_false = then_false;
  falsifies_too = falsifies_too;
}
