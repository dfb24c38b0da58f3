use Rattle.std.proofs.Common.{refl}
use Rattle.calculus.proofs.Working.{refutation_proof, copies}
use Rattle.calculus.proofs.worked.worked_refutation.Goals as goal

pub returns : goal.returns
returns c = record { proof = refutation_proof; decides = refl; copies = copies; gates = refl }
