use Rattle.std.proofs.Common.{refl}
use Rattle.calculus.proofs.Working.{model_proof, opposes_one}
use Rattle.calculus.proofs.worked.worked_model.Goals as goal

pub returns : goal.returns
returns c = record { proof = model_proof; decides = refl; opposes = opposes_one }
