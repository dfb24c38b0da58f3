use Rattle.std.proofs.Common.{refl}
use Rattle.step_core.proofs.worked.worked_cores.Goals as goal

pub returns : goal.returns
returns c = record {
  ids = refl;
  numbered = refl;
  finish = refl;
  finish_step = refl;
  input = refl;
  inferences = refl;
  proof = refl;
  whole_proof = refl;
  finish_proof = refl;
}
