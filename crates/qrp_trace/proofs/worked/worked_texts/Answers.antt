use Rattle.std.proofs.Common.{refl}
use Rattle.std.specs.Fmt.{digits}
use Rattle.qrp_trace.proofs.worked.worked_texts.Goals as goal

pub returns : goal.returns
unfolding digits
returns c = record {
  refutation_text = refl;
  assumed_text = refl;
  cube_text = refl;
  empty_text = refl;
  greater_number_last = refl;
}
