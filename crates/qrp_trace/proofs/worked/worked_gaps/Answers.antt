use Rattle.std.proofs.Common.{refl}
use Rattle.std.specs.Fmt.{digits}
use Rattle.qrp_trace.proofs.worked.worked_gaps.Goals as goal

pub returns : goal.returns
unfolding digits
returns c = record {
  greatest_in_front = refl;
  greatest_between = refl;
  greatest_at_last = refl;
  gaps_text = refl;
  cube_gaps_text = refl;
}
