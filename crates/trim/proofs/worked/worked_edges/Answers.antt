use Rattle.std.proofs.Common.{refl}
use Rattle.trim.proofs.worked.worked_edges.Goals as goal

pub returns : goal.returns
returns c = record {
  gate_moved = refl;
  input_stays = refl;
  constant_stays = refl;
  both_moved = refl;
  output_moved = refl;
  comes_from = refl;
  comes_from_none = refl;
  from = refl;
  not_from = refl;
  not_from_gate = refl;
  left_over = refl;
  right_over = refl;
  not_over = refl;
  through_gate = refl;
  through_input = refl;
  output_through = refl;
}
