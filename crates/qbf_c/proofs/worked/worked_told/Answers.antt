use Rattle.std.proofs.Common.{refl}
use Rattle.qbf_c.proofs.ToldValues.{check, circuit, falling, input_behind, one_gate, one_input, other_form, other_trace, trace, trimmed_circuit, two_removals, unused}
use Rattle.qbf_c.proofs.worked.worked_told.Goals as goal

pub returns : goal.returns
returns c = record {
  one_removal = refl;
  removals = refl;
  enough_steps = refl;
  no_gate = refl;
  gates = refl;
  circuit = circuit;
  trimmed_circuit = trimmed_circuit;
  other_form = other_form;
  one_gate = one_gate;
  one_input = one_input;
  trace = trace;
  other_proof = other_trace;
  unused_step = unused;
  input_behind = input_behind;
  two_removals = two_removals;
  check = check;
  falling = falling;
}
