use Rattle.std.proofs.Common.{refl}
use Rattle.qcir_reader.proofs.worked.worked_readings.Goals as goal

pub returns : goal.returns
returns c = record {
  whole = refl;
  merged = refl;
  alone = refl;
  constant = refl;
  nothing = refl;
  cut = refl;
  no_output = refl;
  two_outputs = refl;
  late_set = refl;
  comma_first = refl;
  comma_last = refl;
  empty_output = refl;
  a_word = refl;
  another_kind = refl;
  zero_name = refl;
  negative = refl;
  greatest = refl;
  too_great = refl;
  zero_output = refl;
  negative_gate = refl;
  zero_input = refl;
  xor = refl;
  ite = refl;
  free = refl;
  quantified_gate = refl;
  twice = refl;
  twice_over = refl;
  gate_twice = refl;
  gate_of_quantified = refl;
  unknown_output = refl;
  unknown_input = refl;
  of_itself = refl;
  no_name_first = refl;
  number_first = refl;
  output_last = refl;
}
