use Rattle.std.proofs.Common.{◌<◌, ◌≤◌, refl, sym, arith}
use Rattle.aiger_out.proofs.WorkedGates.{apart}
use Rattle.aiger_out.proofs.worked.worked_deltas.Goals as goal

pub returns : goal.returns
returns c = record {
  zero = record { groups = omega arith; value = refl };
  one_byte = record { groups = omega arith; value = refl };
  two_bytes = record { groups = (omega arith, omega arith, omega arith, omega arith); value = refl };
  three_hundred = record { groups = (omega arith, omega arith, omega arith, omega arith); value = refl };
  three_bytes = record {
    groups = (omega arith, omega arith, omega arith, (omega arith, omega arith, omega arith, omega arith));
    value = refl;
  };
  no_bytes = λ h. h.groups;
  without_high_bit = λ h. let high : 128 ≤ 44 = h.groups.0 in omega arith;
  high_bit_at_end = λ h. let low : 130 < 128 = h.groups.3 in omega arith;
  highest_first = λ h. apart 300 5634 (omega arith) (sym h.value);
  longer = λ h. let more : 0 < 0 = h.groups.2 in omega arith;
  longer_by_a_third = λ h. let more : 0 < 0 = h.groups.3.2 in omega arith;
  no_byte = λ h. let low : 300 < 128 = h.groups in omega arith;
  no_byte_in_front = λ h. let byte : 428 < 256 = h.groups.1 in omega arith;
}
