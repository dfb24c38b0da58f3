use Rattle.aiger_out.proofs.SameBytes.{bytes_have_one_circuit}
use Rattle.aiger_out.proofs.laws.bytes_denote_one_circuit.Goals as goal

pub returns : goal.returns
returns c = bytes_have_one_circuit
