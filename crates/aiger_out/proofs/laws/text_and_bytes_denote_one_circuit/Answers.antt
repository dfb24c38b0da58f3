use Rattle.aiger_out.proofs.Parts.{circuit_between}
use Rattle.aiger_out.proofs.Same.{have_one_circuit}
use Rattle.aiger_out.proofs.SameBytes.{bytes_have_one_circuit}
use Rattle.aiger_out.proofs.laws.text_and_bytes_denote_one_circuit.Goals as goal

pub returns : goal.returns
returns c = λ s text bytes is are t u text_is bytes_are.
    circuit_between s t u (have_one_circuit text s t is text_is) (bytes_have_one_circuit bytes s u are bytes_are)
