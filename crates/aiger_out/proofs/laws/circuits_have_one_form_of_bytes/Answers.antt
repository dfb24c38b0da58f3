use Rattle.aiger_out.proofs.SameBytes.{have_one_form}
use Rattle.aiger_out.proofs.laws.circuits_have_one_form_of_bytes.Goals as goal

pub returns : goal.returns
returns c = have_one_form
