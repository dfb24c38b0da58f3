use Rattle.calculus.proofs.Needed.{its_core}
use Rattle.calculus.proofs.derivations.steps_have_cores.Goals as goal

pub returns : goal.returns
returns c scopes clauses steps end d i = its_core scopes clauses steps end d i
