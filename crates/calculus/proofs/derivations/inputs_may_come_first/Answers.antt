use Rattle.calculus.proofs.CoreOrder.{core_order_legal}
use Rattle.calculus.proofs.derivations.inputs_may_come_first.Goals as goal

pub returns : goal.returns
returns c = core_order_legal
