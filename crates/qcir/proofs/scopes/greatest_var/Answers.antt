use Rattle.std.proofs.Common.{arith}
use Rattle.qcir.proofs.Scoping.{greatest_scope}
use Rattle.qcir.proofs.scopes.greatest_var.Goals as goal

pub loop-s-preserved : goal.loop-s-preserved
loop-s-preserved c =
    greatest_scope c.args.prefix.now c.loop-s.s c.vars_of.result.now.keys c.loop-s.greatest
    c.greatest_above-greatest.result
    (omega arith) c.vars_of.ensures c.loop-s.invariant c.greatest_above-greatest.ensures
