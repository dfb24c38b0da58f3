use Rattle.std.proofs.Common.{◌∙◌, arith, ap}
use Rattle.qrp_trace.specs.Texts.{greatest}
use Rattle.qrp_trace.proofs.Scoping.{greatest_later}
use Rattle.qrp_trace.proofs.text.greatest_variable.Goals as goal

pub loop-s-preserved : goal.loop-s-preserved
loop-s-preserved c = greatest_later c.args.prefix.now c.loop-s.s c.loop-s.most c.greatest_of.result
    c.greater-most.result (omega arith) c.loop-s.invariant
    (c.greatest_of.ensures ∙ ap greatest c.vars_of.ensures) c.greater-most.ensures
