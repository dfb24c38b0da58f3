use Rattle.qrp_trace.proofs.Scoping.{greatest_all, greatest_next}
use Rattle.qrp_trace.proofs.text.greatest_of.Goals as goal

pub loop-v-preserved : goal.loop-v-preserved
loop-v-preserved c =
    greatest_next c.loop-v.v-iterator c.next.new.self c.in-Some.v.now c.loop-v.most c.number.result
    c.greater-most.result _ c.in-Some.ensures.steps c.loop-v.invariant c.number.ensures.value c.greater-most.ensures

pub returns : goal.returns
returns c = greatest_all c.loop-v.v-iterator c.loop-v.most _ c.in-None.ensures.steps.0 c.loop-v.invariant
