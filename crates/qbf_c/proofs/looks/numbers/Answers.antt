use Rattle.qbf_c.proofs.Parts.{element_last, element_next}
use Rattle.qbf_c.proofs.looks.numbers.Goals as goal

pub loop-v-preserved : goal.loop-v-preserved
loop-v-preserved c =
    element_next c.loop-v.numbers.items c.loop-v.v-iterator c.next.new.self c.push.new.self.items _ c.in-Some.v.now
    c.number.result c.in-Some.ensures.steps c.loop-v.invariant c.number.ensures.value c.in_ok-push.ensures.items

pub returns : goal.returns
returns c = element_last c.loop-v.numbers.items c.loop-v.v-iterator _ c.in-None.ensures.steps.0 c.loop-v.invariant
