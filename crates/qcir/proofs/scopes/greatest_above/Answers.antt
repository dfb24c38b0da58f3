use Rattle.qcir.proofs.Scoping.{greatest_next}
use Rattle.qcir.proofs.scopes.greatest_above.Goals as goal

pub loop-v-preserved : goal.loop-v-preserved
loop-v-preserved c =
    greatest_next c.loop-v.v-iterator c.next.new.self c.in-Some.v.now c.number.result c.loop-v.greatest
    c.max-greatest.result _ c.in-Some.ensures.steps c.number.ensures.value c.loop-v.invariant c.max-greatest.ensures
