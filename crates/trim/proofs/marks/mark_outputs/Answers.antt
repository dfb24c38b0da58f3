use Rattle.std.proofs.Common.{◌≡◌, ◌<◌, List, length, get_or, subst}
use Rattle.aig.specs.declared.strategy.Output.{Output}
use Rattle.trim.proofs.Marking.{marks_output}
use Rattle.trim.proofs.marks.mark_outputs.Goals as goal

pub loop-output-preserved : goal.loop-output-preserved
loop-output-preserved c =
    let i = c.loop-output.output-index in
    let o = c.output-item.result in
    let below : i < length c.args.s.now.outputs =
    subst (λ (os : List Output). i < length os) c.outputs-output-items.ensures c.loop-output-test.true in
    let is : o ≡ get_or c.args.s.now.outputs i o =
    subst (λ (os : List Output). o ≡ get_or os i o) c.outputs-output-items.ensures c.output-item.is in
    marks_output c.args.s.now i o c.loop-output.marks.items c.mark.new.marks.items below is c.mark.ensures.room
    c.mark.ensures.marks c.loop-output.invariant
