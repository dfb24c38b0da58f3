use Rattle.std.proofs.Common.{arith}
use Rattle.step_core.proofs.Marking.{marked_more, marked_end}
use Rattle.step_core.proofs.marks.needed_for.Goals as goal

pub loop-distance-preserved : goal.loop-distance-preserved
loop-distance-preserved c =
    let after = c.in_ok-mark_from.ensures in
    let short = c.loop-distance.invariant.0.marks.short in (
      marked_more c.args.derivation.now c.args.end c.loop-distance.distance c.loop-distance.marks.items
          c.mark_from.new.marks.items (omega arith) c.loop-distance.invariant.0 after.marks after.value
          c.mark_from.ensures.antecedents,
      omega arith,
    )

pub returns : goal.returns
returns c =
    marked_end c.args.derivation.now c.args.end c.loop-distance.marks.items c.loop-distance.distance
    (omega arith) c.loop-distance.invariant.1 c.loop-distance.invariant.0
