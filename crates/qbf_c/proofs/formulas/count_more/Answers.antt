use Rattle.std.proofs.Common.{◌≤◌, ◌-◌, ◌^◌, suc, length, arith}
use Rattle.qbf_c.proofs.Parts.{count_next}
use Rattle.qbf_c.proofs.formulas.count_more.Goals as goal

pub loop-part-preserved : goal.loop-part-preserved
loop-part-preserved c =
    let below : suc c.loop-part.part-index ≤ length c.args.more.now = omega arith in
    count_next (λ part. part.now) c.args.more.now c.loop-part.part-index c.part-item.result c.args.first
    c.loop-part.count c.saturating_add-count.result (2 ^ 64 - 1) below c.part-item.is c.loop-part.invariant
    c.saturating_add-count.ensures
