use Rattle.std.proofs.Common.{◌≤◌, suc, length, arith}
use Rattle.qbf_c.proofs.Parts.{part_next}
use Rattle.qbf_c.proofs.copied.put_parts.Goals as goal

pub loop-part-preserved : goal.loop-part-preserved
loop-part-preserved c =
    let below : suc c.loop-part.part-index ≤ length c.args.more.now = omega arith in
    part_next (λ part. part.now) c.args.more.now c.loop-part.part-index c.part-item.result c.args.rows.now.items
    c.loop-part.rows.items c.put_copies.new.rows.items below c.part-item.is c.loop-part.invariant
    c.in_ok-put_copies.ensures
