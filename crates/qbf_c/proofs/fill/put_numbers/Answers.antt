use Rattle.std.proofs.Common.{ap, ◌∙◌, w32}
use Rattle.std.proofs.Math.Facts.{to_z-of_z}
use Rattle.prefix.specs.Literal.{signed_number}
use Rattle.qbf_c.proofs.Filling.{put_next}
use Rattle.qbf_c.proofs.fill.put_numbers.Goals as goal

pub loop-i-preserved : goal.loop-i-preserved
loop-i-preserved c =
    let lits = c.args.lits.now in
    let i = c.loop-i.i in
    let d = c.index-lits-i.result in
    let is = to_z-of_z {w = w32} {z = c.number.result} (record { sfits = c.number.type_inv }) ∙ c.number.ensures
    ∙ ap signed_number c.index-lits-i.is in
    rw (is, c.loop-i.invariant) (put_next signed_number lits c.args.buffer.now i d c.loop-i-test.true c.requires)
