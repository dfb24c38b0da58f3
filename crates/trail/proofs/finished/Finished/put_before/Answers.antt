use Rattle.std.proofs.Common.{◌≡◌, length, ap, arith}
use Rattle.trail.proofs.Blocks.{before_is}
use Rattle.trail.proofs.finished.Finished.put_before.Goals as goal

pub returns : goal.returns
returns c =
    let long : length c.self.inside.places.items ≡ length c.args.self.now = ap length c.self.view_is in
    let count = c.len.ensures in
    let fits = c.self.inside.places.ok in
    let last = c.min-last.ensures in
    let past = c.loop-place-test.false in
    before_is c.args.end c.args.self.now c.loop-place.self c.loop-place.invariant.2
    (λ i below within. c.loop-place.invariant.0 i (omega arith) (omega arith))
    (λ i above. c.loop-place.invariant.1 i (omega arith))
