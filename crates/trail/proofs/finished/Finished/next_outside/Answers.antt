use Rattle.std.proofs.Common.{◌*◌, ◌/◌, arith}
use Rattle.trail.specs.Finished.{AreIn}
use Rattle.trail.proofs.Blocks.{in_blocks, in_both, in_joined}
use Rattle.trail.proofs.finished.Finished.next_outside.Goals as goal

pub returns-clause-passed : goal.returns-clause-passed
returns-clause-passed c =
    let places = c.self.inside.places.items in
    let blocks = c.self.inside.blocks.items in
    let regions = c.self.inside.regions.items in
    let from = c.args.from in
    let place = c.first_unmarked-place.result in
    let next = c.first_unmarked-next.result in
    let far = c.first_unmarked-far.result in
    let block = c.max-block.result in
    let last = c.first_unmarked-last.result in
    let start = c.max-place.result in
    let first : AreIn places from place = rw c.deref.ensures.value at c.first_unmarked-place.ensures.passed in
    let near : AreIn blocks (place / 64) next = rw c.deref-2.ensures.value at c.first_unmarked-next.ensures.passed in
    let wide : AreIn regions (next / 64) far = rw c.deref-3.ensures.value at c.first_unmarked-far.ensures.passed in
    let then : AreIn blocks block last = rw c.deref-4.ensures.value at c.first_unmarked-last.ensures.passed in
    let end : AreIn places start c.first_unmarked.result = rw c.deref-5.ensures.value at c.first_unmarked.ensures.passed
    in
    let over : AreIn blocks (place / 64) block = rw c.max-block.ensures
    (in_both blocks (place / 64) next (next / 64 * 64) (far * 64) near
    (in_blocks blocks regions (next / 64) far c.self.invariant.1 wide) (omega arith)) in
    let whole : AreIn blocks (place / 64) last = in_joined blocks (place / 64) block block last over then
    (omega arith) in
    let passed : AreIn places from start = rw c.max-place.ensures
    (in_both places from place (place / 64 * 64) (last * 64) first
    (in_blocks places blocks (place / 64) last c.self.invariant.0 whole) (omega arith)) in
    rw (← c.self.view_is) (in_joined places from start start c.first_unmarked.result passed end (omega arith))
