use Rattle.trail.proofs.Blocks.{blocks_wider}
use Rattle.trail.proofs.finished.Finished.widen.Goals as goal

pub invariant_of-self-2 : goal.invariant_of-self-2
invariant_of-self-2 c = (
  blocks_wider c.self.inside.places.items c.self.inside.blocks.items c.grow-3.new.marks.items c.grow-2.new.marks.items
      c.grow-3.ensures.same c.grow-2.ensures.same c.self.invariant.0,
  blocks_wider c.self.inside.blocks.items c.self.inside.regions.items c.grow-2.new.marks.items c.grow.new.marks.items
      c.grow-2.ensures.same c.grow.ensures.same c.self.invariant.1,
)
