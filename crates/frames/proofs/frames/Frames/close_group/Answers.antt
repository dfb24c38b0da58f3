use Rattle.std.proofs.Common.{None, refl}
use Rattle.frames.proofs.Holding.{held_turned}
use Rattle.frames.proofs.Keeping.{settled_frames}
use Rattle.frames.proofs.frames.Frames.close_group.Goals as goal

pub invariant_of-self : goal.invariant_of-self
invariant_of-self c =
    let self = c.self.inside in
    rw c.close.ensures (
      settled_frames _ _ _ _ _ c.self.invariant.0,
      c.self.invariant.1,
      c.self.invariant.2,
      held_turned _ _ _ self.groups self.latest self.groups.groups None refl tt c.self.invariant.3,
      c.self.invariant.4,
    )
