use Rattle.frames.specs.Kept.{at_first}
use Rattle.frames.proofs.Holding.{flat_where}
use Rattle.frames.proofs.Starts.{depth_is}
use Rattle.frames.proofs.frames.Frames.current_group.Goals as goal

pub returns-clause-first : goal.returns-clause-first
returns-clause-first c =
    let self = c.self.inside in
    rw (← c.self.view_is, depth_is at_first self.starts.items self.rows.items self.vars.items)
    (flat_where self.groups.current self.starts.items c.self.invariant.3.shallow)
