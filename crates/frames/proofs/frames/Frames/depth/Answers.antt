use Rattle.std.proofs.Common.{◌∙◌}
use Rattle.frames.specs.Kept.{at_first}
use Rattle.frames.proofs.Starts.{depth_is}
use Rattle.frames.proofs.frames.Frames.depth.Goals as goal

pub returns : goal.returns
returns c = rw (
  ← c.self.view_is,
  depth_is at_first c.self.inside.starts.items c.self.inside.rows.items
      c.self.inside.vars.items,
) (c.len.ensures ∙ c.self.inside.starts.ok.0)
