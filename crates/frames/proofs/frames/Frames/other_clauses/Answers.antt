use Rattle.frames.specs.Kept.{at_first}
use Rattle.frames.proofs.Starts.{frames_clauses}
use Rattle.frames.proofs.frames.Frames.other_clauses.Goals as goal

pub returns-clause-value : goal.returns-clause-value
returns-clause-value c = rw (
  ← c.self.view_is,
  frames_clauses at_first c.self.inside.starts.items
      c.self.inside.rows.items c.self.inside.vars.items,
) c.deref.ensures.value

pub returns-clause-rows : goal.returns-clause-rows
returns-clause-rows c = rw (
  ← c.self.view_is,
  frames_clauses at_first c.self.inside.starts.items
      c.self.inside.rows.items c.self.inside.vars.items,
) c.self.invariant.0.rows
