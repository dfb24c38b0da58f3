use Rattle.std.proofs.Common.{subst}
use Rattle.frames.specs.declared.frames.Latest.{Latest}
use Rattle.frames.specs.Kept.{AreFrames, AreGrouped, outside}
use Rattle.frames.proofs.Holding.{held_taken, last_there}
use Rattle.frames.proofs.Keeping.{taken_frames, taken_leaving}
use Rattle.frames.proofs.frames.Frames.take_back.Goals as goal

pub take_row-requires-clause-some : goal.take_row-requires-clause-some
take_row-requires-clause-some c =
    let self = c.self.inside in
    last_there self.prefix self.starts.items self.rows.items self.vars.items self.groups
    (subst (λ (l : Latest). AreFrames self.prefix self.starts.items self.rows.items self.vars.items
    (outside l self.groups.current)) c.in-Kept.is c.self.invariant.0)
    (subst (AreGrouped self.prefix self.starts.items self.vars.items self.groups) c.in-Kept.is c.self.invariant.3)

pub invariant_of-self : goal.invariant_of-self
invariant_of-self c =
    let self = c.self.inside in
    let was = subst (λ (l : Latest). AreFrames self.prefix self.starts.items self.rows.items self.vars.items
    (outside l self.groups.current)) c.in-Kept.is c.self.invariant.0 in (
      taken_frames self.prefix self.starts.items self.rows.items c.take_row.new.rows.items self.vars.items
          self.groups.current c.take_row.ensures.rows was,
      c.self.invariant.1,
      taken_leaving self.version self.prefix self.starts.items self.rows.items c.take_row.new.rows.items
          self.vars.items self.groups.current c.take_row.ensures.rows was c.self.invariant.2,
      rw c.take_row.ensures.groups (held_taken self.prefix self.starts.items self.vars.items self.groups self.latest
          c.self.invariant.3),
      c.take_row.ensures.counted,
    )
