use Rattle.std.proofs.Common.{◌∙◌}
use Rattle.frames.proofs.Placing.{in_order, open_is}
use Rattle.frames.proofs.groups.Groups.is_open.Goals as goal

pub returns-clause-value : goal.returns-clause-value
returns-clause-value c = rw (← c.self.view_is)
    (c.is_some.ensures ∙ open_is c.self.inside.groups.items c.self.inside.current c.self.invariant.placed)

pub returns-clause-order : goal.returns-clause-order
returns-clause-order c = rw (← c.self.view_is)
    (in_order c.self.inside.groups.items c.self.inside.current c.self.invariant)
