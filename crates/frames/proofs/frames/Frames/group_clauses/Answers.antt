use Rattle.calculus.specs.Rows.{IsRow}
use Rattle.frames.proofs.Counting.{all_at}
use Rattle.frames.proofs.frames.Frames.group_clauses.Goals as goal

pub returns-in-Some-clause-rows : goal.returns-in-Some-clause-rows
returns-in-Some-clause-rows c =
    rw (← c.self.view_is) (all_at (IsRow c.self.inside.prefix) c.self.inside.groups.groups c.args.group
    c.self.invariant.3.rows)

pub returns-in-None-clause-rows : goal.returns-in-None-clause-rows
returns-in-None-clause-rows c =
    rw (← c.self.view_is) (all_at (IsRow c.self.inside.prefix) c.self.inside.groups.groups c.args.group
    c.self.invariant.3.rows)
