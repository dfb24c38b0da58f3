use Rattle.std.proofs.Common.{◌-◌, ap, arith}
use Rattle.trail.specs.Finished.{AreIn}
use Rattle.trail.specs.State.{TrailState}
use Rattle.trail.proofs.Finishing.{assigned_over}
use Rattle.trail.proofs.trail.Trail.next_unfinished.Goals as goal

pub overflow_add-result : goal.overflow_add-result
overflow_add-result c = (let near = c.next_outside.ensures.near in let small = c.requires.small in omega arith)

pub returns-clause-earlier : goal.returns-clause-earlier
returns-clause-earlier c =
    let t = c.args.self.now in
    let passed : AreIn t.finished (c.args.scope - 1) c.next_outside.result =
    rw (ap (λ (s : TrailState). s.finished) c.self.view_is) at c.next_outside.ensures.passed in
    assigned_over c.args.prefix.now t.placed t.finished c.args.scope c.next_outside.result
    c.requires.prefix.all_assigned c.requires.earlier passed c.requires.first
