use Rattle.calculus.specs.Search.Cause.{Propagated}
use Rattle.test_watch.proofs.Desks.{assigned_ready}
use Rattle.test_watch.proofs.watch_tests.desk.Desk.propagate.Goals as goal

pub invariant_of-self : goal.invariant_of-self
invariant_of-self g c =
    let d = c.self.inside in
    let call = c.propagate in
    assigned_ready g.S.Side.PIVOT d.prefix d.rows d.trail d.watch c.self.invariant call.new.trail c.args.lit
    (Propagated 7) call.result call.ensures.ok call.ensures.placed call.ensures.allowed call.ensures.kept
