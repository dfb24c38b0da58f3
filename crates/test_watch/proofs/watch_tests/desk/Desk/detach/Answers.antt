use Rattle.test_watch.proofs.Desks.{kept_ready}
use Rattle.test_watch.proofs.watch_tests.desk.Desk.detach.Goals as goal

pub invariant_of-self : goal.invariant_of-self
invariant_of-self g c =
    let d = c.self.inside in
    kept_ready g.S.Side.PIVOT d.prefix d.rows d.trail d.watch c.self.invariant c.detach.new.rows c.detach.new.self
    (c.detach.ensures.holds d.prefix c.self.invariant.holds) c.detach.ensures.looked
