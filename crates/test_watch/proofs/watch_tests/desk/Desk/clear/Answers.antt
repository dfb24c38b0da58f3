use Rattle.test_watch.proofs.Desks.{cleared_ready}
use Rattle.test_watch.proofs.watch_tests.desk.Desk.clear.Goals as goal

pub invariant_of-self : goal.invariant_of-self
invariant_of-self g c =
    let d = c.self.inside in
    cleared_ready g.S.Side.PIVOT d.prefix d.rows d.trail d.watch c.self.invariant c.clear.new.self c.undone.new.self
    c.clear.ensures.cleared c.undone.ensures (c.clear.ensures.kept d.prefix)
