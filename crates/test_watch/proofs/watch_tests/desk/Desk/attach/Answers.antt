use Rattle.test_watch.proofs.Desks.{kept_ready}
use Rattle.test_watch.proofs.watch_tests.desk.Desk.attach.Goals as goal

pub invariant_of-self : goal.invariant_of-self
invariant_of-self g c =
    let d = c.self.inside in
    kept_ready g.S.Side.PIVOT d.prefix d.rows d.trail d.watch c.self.invariant c.attach.new.rows c.attach.new.self
    c.attach.ensures.holds c.attach.ensures.looked

pub attach-requires-clause-known : goal.attach-requires-clause-known
attach-requires-clause-known g c = c.may_attach.ensures.known c.if-not-may_attach.false
