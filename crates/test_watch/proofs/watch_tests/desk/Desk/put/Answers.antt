use Rattle.test_watch.proofs.Desks.{added_ready}
use Rattle.test_watch.proofs.watch_tests.desk.Desk.put.Goals as goal

pub invariant_of-self-2 : goal.invariant_of-self-2
invariant_of-self-2 g c =
    let d = c.self.inside in
    added_ready g.S.Side.PIVOT d.prefix d.rows d.trail d.watch c.self.invariant c.add.new.self c.args.lits.now
    c.in_ok-add.ensures.arena.1
