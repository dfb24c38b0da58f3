use Rattle.std.proofs.Common.{arith}
use Rattle.watch.proofs.Stability.{reserved_from}
use Rattle.test_watch.proofs.Desks.{looked_ready}
use Rattle.test_watch.proofs.watch_tests.desk.Desk.next.Goals as goal

pub next-requires-clause-reserved : goal.next-requires-clause-reserved
next-requires-clause-reserved g c =
    let d = c.self.inside in
    reserved_from d.watch.room d.trail c.room.ensures.reserved
    (omega (arith, c.room.ensures.value, c.room-2.ensures, c.if-room.false))

pub invariant_of-self : goal.invariant_of-self
invariant_of-self g c =
    let d = c.self.inside in
    looked_ready g.S.Side.PIVOT d.prefix d.rows d.trail d.watch c.self.invariant c.next.new.rows c.next.new.self
    c.next.ensures.holds c.next.ensures.looked
