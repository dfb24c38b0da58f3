use Rattle.std.proofs.Common.{sym}
use Rattle.watch.proofs.Boards.{none_waits, waits_behind, waits_first}
use Rattle.watch.proofs.Moving.{attached_live}
use Rattle.watch.proofs.board.longest_waiting.Goals as goal

pub returns-in_default-clause-none : goal.returns-in_default-clause-none
returns-in_default-clause-none g c none = none_waits g.S.Side.PIVOT c.args.first.now c.args.rows.now c.requires.linked
    (sym c.in_default.ensures)

pub loop-init : goal.loop-init
loop-init g c = waits_first g.S.Side.PIVOT c.args.first.now c.args.rows.now c.in-Some.newest c.requires.linked
    (sym c.in-Some.ensures)

pub link-requires-clause-live : goal.link-requires-clause-live
link-requires-clause-live g c = attached_live g.S.Side.PIVOT c.args.rows.now c.loop.last c.loop.invariant.attached

pub returns-in-None-clause-found : goal.returns-in-None-clause-found
returns-in-None-clause-found g c = c.loop.invariant

pub loop-preserved : goal.loop-preserved
loop-preserved g c = waits_behind g.S.Side.PIVOT c.args.first.now c.args.rows.now c.loop.last c.in-Some-link.next
    c.requires.linked c.loop.invariant (sym c.in-Some-link.ensures)

pub returns-clause-found : goal.returns-clause-found
returns-clause-found g c = c.loop.invariant
