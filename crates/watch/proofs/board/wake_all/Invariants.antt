use Rattle.watch.specs.State.{members}
use Rattle.watch.proofs.Boards.{IsWaking}
use Rattle.watch.proofs.board.wake_all.Given as goal

abbrev pub invariant-loop-first : goal.invariant-loop-first
invariant-loop-first g l = IsWaking g.S.Side.PIVOT l.initial.first l.initial.second l.initial.rows l.first l.second
    l.rows

abbrev pub decreases-loop-first : goal.decreases-loop-first
decreases-loop-first g l = members g.S.Side.PIVOT l.rows 0 l.name
