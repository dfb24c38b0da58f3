use Rattle.std.proofs.Common.{◌≡◌, Some, sym, arith}
use Rattle.watch.proofs.Boards.{first_leaves, list_empty}
use Rattle.watch.proofs.Threads.{same_some}
use Rattle.watch.proofs.board.wake_all.Goals as goal

pub loop-first-smaller : goal.loop-first-smaller
loop-first-smaller g c =
    first_leaves g.S.Side.PIVOT c.loop-first.first c.loop-first.rows c.place.new.rows 0 c.args.name c.in-Some.id
    (Some 0) c.loop-first.invariant.board.ones c.in-Some.ensures c.place.ensures.ones c.place.ensures.kept
    (λ e. let zero : 0 ≡ c.args.name = same_some 0 c.args.name e in absurd (omega arith))

pub returns-clause-emptied : goal.returns-clause-emptied
returns-clause-emptied g c = list_empty g.S.Side.PIVOT c.loop-first.first c.loop-first.rows 0 c.args.name
    c.loop-first.invariant.board.ones (sym c.in_default.ensures)
