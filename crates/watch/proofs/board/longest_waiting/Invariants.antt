use Rattle.watch.specs.State.{WaitsHere}
use Rattle.watch.proofs.board.longest_waiting.Given as goal

abbrev pub invariant-loop : goal.invariant-loop
invariant-loop g l = WaitsHere g.S.Side.PIVOT l.rows l.last
