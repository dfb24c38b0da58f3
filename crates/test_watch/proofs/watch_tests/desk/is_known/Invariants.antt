use Rattle.std.proofs.Common.{take}
use Rattle.test_watch.proofs.Desks.{AreRoomFor}
use Rattle.test_watch.proofs.watch_tests.desk.is_known.Given as goal

abbrev pub invariant-loop-lit : goal.invariant-loop-lit
invariant-loop-lit l = AreRoomFor l.prefix l.room (take l.lit-index l.lits)
