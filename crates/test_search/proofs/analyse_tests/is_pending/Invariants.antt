use Rattle.std.proofs.Common.{take}
use Rattle.calculus.specs.Search.{IsPending, value_on}
use Rattle.test_search.proofs.analyse_tests.is_pending.Given as goal

abbrev pub invariant-loop-lit : goal.invariant-loop-lit
invariant-loop-lit g l = IsPending g.S.Side.PIVOT l.prefix (value_on l.trail.placed) l.kept (take l.lit-index l.lits)
