use Rattle.std.proofs.Common.{take}
use Rattle.reduce.specs.Deepest.{IsDeepestOther}
use Rattle.reduce.proofs.reduction.deepest_other.Given as goal

abbrev pub invariant-loop-lit : goal.invariant-loop-lit
invariant-loop-lit g l = IsDeepestOther g.S.Side.PIVOT l.prefix (take l.lit-index l.lits) l.deepest
