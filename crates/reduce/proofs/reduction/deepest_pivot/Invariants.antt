use Rattle.std.proofs.Common.{take}
use Rattle.reduce.specs.Deepest.{IsDeepest}
use Rattle.reduce.proofs.reduction.deepest_pivot.Given as goal

abbrev pub invariant-loop-lit : goal.invariant-loop-lit
invariant-loop-lit g l = IsDeepest g.S.Side.PIVOT l.prefix (take l.lit-index l.lits) l.deepest
