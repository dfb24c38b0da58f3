use Rattle.std.proofs.Common.{take}
use Rattle.analyse.specs.Levels.{IsLevelBelow}
use Rattle.analyse.proofs.level.level_before.Given as goal

abbrev pub invariant-loop-lit : goal.invariant-loop-lit
invariant-loop-lit g l = IsLevelBelow g.S.Side.PIVOT l.prefix l.trail.placed l.unit (take l.lit-index l.row) l.level
