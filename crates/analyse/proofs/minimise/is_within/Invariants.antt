use Rattle.std.proofs.Common.{◌≤◌, Contains, length, take}
use Rattle.prefix.specs.Literal.{Literal}
use Rattle.analyse.proofs.minimise.is_within.Given as goal

abbrev pub invariant-loop-lit : goal.invariant-loop-lit
invariant-loop-lit l = (l.next ≤ length l.row)
    × ((lit : Literal) → Contains (take l.next l.row) lit → Contains l.whole lit)
