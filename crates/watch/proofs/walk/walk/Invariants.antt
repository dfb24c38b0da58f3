use Rattle.std.proofs.Common.{◌+◌, ◌-◌, length}
use Rattle.calculus.specs.Search.{literals_on}
use Rattle.watch.proofs.Stepping.{IsStepping}
use Rattle.watch.proofs.walk.walk.Given as goal

abbrev pub invariant-loop-first : goal.invariant-loop-first
invariant-loop-first g l =
    IsStepping g.S.Side.PIVOT l.prefix (literals_on l.trail.placed) l.calm.items l.initial.first l.initial.second
    l.initial.rows l.first l.second l.rows l.ones l.twos l.at

abbrev pub decreases-loop-first : goal.decreases-loop-first
decreases-loop-first g l = length (literals_on l.trail.placed) + length (literals_on l.trail.placed) - (l.ones + l.twos)
