use Rattle.std.proofs.Common.{◌≤◌, ◌-◌, length, vec_capacity}
use Rattle.calculus.specs.Search.{literals_on}
use Rattle.watch.proofs.Looking.{IsExtending}
use Rattle.watch.proofs.board.extend.Given as goal

abbrev pub invariant-loop-calm : goal.invariant-loop-calm
invariant-loop-calm l =
    IsExtending (literals_on l.trail.placed) l.initial.seen.items l.initial.calm.items l.seen.items l.calm.items
    × (vec_capacity l.initial.seen ≤ vec_capacity l.seen)
    × (vec_capacity l.initial.calm ≤ vec_capacity l.calm)

abbrev pub decreases-loop-calm : goal.decreases-loop-calm
decreases-loop-calm l = length (literals_on l.trail.placed) - length l.seen.items
