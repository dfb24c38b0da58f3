use Rattle.calculus.specs.Search.{value_on}
use Rattle.watch.specs.Pairs.{FailBetween, is_free_pivot}
use Rattle.watch.proofs.choice.free_between.Given as goal

abbrev pub invariant-loop-place : goal.invariant-loop-place
invariant-loop-place g l = FailBetween (is_free_pivot g.S.Side.PIVOT l.prefix (value_on l.trail.placed)) l.lits l.from
    l.place
