use Rattle.calculus.specs.Search.{value_on}
use Rattle.watch.specs.Pairs.{FailBetween, is_partner}
use Rattle.watch.proofs.choice.partner_between.Given as goal

abbrev pub invariant-loop-place : goal.invariant-loop-place
invariant-loop-place g l = FailBetween (is_partner g.S.Side.PIVOT l.prefix (value_on l.trail.placed) l.first) l.lits
    l.from l.place
