use Rattle.calculus.specs.Search.{value_on}
use Rattle.watch.proofs.Choosing.{pair_from, unit_from}
use Rattle.watch.proofs.choice.choose_with.Goals as goal

pub returns-in-Some-clause-choice : goal.returns-in-Some-clause-choice
returns-in-Some-clause-choice g c = pair_from g.S.Side.PIVOT c.args.prefix.now (value_on c.args.trail.now.placed)
    c.args.lits.now c.args.pivot c.in-Some.other.lit c.requires.stands c.requires.free c.in-Some.ensures.0
    c.in-Some.ensures.1

pub returns-in-None-clause-choice : goal.returns-in-None-clause-choice
returns-in-None-clause-choice g c = unit_from g.S.Side.PIVOT c.args.prefix.now (value_on c.args.trail.now.placed)
    c.args.lits.now c.args.pivot c.requires.stands c.requires.free c.in_default.ensures
    c.in-None.ensures
