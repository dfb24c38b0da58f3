use Rattle.std.proofs.Common.{sym, arith}
use Rattle.calculus.specs.Search.{value_on}
use Rattle.watch.specs.Pairs.{is_partner}
use Rattle.watch.proofs.Choosing.{between_more}
use Rattle.watch.proofs.choice.partner_between.Goals as goal

pub loop-place-preserved : goal.loop-place-preserved
loop-place-preserved g c =
    let test = c.loop-place-test.true in
    let within = c.requires in
    between_more (is_partner g.S.Side.PIVOT c.args.prefix.now (value_on c.args.trail.now.placed) c.args.first)
    c.args.lits.now
    c.args.from c.loop-place.place c.index-lits-place.result (omega arith) c.index-lits-place.is
    (sym c.if-is_match.ensures) c.loop-place.invariant
