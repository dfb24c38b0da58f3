use Rattle.std.proofs.Common.{take, sym, subst, refl}
use Rattle.std.proofs.lemmas.List.{take_all}
use Rattle.calculus.specs.Rows.{Row}
use Rattle.calculus.specs.Search.{IsPending, value_on}
use Rattle.clean.proofs.Picking.{one_more}
use Rattle.test_search.proofs.Boards.{pending_more}
use Rattle.test_search.proofs.analyse_tests.is_pending.Goals as goal

pub loop-lit-preserved : goal.loop-lit-preserved
loop-lit-preserved g c =
    let row = c.args.lits.now in
    let i = c.loop-lit.lit-index in
    let trail = c.args.trail.now.placed in
    subst (λ (r : Row). IsPending g.S.Side.PIVOT c.args.prefix.now (value_on trail) c.args.kept.now r)
    (sym (one_more row i c.lit-item.result c.loop-lit-test.true c.lit-item.is))
    (pending_more g.S.Side.PIVOT c.args.prefix.now trail c.args.kept.now
    (take i row) c.lit-item.result c.loop-lit.invariant (c.if-not-may_pend.ensures refl))

pub returns : goal.returns
returns g c e =
    subst (λ (r : Row). IsPending g.S.Side.PIVOT c.args.prefix.now
    (value_on c.args.trail.now.placed) c.args.kept.now r)
    (take_all c.loop-lit.lit-index c.args.lits.now c.loop-lit-test.false) c.loop-lit.invariant
