use Rattle.std.proofs.Common.{take, ap, sym, subst, ◌∙◌}
use Rattle.std.proofs.lemmas.List.{take_all}
use Rattle.calculus.specs.Rows.{Row, depth_of}
use Rattle.calculus.specs.Search.{value_on}
use Rattle.clean.specs.Blockers.{IsOutermost}
use Rattle.clean.proofs.Picking.{outermost_skip, outermost_takes, outermost_keeps, one_more}
use Rattle.clean.proofs.blockers.outermost_free.Goals as goal

pub loop-lit-preserved-then-not-is_free : goal.loop-lit-preserved-then-not-is_free
loop-lit-preserved-then-not-is_free g c =
    let row = c.args.row.now in
    let i = c.loop-lit.lit-index in
    let values = value_on (take c.args.end c.args.trail.now.placed) in
    subst (λ (r : Row). IsOutermost g.S.Side.PIVOT c.args.prefix.now values r c.loop-lit.outermost)
    (sym (one_more row i c.lit-item.result c.loop-lit-test.true c.lit-item.is))
    (outermost_skip g.S.Side.PIVOT c.args.prefix.now values (take i row) c.lit-item.result c.loop-lit.outermost
    (sym c.is_free.ensures ∙ c.if-not-is_free.true) c.loop-lit.invariant)

pub loop-lit-preserved-then-not-is_smaller : goal.loop-lit-preserved-then-not-is_smaller
loop-lit-preserved-then-not-is_smaller g c =
    let row = c.args.row.now in
    let i = c.loop-lit.lit-index in
    let values = value_on (take c.args.end c.args.trail.now.placed) in
    subst (λ (r : Row). IsOutermost g.S.Side.PIVOT c.args.prefix.now values r c.loop-lit.outermost)
    (sym (one_more row i c.lit-item.result c.loop-lit-test.true c.lit-item.is))
    (outermost_keeps g.S.Side.PIVOT c.args.prefix.now values
    (take i row) c.lit-item.result c.loop-lit.outermost c.depth-depth.result (c.depth-depth.ensures.value
    ∙ ap (depth_of c.args.prefix.now) c.var.ensures) (sym c.is_smaller.ensures
    ∙ c.if-not-is_smaller.true) c.loop-lit.invariant)

pub loop-lit-preserved : goal.loop-lit-preserved
loop-lit-preserved g c =
    let row = c.args.row.now in
    let i = c.loop-lit.lit-index in
    let values = value_on (take c.args.end c.args.trail.now.placed) in
    let all = one_more row i c.lit-item.result c.loop-lit-test.true c.lit-item.is in
    rw all (outermost_takes g.S.Side.PIVOT c.args.prefix.now values
    (take i row) c.lit-item.result c.loop-lit.outermost c.depth-depth.result (c.depth-depth.ensures.value
    ∙ ap (depth_of c.args.prefix.now) c.var.ensures) (sym c.is_free.ensures ∙ c.if-not-is_free.false)
    (sym c.is_smaller.ensures ∙ c.if-not-is_smaller.false) c.loop-lit.invariant)

pub returns : goal.returns
returns g c =
    let values = value_on (take c.args.end c.args.trail.now.placed) in
    subst (λ (r : Row). IsOutermost g.S.Side.PIVOT c.args.prefix.now values r c.loop-lit.outermost)
    (take_all c.loop-lit.lit-index c.args.row.now c.loop-lit-test.false) c.loop-lit.invariant
