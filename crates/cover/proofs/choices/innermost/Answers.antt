use Rattle.std.proofs.Common.{take, sym, subst, ◌∙◌}
use Rattle.std.proofs.lemmas.List.{take_all}
use Rattle.calculus.specs.Rows.{Row}
use Rattle.calculus.specs.Search.{value_on}
use Rattle.cover.specs.Choices.{IsInnermost}
use Rattle.cover.proofs.Choosing.{innermost_skip, innermost_takes, innermost_keeps, one_more}
use Rattle.cover.proofs.choices.innermost.Goals as goal

pub loop-lit-preserved-then-not-is_true_one : goal.loop-lit-preserved-then-not-is_true_one
loop-lit-preserved-then-not-is_true_one g c =
    let row = c.args.clause.now in
    let i = c.loop-lit.lit-index in
    let values = value_on c.args.trail.now.placed in
    subst (λ (r : Row). IsInnermost g.S.Side.PIVOT c.args.prefix.now values r c.loop-lit.innermost)
    (sym (one_more row i c.lit-item.result c.loop-lit-test.true c.lit-item.is))
    (innermost_skip g.S.Side.PIVOT c.args.table.now.items c.args.prefix.now values (take i row) c.lit-item.result
    c.loop-lit.innermost (sym c.is_true_one.ensures ∙ c.if-not-is_true_one.true) c.loop-lit.invariant)

pub loop-lit-preserved-then-not-is_better : goal.loop-lit-preserved-then-not-is_better
loop-lit-preserved-then-not-is_better g c =
    let row = c.args.clause.now in
    let i = c.loop-lit.lit-index in
    let values = value_on c.args.trail.now.placed in
    subst (λ (r : Row). IsInnermost g.S.Side.PIVOT c.args.prefix.now values r c.loop-lit.innermost)
    (sym (one_more row i c.lit-item.result c.loop-lit-test.true c.lit-item.is))
    (innermost_keeps g.S.Side.PIVOT c.args.table.now.items c.args.prefix.now values (take i row) c.lit-item.result
    c.loop-lit.innermost (sym c.is_better.ensures ∙ c.if-not-is_better.true) c.loop-lit.invariant)

pub loop-lit-preserved : goal.loop-lit-preserved
loop-lit-preserved g c =
    let row = c.args.clause.now in
    let i = c.loop-lit.lit-index in
    let values = value_on c.args.trail.now.placed in
    let all = one_more row i c.lit-item.result c.loop-lit-test.true c.lit-item.is in
    rw all (innermost_takes g.S.Side.PIVOT c.args.table.now.items c.args.prefix.now values (take i row)
    c.lit-item.result c.loop-lit.innermost (sym c.is_true_one.ensures ∙ c.if-not-is_true_one.false)
    (sym c.is_better.ensures ∙ c.if-not-is_better.false) c.loop-lit.invariant)

pub returns : goal.returns
returns g c =
    subst (λ (r : Row).
    IsInnermost g.S.Side.PIVOT c.args.prefix.now (value_on c.args.trail.now.placed) r c.loop-lit.innermost)
    (take_all c.loop-lit.lit-index c.args.clause.now c.loop-lit-test.false) c.loop-lit.invariant
