use Rattle.std.proofs.Common.{max, take, sym, subst, ap, ◌∙◌}
use Rattle.calculus.specs.Rows.{Row}
use Rattle.calculus.specs.Search.{decision_level_on}
use Rattle.analyse.specs.Levels.{IsLevelBelow}
use Rattle.clean.proofs.Picking.{one_more}
use Rattle.analyse.proofs.Leveling.{level_skip, level_takes}
use Rattle.analyse.proofs.level.level_before.Goals as goal

pub loop-lit-preserved-then-not-must_stay : goal.loop-lit-preserved-then-not-must_stay
loop-lit-preserved-then-not-must_stay g c =
    let row = c.args.row.now in
    let i = c.loop-lit.lit-index in
    subst (λ (r : Row). IsLevelBelow g.S.Side.PIVOT c.args.prefix.now c.args.trail.now.placed c.args.unit r
    c.loop-lit.level)
    (sym (one_more row i c.lit-item.result c.loop-lit-test.true c.lit-item.is))
    (level_skip g.S.Side.PIVOT c.args.prefix.now c.args.trail.now.placed c.args.unit
    (take i row) c.lit-item.result c.loop-lit.level (sym c.must_stay.ensures
    ∙ c.if-not-must_stay.true) c.loop-lit.invariant)

pub loop-lit-preserved : goal.loop-lit-preserved
loop-lit-preserved g c =
    let row = c.args.row.now in
    let i = c.loop-lit.lit-index in
    let trail = c.args.trail.now.placed in
    let level = c.max-level.ensures ∙ ap (λ n. max n c.loop-lit.level) (c.in-Some.ensures.some
    ∙ ap (decision_level_on trail) c.var.ensures) in
    let all = one_more row i c.lit-item.result c.loop-lit-test.true c.lit-item.is in
    rw (all, level) (level_takes g.S.Side.PIVOT c.args.prefix.now trail c.args.unit
    (take i row) c.lit-item.result c.loop-lit.level (sym c.must_stay.ensures
    ∙ c.if-not-must_stay.false) c.loop-lit.invariant)
