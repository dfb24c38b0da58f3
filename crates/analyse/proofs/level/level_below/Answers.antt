use Rattle.std.proofs.Common.{max, is_some, Contains, take, sym, subst, ap, ◌∙◌}
use Rattle.calculus.specs.Search.{decision_level_on, value_on}
use Rattle.std.proofs.lemmas.List.{take_all}
use Rattle.calculus.specs.Rows.{Row}
use Rattle.analyse.specs.Levels.{IsLevelBelow}
use Rattle.clean.proofs.Picking.{one_more}
use Rattle.analyse.proofs.Leveling.{level_skip, level_takes}
use Rattle.analyse.proofs.level.level_below.Goals as goal

pub loop-lit-preserved-then-not-must_stay : goal.loop-lit-preserved-then-not-must_stay
loop-lit-preserved-then-not-must_stay g c =
    let row = c.args.row.now in
    let i = c.loop-lit.lit-index in
    subst (λ (r : Row). IsLevelBelow g.S.Side.PIVOT c.args.prefix.now c.args.trail.now.placed c.args.unit r
    c.loop-lit.level)
    (sym (one_more row i c.lit-item.result c.loop-lit-test.true c.lit-item.is))
    (level_skip g.S.Side.PIVOT c.args.prefix.now c.args.trail.now.placed c.args.unit
    (take i row) c.lit-item.result c.loop-lit.level (sym c.must_stay.ensures
    ∙ c.if-not-must_stay.true) c.loop-lit.invariant)

pub loop-lit-preserved : goal.loop-lit-preserved
loop-lit-preserved g c =
    let row = c.args.row.now in
    let i = c.loop-lit.lit-index in
    let trail = c.args.trail.now.placed in
    let level = c.max-level.ensures ∙ ap (λ n. max n c.loop-lit.level) (c.level_of.ensures
    ∙ ap (decision_level_on trail) c.var.ensures) in
    let all = one_more row i c.lit-item.result c.loop-lit-test.true c.lit-item.is in
    rw (all, level) (level_takes g.S.Side.PIVOT c.args.prefix.now trail c.args.unit
    (take i row) c.lit-item.result c.loop-lit.level (sym c.must_stay.ensures
    ∙ c.if-not-must_stay.false) c.loop-lit.invariant)

pub level_of-requires : goal.level_of-requires
level_of-requires g c =
    let trail = c.args.trail.now.placed in
    let l = c.lit-item.result in
    let stands : Contains c.args.row.now l = (c.loop-lit.lit-index, c.loop-lit-test.true, sym c.lit-item.is) in
    ap (λ x. is_some (value_on trail x)) c.var.ensures
    ∙ c.requires l stands (sym c.must_stay.ensures ∙ c.if-not-must_stay.false)

pub returns : goal.returns
returns g c =
    subst (λ (r : Row). IsLevelBelow g.S.Side.PIVOT c.args.prefix.now c.args.trail.now.placed c.args.unit r
    c.loop-lit.level) (take_all c.loop-lit.lit-index c.args.row.now c.loop-lit-test.false) c.loop-lit.invariant
