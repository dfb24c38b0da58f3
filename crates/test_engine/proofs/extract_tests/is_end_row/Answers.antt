use Rattle.std.proofs.Common.{refl}
use Rattle.prefix.specs.Literal.{Literal}
use Rattle.fixtures.proofs.Looked.{each_more, each_whole}
use Rattle.test_engine.proofs.Ending.{MayEnd}
use Rattle.test_engine.proofs.extract_tests.is_end_row.Goals as goal

pub loop-lit-preserved : goal.loop-lit-preserved
loop-lit-preserved c =
    each_more (λ (l : Literal). MayEnd c.args.side c.args.prefix.now c.args.assumptions.now l) c.args.row.now
    c.loop-lit.lit-index c.lit-item.result c.loop-lit-test.true c.lit-item.is
    (record { pivot = c.if-not-may_end.ensures.pivot refl; bad = c.if-not-may_end.ensures.bad refl })
    c.loop-lit.invariant

pub returns : goal.returns
returns c e =
    let all = each_whole (λ (l : Literal). MayEnd c.args.side c.args.prefix.now c.args.assumptions.now l) c.args.row.now
    c.loop-lit.lit-index c.loop-lit-test.false c.loop-lit.invariant in
    record { pivots = λ l i t. (all l i).pivot t; bad = λ l b i e. (all l i).bad b e }
