use Rattle.std.proofs.Common.{◌∙◌, sym}
use Rattle.test_engine.proofs.Ending.{assumed_here, assumed_next, assumed_past}
use Rattle.test_engine.proofs.extract_tests.assumed.Goals as goal

pub loop-lit-preserved : goal.loop-lit-preserved
loop-lit-preserved c =
    assumed_next c.args.assumptions.now c.args.v c.loop-lit.lit-index c.lit-item.result c.loop-lit-test.true
    c.lit-item.is
    (sym c.if-is_of_var.ensures)
    ∙ c.loop-lit.invariant

pub returns-then-is_of_var : goal.returns-then-is_of_var
returns-then-is_of_var c =
    rw c.is_positive.ensures
    (sym
    (sym c.loop-lit.invariant
    ∙ assumed_here c.args.assumptions.now c.args.v c.loop-lit.lit-index c.lit-item.result c.loop-lit-test.true
    c.lit-item.is
    (sym c.if-is_of_var.ensures)))

pub returns : goal.returns
returns c = sym (sym c.loop-lit.invariant
    ∙ assumed_past c.args.assumptions.now c.args.v c.loop-lit.lit-index c.loop-lit-test.false)
