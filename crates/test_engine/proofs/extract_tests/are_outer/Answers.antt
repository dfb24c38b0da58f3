use Rattle.std.proofs.Common.{◌≡◌, Some, refl}
use Rattle.prefix.specs.Literal.{Literal}
use Rattle.prefix.specs.Scopes.{level_of}
use Rattle.fixtures.proofs.Looked.{each_more, each_whole}
use Rattle.test_engine.proofs.extract_tests.are_outer.Goals as goal

pub loop-lit-preserved : goal.loop-lit-preserved
loop-lit-preserved c =
    each_more (λ (l : Literal). level_of c.args.prefix.now l.variable ≡ Some 1) c.args.assumptions.now
    c.loop-lit.lit-index c.lit-item.result c.loop-lit-test.true c.lit-item.is
    (c.if-not-is_outer.ensures refl) c.loop-lit.invariant

pub returns : goal.returns
returns c e =
    each_whole (λ (l : Literal). level_of c.args.prefix.now l.variable ≡ Some 1) c.args.assumptions.now
    c.loop-lit.lit-index
    c.loop-lit-test.false c.loop-lit.invariant
