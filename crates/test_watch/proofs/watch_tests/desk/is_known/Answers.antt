use Rattle.std.proofs.Common.{sym, ap, ◌∙◌, arith}
use Rattle.prefix.specs.Scopes.{all_variables, is_among}
use Rattle.calculus.proofs.Lists.{among_at}
use Rattle.test_watch.proofs.Desks.{room_all, room_more, room_none}
use Rattle.test_watch.proofs.watch_tests.desk.is_known.Goals as goal

pub loop-lit-init : goal.loop-lit-init
loop-lit-init c = room_none c.args.prefix.now c.args.room

pub loop-lit-preserved : goal.loop-lit-preserved
loop-lit-preserved c =
    let all = all_variables c.args.prefix.now in
    room_more c.args.prefix.now c.args.room c.args.lits.now c.loop-lit.lit-index c.lit-item.result c.loop-lit.invariant
    c.loop-lit-test.true c.lit-item.is
    (among_at all c.lit-item.result.variable (ap (λ x. is_among x all) (sym c.var.ensures)
    ∙ (sym c.level.ensures.found ∙ c.if-is_none.ensures)))
    (omega (arith, c.number.ensures.value, c.var-in-loop-lit.ensures, c.if-number-room.false))

pub returns : goal.returns
returns c = λ t. room_all c.args.prefix.now c.args.room c.args.lits.now c.loop-lit.lit-index c.loop-lit-test.false
    c.loop-lit.invariant
