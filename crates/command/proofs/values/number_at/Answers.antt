use Rattle.command.proofs.ValueLemmas.{if_none, no_number, number_is, other_number}
use Rattle.command.proofs.values.number_at.Goals as goal

pub returns-in_err-get_str-clause-none : goal.returns-in_err-get_str-clause-none
returns-in_err-get_str-clause-none c = if_none c.from_residual.result _
    (no_number c.args.found.now c.args.id.now c.args.least c.args.most c.in_err-get_str.ensures)

pub returns-clause-some : goal.returns-clause-some
returns-clause-some c =
    number_is c.args.found.now c.args.id.now c.args.least c.args.most c.in_ok-get_str.field-0.now
    c.in_ok-get_str.ensures c.number_between.result c.number_between.ensures.some

pub returns-clause-none : goal.returns-clause-none
returns-clause-none c =
    other_number c.args.found.now c.args.id.now c.args.least c.args.most c.in_ok-get_str.field-0.now
    c.in_ok-get_str.ensures c.number_between.result c.number_between.ensures.none
