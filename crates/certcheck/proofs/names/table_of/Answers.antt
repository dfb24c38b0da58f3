use Rattle.certcheck.specs.Check.{names}
use Rattle.certcheck.specs.Tables.{IsTableOf}
use Rattle.certcheck.proofs.Named.{table_small, whole_table}
use Rattle.certcheck.proofs.names.table_of.Goals as goal

pub returns-clause-table : goal.returns-clause-table
returns-clause-table c w =
    whole_table c.args.s.now c.new-table.result.items c.put_inputs.new.table.items c.put_outputs.new.table.items
    c.vars.result.now w c.new-table.ensures.items c.vars.ensures (c.in_ok-put_inputs.ensures w)
    (c.in_ok-put_outputs.ensures w)

pub returns-clause-small : goal.returns-clause-small
returns-clause-small c =
    let table : IsTableOf c.put_outputs.new.table.items (names c.args.s.now) = λ w.
    whole_table c.args.s.now c.new-table.result.items c.put_inputs.new.table.items c.put_outputs.new.table.items
    c.vars.result.now w c.new-table.ensures.items c.vars.ensures (c.in_ok-put_inputs.ensures w)
    (c.in_ok-put_outputs.ensures w) in
    table_small c.args.s.now c.put_outputs.new.table.items c.requires.strategy c.requires.small table
