use Rattle.std.proofs.Common.{arith}
use Rattle.certcheck.specs.Tables.{entry_of}
use Rattle.certcheck.proofs.Named.{assumed_step}
use Rattle.certcheck.proofs.names.assumed_of.Goals as goal

pub loop-lit-preserved : goal.loop-lit-preserved
loop-lit-preserved c = λ w.
    assumed_step c.args.assumptions.now c.loop-lit.lit-index c.lit-item.result c.lit-item.result c.var.result
    c.is_positive.result
    (entry_of c.loop-lit.table.items w) (entry_of c.put_entry.new.table.items w) w
    (omega arith) c.lit-item.is c.var.ensures c.is_positive.ensures
    (c.loop-lit.invariant w) (c.in_ok-put_entry.ensures w)
