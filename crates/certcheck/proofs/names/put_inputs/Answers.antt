use Rattle.std.proofs.Common.{◌+◌, ◌*◌, refl, arith}
use Rattle.certcheck.specs.Tables.{entry_of}
use Rattle.certcheck.proofs.Named.{input_step}
use Rattle.certcheck.proofs.names.put_inputs.Goals as goal

pub loop-i-preserved : goal.loop-i-preserved
loop-i-preserved c = λ w.
    input_step c.args.inputs.now c.loop-i.i c.index-inputs-i.result c.index-inputs-i.result (2 * (c.loop-i.i + 1))
    (entry_of c.args.table.now.items w)
    (entry_of c.loop-i.table.items w) (entry_of c.put_entry.new.table.items w) w (omega arith) c.index-inputs-i.is refl
    (c.loop-i.invariant w) (c.in_ok-put_entry.ensures w)
