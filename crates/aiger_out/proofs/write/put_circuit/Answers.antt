use Rattle.aiger_out.specs.Written.{written}
use Rattle.blocks.proofs.Putting.{cut_short, finished}
use Rattle.aiger_out.proofs.write.put_circuit.Goals as goal

pub returns-in_err-put_parts-clause-written : goal.returns-in_err-put_parts-clause-written
returns-in_err-put_parts-clause-written g c =
    cut_short g.S.Sink.written g.S.Sink.flushed g.S.Sink.faults g.S.Sink.has_room _ c.from_residual.result
    c.args.sink.now c.new-block.result c.put_parts.new.sink (written c.args.form c.args.strategy.now)
    c.new-block.ensures c.from_residual.ensures.1
    c.in_err-put_parts.ensures.written

pub returns-clause-written : goal.returns-clause-written
returns-clause-written g c =
    finished g.S.Sink.written g.S.Sink.flushed g.S.Sink.faults g.S.Sink.has_room c.finish.result c.args.sink.now
    c.new-block.result c.put_parts.new.sink c.put_parts.new.block c.finish.new.sink (written c.args.form
    c.args.strategy.now) c.new-block.ensures
    c.in_ok-put_parts.ensures.written c.finish.ensures
