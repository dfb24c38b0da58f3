use Rattle.aiger_out.specs.Written.{header_text, sections_bytes}
use Rattle.blocks.proofs.Putting.{part_more, puts_err, puts_then}
use Rattle.aiger_out.proofs.write.put_parts.Goals as goal

pub returns-in_err-put_header-clause-written : goal.returns-in_err-put_header-clause-written
returns-in_err-put_header-clause-written g c =
    let header = header_text c.args.form c.args.strategy.now in
    let rest = sections_bytes c.args.form c.args.strategy.now in
    puts_err g.S.Sink.written g.S.Sink.flushed g.S.Sink.faults g.S.Sink.has_room _ c.from_residual.result
    c.args.sink.now c.args.block.now c.put_header.new.sink c.put_header.new.block _ c.from_residual.ensures.1
    (part_more g.S.Sink.written g.S.Sink.flushed g.S.Sink.faults g.S.Sink.has_room c.args.sink.now c.args.block.now
    c.put_header.new.sink c.put_header.new.block header rest c.in_err-put_header.ensures.written)

pub returns-clause-written : goal.returns-clause-written
returns-clause-written g c =
    let header = header_text c.args.form c.args.strategy.now in
    let rest = sections_bytes c.args.form c.args.strategy.now in
    puts_then g.S.Sink.written g.S.Sink.flushed g.S.Sink.faults g.S.Sink.has_room c.put_sections.result
    c.args.sink.now c.args.block.now c.put_header.new.sink c.put_header.new.block c.put_sections.new.sink
    c.put_sections.new.block header rest
    c.in_ok-put_header.ensures.written c.put_sections.ensures
