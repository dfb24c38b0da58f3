use Rattle.qdimacs_out.specs.Texts.{lent_text}
use Rattle.blocks.proofs.Putting.{cut_short, finished}
use Rattle.qdimacs_out.proofs.lent.put_lent.Goals as goal

pub returns-in_err-put_parts : goal.returns-in_err-put_parts
returns-in_err-put_parts g c =
    cut_short g.S.Sink.written g.S.Sink.flushed g.S.Sink.faults g.S.Sink.has_room _ c.from_residual.result
    c.args.sink.now c.new-block.result c.put_parts.new.sink
    (lent_text c.args.header c.args.prefix.now c.args.matrix.now) c.new-block.ensures
    c.from_residual.ensures.1
    c.in_err-put_parts.ensures

pub returns : goal.returns
returns g c =
    finished g.S.Sink.written g.S.Sink.flushed g.S.Sink.faults g.S.Sink.has_room c.finish.result c.args.sink.now
    c.new-block.result c.put_parts.new.sink c.put_parts.new.block c.finish.new.sink
    (lent_text c.args.header c.args.prefix.now c.args.matrix.now)
    c.new-block.ensures
    c.in_ok-put_parts.ensures c.finish.ensures
