use Rattle.session.specs.Replies.{relevant_text}
use Rattle.blocks.proofs.Putting.{cut_short, finished}
use Rattle.session.proofs.lines.write_relevant.Goals as goal

pub returns-in_err-put_relevant : goal.returns-in_err-put_relevant
returns-in_err-put_relevant g c =
    cut_short g.S.Sink.written g.S.Sink.flushed g.S.Sink.faults g.S.Sink.has_room _ c.from_residual.result
    c.args.sink.now c.new-block.result c.put_relevant.new.sink (relevant_text c.args.lits.now) c.new-block.ensures
    c.from_residual.ensures.1 c.in_err-put_relevant.ensures

pub returns : goal.returns
returns g c =
    finished g.S.Sink.written g.S.Sink.flushed g.S.Sink.faults g.S.Sink.has_room c.finish.result c.args.sink.now
    c.new-block.result c.put_relevant.new.sink c.put_relevant.new.block c.finish.new.sink
    (relevant_text c.args.lits.now) c.new-block.ensures c.in_ok-put_relevant.ensures c.finish.ensures
