use Rattle.session.specs.Replies.{core_text}
use Rattle.blocks.proofs.Putting.{cut_short, finished}
use Rattle.session.proofs.lines.write_groups.Goals as goal

pub returns-in_err-put_groups : goal.returns-in_err-put_groups
returns-in_err-put_groups g c =
    cut_short g.S.Sink.written g.S.Sink.flushed g.S.Sink.faults g.S.Sink.has_room _ c.from_residual.result
    c.args.sink.now c.new-block.result c.put_groups.new.sink (core_text c.args.groups.now) c.new-block.ensures
    c.from_residual.ensures.1 c.in_err-put_groups.ensures

pub returns : goal.returns
returns g c =
    finished g.S.Sink.written g.S.Sink.flushed g.S.Sink.faults g.S.Sink.has_room c.finish.result c.args.sink.now
    c.new-block.result c.put_groups.new.sink c.put_groups.new.block c.finish.new.sink
    (core_text c.args.groups.now) c.new-block.ensures c.in_ok-put_groups.ensures c.finish.ensures
