use Rattle.std.proofs.Common.{◌++◌}
use Rattle.files.specs.Jobs.{solution_line, value_lines}
use Rattle.blocks.proofs.Putting.{cut_short, finished}
use Rattle.files.proofs.file.write_result.Goals as goal

pub returns-in_err-put_result : goal.returns-in_err-put_result
returns-in_err-put_result g c terms f s truth holds header formula verdict is =
    cut_short g.S.Sink.written g.S.Sink.flushed g.S.Sink.faults g.S.Sink.has_room _ c.from_residual.result
    c.args.sink.now c.new-block.result c.put_result.new.sink
    (solution_line c.args.answer f ++ value_lines f.prefix truth s.witness.values) c.new-block.ensures
    c.from_residual.ensures.1 (c.in_err-put_result.ensures terms f s truth holds header formula verdict is)

pub returns : goal.returns
returns g c terms f s truth holds header formula verdict is =
    finished g.S.Sink.written g.S.Sink.flushed g.S.Sink.faults g.S.Sink.has_room c.finish.result c.args.sink.now
    c.new-block.result c.put_result.new.sink c.put_result.new.block c.finish.new.sink
    (solution_line c.args.answer f ++ value_lines f.prefix truth s.witness.values) c.new-block.ensures
    (c.in_ok-put_result.ensures terms f s truth holds header formula verdict is) c.finish.ensures
