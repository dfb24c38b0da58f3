use Rattle.std.proofs.Common.{◌++◌, codes}
use Rattle.std.specs.List.{flat_map}
use Rattle.blocks.proofs.Putting.{part_more, part_then, puts_err, puts_then}
use Rattle.step_core.specs.Cores.{core_rows, row_numbered, step_numbered}
use Rattle.qrp_trace.specs.Texts.{antecedents_of, literal_word, number_word}
use Rattle.qrp_trace.proofs.text.put_step.Goals as goal

pub returns-in_err-put_number : goal.returns-in_err-put_number
returns-in_err-put_number g c =
    puts_err g.S.Sink.written g.S.Sink.flushed g.S.Sink.faults g.S.Sink.has_room _ c.from_residual.result
    c.args.sink.now c.args.block.now c.put_number.new.sink c.put_number.new.block _ c.from_residual.ensures.1
    (part_more g.S.Sink.written g.S.Sink.flushed g.S.Sink.faults g.S.Sink.has_room c.args.sink.now c.args.block.now
    c.put_number.new.sink c.put_number.new.block (number_word c.args.i)
    ((flat_map literal_word (row_numbered (core_rows c.args.core.now.lines) c.args.i))
    ++ (codes "0 " ++ (flat_map number_word (antecedents_of (step_numbered c.args.core.now.lines c.args.i))
    ++ codes "0\n"))) c.in_err-put_number.ensures)

pub returns-in_err-put_literals : goal.returns-in_err-put_literals
returns-in_err-put_literals g c =
    puts_err g.S.Sink.written g.S.Sink.flushed g.S.Sink.faults g.S.Sink.has_room _
    c.from_residual-in_err-put_literals.result c.args.sink.now c.args.block.now c.put_literals.new.sink
    c.put_literals.new.block _
    c.from_residual-in_err-put_literals.ensures.1
    (part_then g.S.Sink.written g.S.Sink.flushed g.S.Sink.faults g.S.Sink.has_room c.args.sink.now c.args.block.now
    c.put_number.new.sink c.put_number.new.block c.put_literals.new.sink c.put_literals.new.block (number_word c.args.i)
    ((flat_map literal_word (row_numbered (core_rows c.args.core.now.lines) c.args.i))
    ++ (codes "0 " ++ (flat_map number_word (antecedents_of (step_numbered c.args.core.now.lines c.args.i))
    ++ codes "0\n"))) c.in_ok-put_number.ensures
    (part_more g.S.Sink.written g.S.Sink.flushed g.S.Sink.faults g.S.Sink.has_room c.put_number.new.sink
    c.put_number.new.block
    c.put_literals.new.sink c.put_literals.new.block (flat_map literal_word (row_numbered (core_rows
    c.args.core.now.lines) c.args.i))
    (codes "0 " ++ (flat_map number_word (antecedents_of (step_numbered c.args.core.now.lines c.args.i))
    ++ codes "0\n")) (rw c.lits.ensures at c.in_err-put_literals.ensures)))

pub returns : goal.returns
returns g c =
    puts_then g.S.Sink.written g.S.Sink.flushed g.S.Sink.faults g.S.Sink.has_room c.put_line.result c.args.sink.now
    c.args.block.now
    c.put_number.new.sink c.put_number.new.block c.put_line.new.sink c.put_line.new.self (number_word c.args.i)
    ((flat_map literal_word (row_numbered (core_rows c.args.core.now.lines) c.args.i))
    ++ (codes "0 " ++ (flat_map number_word (antecedents_of (step_numbered c.args.core.now.lines c.args.i))
    ++ codes "0\n"))) c.in_ok-put_number.ensures
    (puts_then g.S.Sink.written g.S.Sink.flushed g.S.Sink.faults g.S.Sink.has_room c.put_line.result
    c.put_number.new.sink c.put_number.new.block c.put_literals.new.sink c.put_literals.new.block c.put_line.new.sink
    c.put_line.new.self
    (flat_map literal_word (row_numbered (core_rows c.args.core.now.lines) c.args.i))
    (codes "0 " ++ (flat_map number_word (antecedents_of (step_numbered c.args.core.now.lines c.args.i))
    ++ codes "0\n"))
    (rw c.lits.ensures at c.in_ok-put_literals.ensures)
    (rw (c.antecedents.ensures, c.step.ensures.value) at c.put_line.ensures))
