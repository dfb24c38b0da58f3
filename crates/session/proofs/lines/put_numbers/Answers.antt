use Rattle.std.proofs.Common.{◌≤◌, suc, get_or, length, refl, arith}
use Rattle.blocks.proofs.Putting.{each_more, each_stops, nothing}
use Rattle.qrp_trace.specs.Texts.{number_word}
use Rattle.session.proofs.lines.put_numbers.Goals as goal

pub loop-number-init : goal.loop-number-init
loop-number-init g c = nothing g.S.Sink.written g.S.Sink.flushed g.S.Sink.faults g.S.Sink.has_room c.args.sink.now
    c.args.block.now

pub loop-number-preserved : goal.loop-number-preserved
loop-number-preserved g c =
    let xs = c.args.numbers.now in
    let i = c.loop-number.number-index in
    let below : suc i ≤ length xs = omega arith in
    each_more g.S.Sink.written g.S.Sink.flushed g.S.Sink.faults g.S.Sink.has_room number_word xs i 0 c.args.sink.now
    c.args.block.now c.loop-number.sink c.loop-number.block c.put_number.new.sink c.put_number.new.block
    (number_word (get_or xs i 0)) below refl c.loop-number.invariant c.in_ok-put_number.ensures

pub returns-in_err-put_number : goal.returns-in_err-put_number
returns-in_err-put_number g c =
    let xs = c.args.numbers.now in
    let i = c.loop-number.number-index in
    let below : suc i ≤ length xs = omega arith in
    each_stops g.S.Sink.written g.S.Sink.flushed g.S.Sink.faults g.S.Sink.has_room number_word xs i 0 c.args.sink.now
    c.args.block.now c.loop-number.sink c.loop-number.block c.put_number.new.sink c.put_number.new.block
    (number_word (get_or xs i 0)) _ c.from_residual.result below refl c.loop-number.invariant
    c.in_err-put_number.ensures c.from_residual.ensures.1
