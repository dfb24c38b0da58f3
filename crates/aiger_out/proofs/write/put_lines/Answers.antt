use Rattle.std.proofs.Common.{◌≤◌, [], suc, length, sym, arith}
use Rattle.blocks.specs.Lines.{line_text}
use Rattle.aiger_out.specs.Written.{section_lines}
use Rattle.blocks.proofs.Putting.{nothing, each_more, each_stops}
use Rattle.aiger_out.proofs.write.put_lines.Goals as goal

pub loop-place-init : goal.loop-place-init
loop-place-init g c =
    nothing g.S.Sink.written g.S.Sink.flushed g.S.Sink.faults g.S.Sink.has_room c.args.sink.now
    c.args.block.now

pub loop-place-preserved : goal.loop-place-preserved
loop-place-preserved g c =
    let lines = section_lines c.args.strategy.now c.args.section in
    let below : suc c.loop-place.place ≤ length lines = omega (arith, c.len-place-end.ensures) in
    each_more g.S.Sink.written g.S.Sink.flushed g.S.Sink.faults g.S.Sink.has_room line_text lines c.loop-place.place []
    c.args.sink.now c.args.block.now c.loop-place.sink c.loop-place.block c.put_line.new.sink c.put_line.new.self
    c.line.result below
    (sym c.line.ensures) c.loop-place.invariant c.in_ok-put_line.ensures

pub returns-in_err-put_line : goal.returns-in_err-put_line
returns-in_err-put_line g c =
    let lines = section_lines c.args.strategy.now c.args.section in
    let below : suc c.loop-place.place ≤ length lines = omega (arith, c.len-place-end.ensures) in
    each_stops g.S.Sink.written g.S.Sink.flushed g.S.Sink.faults g.S.Sink.has_room line_text lines c.loop-place.place []
    c.args.sink.now c.args.block.now c.loop-place.sink c.loop-place.block c.put_line.new.sink c.put_line.new.self
    c.line.result _ c.from_residual.result below
    (sym c.line.ensures) c.loop-place.invariant c.in_err-put_line.ensures c.from_residual.ensures.1
