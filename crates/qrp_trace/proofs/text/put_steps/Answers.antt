use Rattle.std.proofs.Common.{◌≡◌, ◌≤◌, ◌+◌, ◌++◌, suc, take, drop, get_or, length, arith, ap, ◌∙◌}
use Rattle.std.specs.List.{flat_map, range_with_len}
use Rattle.std.proofs.lemmas.List.{take_all}
use Rattle.ports.proofs.Pieces.{flat_more, flat_split}
use Rattle.blocks.proofs.Putting.{nothing, part_more, part_then, puts_err, whole_then}
use Rattle.qrp_trace.specs.Texts.{step_line}
use Rattle.qrp_trace.proofs.Scoping.{range_at, range_length}
use Rattle.qrp_trace.proofs.text.put_steps.Goals as goal

pub loop-i-init : goal.loop-i-init
loop-i-init g c = nothing g.S.Sink.written g.S.Sink.flushed g.S.Sink.faults g.S.Sink.has_room c.args.sink.now
    c.args.block.now

pub loop-i-preserved : goal.loop-i-preserved
loop-i-preserved g c =
    let xs = range_with_len 1 (length c.args.core.now.lines) in
    let f = step_line c.args.core.now.lines in
    let here : f (get_or xs c.loop-i.i 0) ≡ step_line c.args.core.now.lines (c.loop-i.i + 1) =
    ap (step_line c.args.core.now.lines) (range_at 1 (length c.args.core.now.lines) c.loop-i.i (omega arith)
    ∙ (let e : 1 + c.loop-i.i ≡ c.loop-i.i + 1 = omega arith in e)) in
    let below : suc c.loop-i.i ≤ length xs = rw (range_length 1 (length c.args.core.now.lines)) (omega arith) in
    rw (flat_more f xs c.loop-i.i 0 below, here)
    (whole_then g.S.Sink.written g.S.Sink.flushed g.S.Sink.faults g.S.Sink.has_room c.args.sink.now c.args.block.now
    c.loop-i.sink c.loop-i.block
    c.put_step.new.sink c.put_step.new.block (flat_map f (take c.loop-i.i xs))
    (step_line c.args.core.now.lines (c.loop-i.i + 1)) c.loop-i.invariant c.in_ok-put_step.ensures)

pub returns-in_err-put_step : goal.returns-in_err-put_step
returns-in_err-put_step g c =
    let xs = range_with_len 1 (length c.args.core.now.lines) in
    let f = step_line c.args.core.now.lines in
    let here : f (get_or xs c.loop-i.i 0) ≡ step_line c.args.core.now.lines (c.loop-i.i + 1) =
    ap (step_line c.args.core.now.lines) (range_at 1 (length c.args.core.now.lines) c.loop-i.i (omega arith)
    ∙ (let e : 1 + c.loop-i.i ≡ c.loop-i.i + 1 = omega arith in e)) in
    let below : suc c.loop-i.i ≤ length xs = rw (range_length 1 (length c.args.core.now.lines)) (omega arith) in
    rw (flat_split f xs c.loop-i.i 0 below, here)
    (puts_err g.S.Sink.written g.S.Sink.flushed g.S.Sink.faults g.S.Sink.has_room _ c.from_residual.result
    c.args.sink.now c.args.block.now c.put_step.new.sink c.put_step.new.block _ c.from_residual.ensures.1
    (part_then g.S.Sink.written g.S.Sink.flushed g.S.Sink.faults g.S.Sink.has_room c.args.sink.now c.args.block.now
    c.loop-i.sink c.loop-i.block
    c.put_step.new.sink c.put_step.new.block (flat_map f (take c.loop-i.i xs))
    (step_line c.args.core.now.lines (c.loop-i.i + 1) ++ flat_map f (drop (c.loop-i.i + 1) xs)) c.loop-i.invariant
    (part_more g.S.Sink.written g.S.Sink.flushed g.S.Sink.faults g.S.Sink.has_room c.loop-i.sink c.loop-i.block
    c.put_step.new.sink c.put_step.new.block
    (step_line c.args.core.now.lines (c.loop-i.i + 1))
    (flat_map f (drop (c.loop-i.i + 1) xs)) c.in_err-put_step.ensures)))

pub returns : goal.returns
returns g c =
    let xs = range_with_len 1 (length c.args.core.now.lines) in
    let whole : length xs ≤ c.loop-i.i = rw (range_length 1 (length c.args.core.now.lines)) (omega arith) in
    rw (take_all c.loop-i.i xs whole) at c.loop-i.invariant
