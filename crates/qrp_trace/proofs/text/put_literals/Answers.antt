use Rattle.std.proofs.Common.{◌≡◌, ◌≤◌, ◌+◌, ◌++◌, suc, take, drop, get_or, length, arith, ap, sym}
use Rattle.std.specs.List.{flat_map}
use Rattle.ports.proofs.Pieces.{flat_more, flat_split}
use Rattle.blocks.proofs.Putting.{nothing, part_more, part_then, puts_err, whole_then}
use Rattle.qrp_trace.specs.Texts.{literal_word}
use Rattle.qrp_trace.proofs.text.put_literals.Goals as goal

pub loop-lit-init : goal.loop-lit-init
loop-lit-init g c = nothing g.S.Sink.written g.S.Sink.flushed g.S.Sink.faults g.S.Sink.has_room c.args.sink.now
    c.args.block.now

pub loop-lit-preserved : goal.loop-lit-preserved
loop-lit-preserved g c =
    let xs = c.args.lits.now in
    let f = literal_word in
    let here : f (get_or xs c.loop-lit.lit-index c.lit-item.result) ≡ literal_word c.lit-item.result =
    ap literal_word (sym c.lit-item.is) in
    let below : suc c.loop-lit.lit-index ≤ length xs = (omega arith) in
    rw (flat_more f xs c.loop-lit.lit-index c.lit-item.result below, here)
    (whole_then g.S.Sink.written g.S.Sink.flushed g.S.Sink.faults g.S.Sink.has_room c.args.sink.now c.args.block.now
    c.loop-lit.sink c.loop-lit.block
    c.put_literal.new.sink c.put_literal.new.block (flat_map f (take c.loop-lit.lit-index xs))
    (literal_word c.lit-item.result) c.loop-lit.invariant c.in_ok-put_literal.ensures)

pub returns-in_err-put_literal : goal.returns-in_err-put_literal
returns-in_err-put_literal g c =
    let xs = c.args.lits.now in
    let f = literal_word in
    let here : f (get_or xs c.loop-lit.lit-index c.lit-item.result) ≡ literal_word c.lit-item.result =
    ap literal_word (sym c.lit-item.is) in
    let below : suc c.loop-lit.lit-index ≤ length xs = (omega arith) in
    rw (flat_split f xs c.loop-lit.lit-index c.lit-item.result below, here)
    (puts_err g.S.Sink.written g.S.Sink.flushed g.S.Sink.faults g.S.Sink.has_room _ c.from_residual.result
    c.args.sink.now c.args.block.now c.put_literal.new.sink c.put_literal.new.block _ c.from_residual.ensures.1
    (part_then g.S.Sink.written g.S.Sink.flushed g.S.Sink.faults g.S.Sink.has_room c.args.sink.now c.args.block.now
    c.loop-lit.sink c.loop-lit.block
    c.put_literal.new.sink c.put_literal.new.block (flat_map f (take c.loop-lit.lit-index xs))
    (literal_word c.lit-item.result ++ flat_map f (drop (c.loop-lit.lit-index + 1) xs)) c.loop-lit.invariant
    (part_more g.S.Sink.written g.S.Sink.flushed g.S.Sink.faults g.S.Sink.has_room c.loop-lit.sink c.loop-lit.block
    c.put_literal.new.sink c.put_literal.new.block (literal_word c.lit-item.result)
    (flat_map f (drop (c.loop-lit.lit-index + 1) xs)) c.in_err-put_literal.ensures)))
