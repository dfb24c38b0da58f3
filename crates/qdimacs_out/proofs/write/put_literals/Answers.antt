use Rattle.std.proofs.Common.{◌≤◌, suc, length, ap, sym, ◌∙◌, arith}
use Rattle.blocks.specs.Lines.{spaced}
use Rattle.qdimacs_out.specs.Texts.{literal_word}
use Rattle.blocks.proofs.Putting.{nothing, each_more, each_stops}
use Rattle.qdimacs_out.proofs.write.put_literals.Goals as goal

pub loop-lit-init : goal.loop-lit-init
loop-lit-init g c =
    nothing g.S.Sink.written g.S.Sink.flushed g.S.Sink.faults g.S.Sink.has_room c.args.sink.now
    c.args.block.now

pub loop-lit-preserved : goal.loop-lit-preserved
loop-lit-preserved g c =
    let below : suc c.loop-lit.lit-index ≤ length c.args.lits.now = omega arith in
    each_more g.S.Sink.written g.S.Sink.flushed g.S.Sink.faults g.S.Sink.has_room
    (λ l. spaced (literal_word l)) c.args.lits.now c.loop-lit.lit-index c.lit-item.result
    c.args.sink.now c.args.block.now c.loop-lit.sink c.loop-lit.block c.put_line.new.sink c.put_line.new.self
    c.literal.result below
    (ap (λ l. spaced (literal_word l)) (sym c.lit-item.is)
    ∙ sym c.literal.ensures) c.loop-lit.invariant c.in_ok-put_line.ensures

pub returns-in_err-put_line : goal.returns-in_err-put_line
returns-in_err-put_line g c =
    let below : suc c.loop-lit.lit-index ≤ length c.args.lits.now = omega arith in
    each_stops g.S.Sink.written g.S.Sink.flushed g.S.Sink.faults g.S.Sink.has_room
    (λ l. spaced (literal_word l)) c.args.lits.now c.loop-lit.lit-index c.lit-item.result
    c.args.sink.now c.args.block.now c.loop-lit.sink c.loop-lit.block c.put_line.new.sink c.put_line.new.self
    c.literal.result _ c.from_residual.result below
    (ap (λ l. spaced (literal_word l)) (sym c.lit-item.is)
    ∙ sym c.literal.ensures) c.loop-lit.invariant c.in_err-put_line.ensures c.from_residual.ensures.1
