use Rattle.std.proofs.Common.{◌≤◌, suc, length, ap, sym, arith}
use Rattle.std.specs.List.{flat_map}
use Rattle.qdimacs_out.specs.Pieces.{clause_text}
use Rattle.blocks.proofs.Putting.{nothing, each_more, each_stops}
use Rattle.qdimacs_out.proofs.lent.put_more.Goals as goal

pub loop-part-init : goal.loop-part-init
loop-part-init g c =
    nothing g.S.Sink.written g.S.Sink.flushed g.S.Sink.faults g.S.Sink.has_room c.args.sink.now
    c.args.block.now

pub loop-part-preserved : goal.loop-part-preserved
loop-part-preserved g c =
    let below : suc c.loop-part.part-index ≤ length c.args.more.now = omega arith in
    each_more g.S.Sink.written g.S.Sink.flushed g.S.Sink.faults g.S.Sink.has_room
    (λ part. flat_map clause_text part.now) c.args.more.now
    c.loop-part.part-index c.part-item.result
    c.args.sink.now c.args.block.now c.loop-part.sink c.loop-part.block c.put_clauses.new.sink
    c.put_clauses.new.block (flat_map clause_text c.part-item.result.now) below
    (ap (λ part. flat_map clause_text part.now) (sym c.part-item.is)) c.loop-part.invariant c.in_ok-put_clauses.ensures

pub returns-in_err-put_clauses : goal.returns-in_err-put_clauses
returns-in_err-put_clauses g c =
    let below : suc c.loop-part.part-index ≤ length c.args.more.now = omega arith in
    each_stops g.S.Sink.written g.S.Sink.flushed g.S.Sink.faults g.S.Sink.has_room
    (λ part. flat_map clause_text part.now) c.args.more.now
    c.loop-part.part-index c.part-item.result
    c.args.sink.now c.args.block.now c.loop-part.sink c.loop-part.block c.put_clauses.new.sink c.put_clauses.new.block
    (flat_map clause_text c.part-item.result.now) _ c.from_residual.result below
    (ap (λ part. flat_map clause_text part.now) (sym c.part-item.is)) c.loop-part.invariant c.in_err-put_clauses.ensures
    c.from_residual.ensures.1
