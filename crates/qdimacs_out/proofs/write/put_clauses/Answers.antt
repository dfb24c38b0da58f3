use Rattle.std.proofs.Common.{◌≤◌, suc, length, ap, sym, ◌∙◌, arith}
use Rattle.qdimacs_out.specs.Pieces.{clause_text}
use Rattle.blocks.proofs.Putting.{nothing, each_more, each_stops}
use Rattle.qdimacs_out.proofs.write.put_clauses.Goals as goal

pub loop-clause-init : goal.loop-clause-init
loop-clause-init g c =
    nothing g.S.Sink.written g.S.Sink.flushed g.S.Sink.faults g.S.Sink.has_room c.args.sink.now
    c.args.block.now

pub loop-clause-preserved : goal.loop-clause-preserved
loop-clause-preserved g c =
    let below : suc c.loop-clause.clause-index ≤ length c.args.clauses.now = omega arith in
    each_more g.S.Sink.written g.S.Sink.flushed g.S.Sink.faults g.S.Sink.has_room clause_text c.args.clauses.now
    c.loop-clause.clause-index c.clause-item.result
    c.args.sink.now c.args.block.now c.loop-clause.sink c.loop-clause.block c.put_clause.new.sink
    c.put_clause.new.block (clause_text c.lits.result.now) below
    (ap clause_text (sym c.clause-item.is ∙ sym c.lits.ensures)) c.loop-clause.invariant c.in_ok-put_clause.ensures

pub returns-in_err-put_clause : goal.returns-in_err-put_clause
returns-in_err-put_clause g c =
    let below : suc c.loop-clause.clause-index ≤ length c.args.clauses.now = omega arith in
    each_stops g.S.Sink.written g.S.Sink.flushed g.S.Sink.faults g.S.Sink.has_room clause_text c.args.clauses.now
    c.loop-clause.clause-index c.clause-item.result
    c.args.sink.now c.args.block.now c.loop-clause.sink c.loop-clause.block c.put_clause.new.sink c.put_clause.new.block
    (clause_text c.lits.result.now) _ c.from_residual.result below
    (ap clause_text (sym c.clause-item.is ∙ sym c.lits.ensures)) c.loop-clause.invariant c.in_err-put_clause.ensures
    c.from_residual.ensures.1
