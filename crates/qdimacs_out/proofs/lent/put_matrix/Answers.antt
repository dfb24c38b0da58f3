use Rattle.std.proofs.Common.{◌++◌, ap, ◌∙◌, subst, sym}
use Rattle.std.specs.List.{flat_map}
use Rattle.blocks.specs.Held.{Puts}
use Rattle.blocks.proofs.Putting.{part_more, puts_err, puts_then}
use Rattle.qdimacs_out.specs.Pieces.{clause_text}
use Rattle.qdimacs_out.proofs.Parted.{text_parted}
use Rattle.qdimacs_out.proofs.lent.put_matrix.Goals as goal

pub returns-in_err-put_clauses : goal.returns-in_err-put_clauses
returns-in_err-put_clauses g c =
    let parts = c.parts-parts.result in
    let first = flat_map clause_text parts.first.now in
    let rest = flat_map (λ part. flat_map clause_text part.now) parts.more.now in
    subst (λ t. Puts g.S.Sink.written g.S.Sink.flushed g.S.Sink.faults g.S.Sink.has_room c.args.sink.now
    c.args.block.now c.put_clauses.new.sink c.put_clauses.new.block t c.from_residual.result)
    (sym (ap (flat_map clause_text) c.parts-parts.ensures
    ∙ text_parted clause_text (λ part. part.now) parts.first.now parts.more.now))
    (puts_err g.S.Sink.written g.S.Sink.flushed g.S.Sink.faults g.S.Sink.has_room _ c.from_residual.result
    c.args.sink.now c.args.block.now c.put_clauses.new.sink c.put_clauses.new.block (first ++ rest)
    c.from_residual.ensures.1
    (part_more g.S.Sink.written g.S.Sink.flushed g.S.Sink.faults g.S.Sink.has_room c.args.sink.now c.args.block.now
    c.put_clauses.new.sink c.put_clauses.new.block first rest c.in_err-put_clauses.ensures))

pub returns : goal.returns
returns g c =
    let parts = c.parts-parts.result in
    let first = flat_map clause_text parts.first.now in
    let rest = flat_map (λ part. flat_map clause_text part.now) parts.more.now in
    subst (λ t. Puts g.S.Sink.written g.S.Sink.flushed g.S.Sink.faults g.S.Sink.has_room c.args.sink.now
    c.args.block.now c.put_more.new.sink c.put_more.new.block t c.put_more.result)
    (sym (ap (flat_map clause_text) c.parts-parts.ensures
    ∙ text_parted clause_text (λ part. part.now) parts.first.now parts.more.now))
    (puts_then g.S.Sink.written g.S.Sink.flushed g.S.Sink.faults g.S.Sink.has_room c.put_more.result
    c.args.sink.now c.args.block.now c.put_clauses.new.sink c.put_clauses.new.block c.put_more.new.sink
    c.put_more.new.block first rest c.in_ok-put_clauses.ensures c.put_more.ensures)
