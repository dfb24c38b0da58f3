use Rattle.std.proofs.Common.{◌++◌}
use Rattle.std.specs.List.{flat_map}
use Rattle.qdimacs_out.specs.Pieces.{closing}
use Rattle.blocks.specs.Lines.{spaced}
use Rattle.qdimacs_out.specs.Texts.{literal_word}
use Rattle.qdimacs_out.proofs.Lines.{clause_is}
use Rattle.blocks.proofs.Putting.{part_more, puts_err, puts_then}
use Rattle.qdimacs_out.proofs.write.put_clause.Goals as goal

pub returns-in_err-put_literals : goal.returns-in_err-put_literals
returns-in_err-put_literals g c =
    let lits = flat_map (λ l. spaced (literal_word l)) c.args.lits.now in
    rw (clause_is c.args.lits.now)
    (puts_err g.S.Sink.written g.S.Sink.flushed g.S.Sink.faults g.S.Sink.has_room _ c.from_residual.result
    c.args.sink.now c.args.block.now c.put_literals.new.sink c.put_literals.new.block (lits ++ closing)
    c.from_residual.ensures.1
    (part_more g.S.Sink.written g.S.Sink.flushed g.S.Sink.faults g.S.Sink.has_room c.args.sink.now c.args.block.now
    c.put_literals.new.sink c.put_literals.new.block lits closing c.in_err-put_literals.ensures))

pub returns : goal.returns
returns g c =
    let lits = flat_map (λ l. spaced (literal_word l)) c.args.lits.now in
    rw (clause_is c.args.lits.now)
    (puts_then g.S.Sink.written g.S.Sink.flushed g.S.Sink.faults g.S.Sink.has_room c.put_end.result c.args.sink.now
    c.args.block.now
    c.put_literals.new.sink c.put_literals.new.block c.put_end.new.sink c.put_end.new.block lits closing
    c.in_ok-put_literals.ensures c.put_end.ensures)
