use Rattle.std.proofs.Common.{take}
use Rattle.std.specs.List.{flat_map}
use Rattle.qdimacs_out.specs.Pieces.{clause_text}
use Rattle.blocks.specs.Held.{PassesOn}
use Rattle.qdimacs_out.proofs.write.put_clauses.Given as goal

abbrev pub invariant-loop-clause : goal.invariant-loop-clause
invariant-loop-clause g l =
    PassesOn g.S.Sink.written g.S.Sink.flushed g.S.Sink.faults g.S.Sink.has_room l.initial.sink l.initial.block l.sink
    l.block
    (flat_map clause_text (take l.clause-index l.clauses))
