use Rattle.std.proofs.Common.{take}
use Rattle.std.specs.List.{flat_map}
use Rattle.qdimacs_out.specs.Pieces.{clause_text}
use Rattle.blocks.specs.Held.{PassesOn}
use Rattle.qdimacs_out.proofs.lent.put_more.Given as goal

abbrev pub invariant-loop-part : goal.invariant-loop-part
invariant-loop-part g l =
    PassesOn g.S.Sink.written g.S.Sink.flushed g.S.Sink.faults g.S.Sink.has_room l.initial.sink l.initial.block l.sink
    l.block
    (flat_map (λ part. flat_map clause_text part.now) (take l.part-index l.more))
