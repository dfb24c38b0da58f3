use Rattle.std.proofs.Common.{take}
use Rattle.std.specs.List.{flat_map}
use Rattle.blocks.specs.Lines.{spaced}
use Rattle.qdimacs_out.specs.Texts.{literal_word}
use Rattle.blocks.specs.Held.{PassesOn}
use Rattle.qdimacs_out.proofs.write.put_literals.Given as goal

abbrev pub invariant-loop-lit : goal.invariant-loop-lit
invariant-loop-lit g l =
    PassesOn g.S.Sink.written g.S.Sink.flushed g.S.Sink.faults g.S.Sink.has_room l.initial.sink l.initial.block l.sink
    l.block
    (flat_map (λ a. spaced (literal_word a)) (take l.lit-index l.lits))
