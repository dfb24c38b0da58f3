use Rattle.std.proofs.Common.{take}
use Rattle.std.specs.List.{flat_map}
use Rattle.qrp_trace.specs.Texts.{number_word}
use Rattle.blocks.specs.Held.{PassesOn}
use Rattle.session.proofs.lines.put_numbers.Given as goal

abbrev pub invariant-loop-number : goal.invariant-loop-number
invariant-loop-number g l =
    PassesOn g.S.Sink.written g.S.Sink.flushed g.S.Sink.faults g.S.Sink.has_room l.initial.sink l.initial.block l.sink
    l.block
    (flat_map number_word (take l.number-index l.numbers))
