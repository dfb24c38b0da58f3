use Rattle.std.proofs.Common.{take}
use Rattle.std.specs.List.{flat_map}
use Rattle.qrp_trace.specs.Texts.{scope_line}
use Rattle.blocks.specs.Held.{PassesOn}
use Rattle.qrp_trace.proofs.text.put_scopes.Given as goal

abbrev pub invariant-loop-s : goal.invariant-loop-s
invariant-loop-s g l =
    PassesOn g.S.Sink.written g.S.Sink.flushed g.S.Sink.faults g.S.Sink.has_room l.initial.sink l.initial.block l.sink
    l.block
    (flat_map scope_line (take l.s l.prefix))
