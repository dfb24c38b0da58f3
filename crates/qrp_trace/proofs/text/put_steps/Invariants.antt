use Rattle.std.proofs.Common.{take, length}
use Rattle.std.specs.List.{flat_map, range_with_len}
use Rattle.qrp_trace.specs.Texts.{step_line}
use Rattle.blocks.specs.Held.{PassesOn}
use Rattle.qrp_trace.proofs.text.put_steps.Given as goal

abbrev pub invariant-loop-i : goal.invariant-loop-i
invariant-loop-i g l =
    PassesOn g.S.Sink.written g.S.Sink.flushed g.S.Sink.faults g.S.Sink.has_room l.initial.sink l.initial.block l.sink
    l.block
    (flat_map (step_line l.core.lines) (take l.i (range_with_len 1 (length l.core.lines))))
