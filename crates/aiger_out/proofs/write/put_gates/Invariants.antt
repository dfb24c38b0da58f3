use Rattle.std.proofs.Common.{take}
use Rattle.blocks.specs.Held.{PassesOn}
use Rattle.aiger_out.specs.Binary.{joined}
use Rattle.aiger_out.specs.Written.{circuit_bytes}
use Rattle.aiger_out.proofs.write.put_gates.Given as goal

-- the gates up to this one are written
abbrev pub invariant-loop-place : goal.invariant-loop-place
invariant-loop-place g l =
    PassesOn g.S.Sink.written g.S.Sink.flushed g.S.Sink.faults g.S.Sink.has_room l.initial.sink l.initial.block l.sink
    l.block
    (joined (take l.place (circuit_bytes l.aig)))
