use Rattle.std.proofs.Common.{◌-◌, ◌≤◌, length, take}
use Rattle.blocks.specs.Held.{PassesOn}
use Rattle.blocks.proofs.block.Block.put.Given as goal

-- a front of the bytes is put
abbrev pub invariant-loop-done : goal.invariant-loop-done
invariant-loop-done g l =
    record {
      within : l.done ≤ length l.bytes;
      passed : PassesOn g.S.Sink.written g.S.Sink.flushed g.S.Sink.faults g.S.Sink.has_room l.initial.sink
          l.initial.self l.sink l.self (take l.done l.bytes);
    }

abbrev pub decreases-loop-done : goal.decreases-loop-done
decreases-loop-done g l = length l.bytes - l.done
