use Rattle.std.proofs.Common.{take}
use Rattle.std.specs.List.{flat_map}
use Rattle.blocks.specs.Held.{PassesOn}
use Rattle.blocks.specs.Lines.{line_text}
use Rattle.aiger_out.specs.Written.{section_lines}
use Rattle.aiger_out.proofs.write.put_lines.Given as goal

-- the lines up to this one are written
abbrev pub invariant-loop-place : goal.invariant-loop-place
invariant-loop-place g l =
    PassesOn g.S.Sink.written g.S.Sink.flushed g.S.Sink.faults g.S.Sink.has_room l.initial.sink l.initial.block l.sink
    l.block
    (flat_map line_text (take l.place (section_lines l.strategy l.section)))
