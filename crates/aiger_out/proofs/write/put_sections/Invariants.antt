use Rattle.std.proofs.Common.{take}
use Rattle.std.specs.List.{flat_map}
use Rattle.blocks.specs.Held.{PassesOn}
use Rattle.aiger_out.specs.Written.{section_bytes, sections}
use Rattle.aiger_out.proofs.write.put_sections.Given as goal

-- the sections up to this one are written
abbrev pub invariant-loop-section : goal.invariant-loop-section
invariant-loop-section g l =
    PassesOn g.S.Sink.written g.S.Sink.flushed g.S.Sink.faults g.S.Sink.has_room l.initial.sink l.initial.block l.sink
    l.block
    (flat_map (section_bytes l.form l.strategy) (take l.section-index sections))
