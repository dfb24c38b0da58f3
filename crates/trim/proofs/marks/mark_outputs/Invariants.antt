use Rattle.std.proofs.Common.{length, take}
use Rattle.trim.specs.Marks.{AreMarks}
use Rattle.trim.proofs.marks.mark_outputs.Given as goal

-- the outputs so far
abbrev pub invariant-loop-output : goal.invariant-loop-output
invariant-loop-output l = AreMarks l.s (take l.output-index l.s.outputs) (length l.s.aig.gates) l.marks.items
