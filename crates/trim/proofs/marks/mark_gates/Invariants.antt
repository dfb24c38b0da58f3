use Rattle.std.proofs.Common.{◌≤◌, length}
use Rattle.trim.specs.Marks.{AreMarks}
use Rattle.trim.proofs.marks.mark_gates.Given as goal

-- the gates from a place on
abbrev pub invariant-loop-left : goal.invariant-loop-left
invariant-loop-left l =
    record { marks : AreMarks l.s l.s.outputs l.left l.marks.items; within : l.left ≤ length l.s.aig.gates }

abbrev pub decreases-loop-left : goal.decreases-loop-left
decreases-loop-left l = l.left
