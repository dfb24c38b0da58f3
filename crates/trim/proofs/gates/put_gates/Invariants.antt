use Rattle.trim.specs.Marks.{Rebuilds}
use Rattle.trim.proofs.gates.put_gates.Given as goal

-- the gates so far
abbrev pub invariant-loop-place : goal.invariant-loop-place
invariant-loop-place l = Rebuilds l.s.aig l.marks l.place l.table.items l.aig
