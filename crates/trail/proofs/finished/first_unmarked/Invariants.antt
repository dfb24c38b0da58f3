use Rattle.std.proofs.Common.{◌-◌, ◌≤◌}
use Rattle.trail.specs.Finished.{AreIn}
use Rattle.trail.proofs.finished.first_unmarked.Given as goal

abbrev pub invariant-loop-place : goal.invariant-loop-place
invariant-loop-place l = (l.from ≤ l.place) × (l.place ≤ l.to) × AreIn l.marks l.from l.place

abbrev pub decreases-loop-place : goal.decreases-loop-place
decreases-loop-place l = l.to - l.place
