use Rattle.std.proofs.Common.{◌+◌, ◌-◌, ◌≤◌}
use Rattle.step_core.proofs.Marking.{AreMarked}
use Rattle.step_core.proofs.marks.needed_for.Given as goal

abbrev pub invariant-loop-distance : goal.invariant-loop-distance
invariant-loop-distance l = AreMarked l.derivation l.end l.distance l.marks.items × (l.distance ≤ l.end + 1)

abbrev pub decreases-loop-distance : goal.decreases-loop-distance
decreases-loop-distance l = l.end + 1 - l.distance
