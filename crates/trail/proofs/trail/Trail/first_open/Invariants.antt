use Rattle.std.proofs.Common.{◌+◌, ◌-◌, ◌≤◌, length}
use Rattle.trail.specs.Open.{AreAssignedBefore}
use Rattle.trail.proofs.trail.Trail.first_open.Given as goal

abbrev pub invariant-loop-scope : goal.invariant-loop-scope
invariant-loop-scope l = (1 ≤ l.scope) × AreAssignedBefore l.prefix l.self.placed l.scope

abbrev pub decreases-loop-scope : goal.decreases-loop-scope
decreases-loop-scope l = length l.prefix + 1 - l.scope
