use Rattle.std.proofs.Common.{◌≡◌, length}
use Rattle.trail.specs.State.{undone_to}
use Rattle.trail.proofs.trail.Trail.undo_to.Given as goal

abbrev pub invariant-loop-self : goal.invariant-loop-self
invariant-loop-self l = undone_to l.level l.self ≡ undone_to l.level l.fn.self

abbrev pub decreases-loop-self : goal.decreases-loop-self
decreases-loop-self l = length l.self.placed
