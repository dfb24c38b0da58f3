use Rattle.std.proofs.Common.{◌≡◌, length}
use Rattle.trail.proofs.trail.Trail.undo_all.Given as goal

abbrev pub invariant-loop-self : goal.invariant-loop-self
invariant-loop-self l = (l.self.assigned ≡ l.fn.self.assigned) × (l.self.restarts ≡ l.fn.self.restarts)
    × (l.self.room ≡ l.fn.self.room) × (length l.self.finished ≡ length l.fn.self.finished)

abbrev pub decreases-loop-self : goal.decreases-loop-self
decreases-loop-self l = length l.self.placed
