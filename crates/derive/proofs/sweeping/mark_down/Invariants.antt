use Rattle.std.proofs.Common.{◌≡◌, ℕ, List, length}
use Rattle.derive.specs.Sweeping.{AreMarked}
use Rattle.derive.proofs.sweeping.mark_down.Given as goal

abbrev pub invariant-loop-id : goal.invariant-loop-id
invariant-loop-id l =
    ((keep : List ℕ) → AreMarked keep l.notes l.fn.marks (length l.notes) → AreMarked keep l.notes l.marks l.above)
    × (length l.marks ≡ length l.fn.marks)

abbrev pub decreases-loop-id : goal.decreases-loop-id
decreases-loop-id l = l.above
