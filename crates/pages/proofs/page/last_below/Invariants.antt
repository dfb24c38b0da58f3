use Rattle.std.proofs.Common.{◌≡◌, ◌<◌, ◌≤◌, ℕ, slice_index_or, length}
use Rattle.pages.proofs.page.last_below.Given as goal

abbrev pub invariant-loop-at : goal.invariant-loop-at
invariant-loop-at g l = (l.at ≤ l.fn.below) × (l.at ≤ length l.stored.items)
    × ((i : ℕ) → l.at ≤ i → i < l.fn.below → slice_index_or l.stored.items i g.T.Blank.blank ≡ g.T.Blank.blank)

abbrev pub decreases-loop-at : goal.decreases-loop-at
decreases-loop-at g l = l.at
