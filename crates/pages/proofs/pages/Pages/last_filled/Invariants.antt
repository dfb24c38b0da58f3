use Rattle.std.proofs.Common.{◌≡◌, ◌+◌, ◌*◌, ◌<◌, ◌≤◌, ℕ, length, slice_index_or}
use Rattle.pages.specs.Paging.{joined}
use Rattle.pages.proofs.pages.Pages.last_filled.Given as goal

abbrev pub invariant-loop-page : goal.invariant-loop-page
invariant-loop-page g l = (l.page ≤ length l.self-inside.pages.items) × (64 * l.page ≤ l.fn.below + 64)
    × ((i : ℕ) → 64 * l.page ≤ i → i < l.fn.below
    → slice_index_or (joined l.self-inside.pages.items) i g.T.Blank.blank ≡ g.T.Blank.blank)

abbrev pub decreases-loop-page : goal.decreases-loop-page
decreases-loop-page g l = l.page
