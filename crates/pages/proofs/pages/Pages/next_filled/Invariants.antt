use Rattle.std.proofs.Common.{◌≡◌, ◌+◌, ◌-◌, ◌*◌, ◌<◌, ◌≤◌, ℕ, length, slice_index_or}
use Rattle.pages.specs.Paging.{joined}
use Rattle.pages.proofs.pages.Pages.next_filled.Given as goal

abbrev pub invariant-loop-page : goal.invariant-loop-page
invariant-loop-page g l = (l.start < 64) × (l.fn.from ≤ 64 * l.page + l.start)
    × ((i : ℕ) → l.fn.from ≤ i → i < 64 * l.page + l.start
    → slice_index_or (joined l.self-inside.pages.items) i g.T.Blank.blank ≡ g.T.Blank.blank)

abbrev pub decreases-loop-page : goal.decreases-loop-page
decreases-loop-page g l = length l.self-inside.pages.items - l.page
