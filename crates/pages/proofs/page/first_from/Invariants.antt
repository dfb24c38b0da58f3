use Rattle.std.proofs.Common.{◌≡◌, ◌<◌, ◌≤◌, ℕ, slice_index_or}
use Rattle.pages.proofs.page.first_from.Given as goal

abbrev pub invariant-loop-at : goal.invariant-loop-at
invariant-loop-at g l = (i : ℕ) → l.fn.from ≤ i → i < l.at
    → slice_index_or l.stored.items i g.T.Blank.blank ≡ g.T.Blank.blank
