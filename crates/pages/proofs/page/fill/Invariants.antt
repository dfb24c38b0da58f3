use Rattle.std.proofs.Common.{◌≡◌, ◌≤◌, length, vec_capacity}
use Rattle.pages.specs.Paging.{page_of}
use Rattle.pages.proofs.page.fill.Given as goal

abbrev pub invariant-loop : goal.invariant-loop
invariant-loop g l = (l.stored.items ≡ page_of g.T.Blank.blank l.fn.stored.items l.counter)
    × (vec_capacity l.fn.stored ≤ vec_capacity l.stored) × (length l.stored.items ≡ l.counter)
