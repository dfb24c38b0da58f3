use Rattle.std.proofs.Common.{◌-◌}
use Rattle.search.specs.Moves.{Propagates}
use Rattle.search.specs.State.{IsSearching, SearchState}
use Rattle.search.specs.Watching.{KeepsRows, holding}
use Rattle.search.proofs.propagating.propagate_in.Given as goal

abbrev pub invariant-units : goal.invariant-units
invariant-units l = record {
  held : (s : SearchState) → IsSearching l.prefix (holding s l.fn.watches l.fn.trail l.fn.rows)
      → Propagates l.prefix (holding s l.fn.watches l.fn.trail l.fn.rows) (holding s l.watches l.trail l.rows)
      l.fn.steps l.steps;
  same : KeepsRows l.fn.rows l.rows;
}

abbrev pub decreases-units : goal.decreases-units
decreases-units l = l.steps.budget - l.steps.spent
