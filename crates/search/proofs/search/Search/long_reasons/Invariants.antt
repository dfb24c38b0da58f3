use Rattle.std.proofs.Common.{◌≡◌, ◌≤◌, drop, length}
use Rattle.std.specs.Prelude.{count_by}
use Rattle.calculus.specs.Search.{Placed}
use Rattle.search.specs.Forgetting.{is_by_long}
use Rattle.search.proofs.search.Search.long_reasons.Given as goal

abbrev pub invariant-loop-place : goal.invariant-loop-place
invariant-loop-place l = record {
  same : l.self ≡ l.fn.self;
  within : l.place ≤ length l.fn.self.trail.placed;
  count : l.count ≡ count_by (λ (p : Placed). is_by_long l.fn.self.derivation p.cause)
      (drop l.place l.fn.self.trail.placed);
}

abbrev pub decreases-loop-place : goal.decreases-loop-place
decreases-loop-place l = l.place
