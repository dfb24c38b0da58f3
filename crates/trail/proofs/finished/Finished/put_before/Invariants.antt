use Rattle.std.proofs.Common.{◌≡◌, ℕ, ◌-◌, ◌≤◌, length}
use Rattle.trail.specs.Finished.{is_in, AreIn}
use Rattle.trail.proofs.finished.Finished.put_before.Given as goal

abbrev pub invariant-loop-place : goal.invariant-loop-place
invariant-loop-place l = AreIn l.self 0 l.place × ((i : ℕ) → l.last ≤ i → is_in l.self i ≡ is_in l.fn.self i)
    × (length l.self ≡ length l.fn.self)

abbrev pub decreases-loop-place : goal.decreases-loop-place
decreases-loop-place l = l.last - l.place
