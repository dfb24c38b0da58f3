use Rattle.std.proofs.Common.{◌-◌}
use Rattle.derive.proofs.Assumed.{IsBetween}
use Rattle.derive.proofs.removal.is_assumed.Given as goal

abbrev pub invariant-loop-low : goal.invariant-loop-low
invariant-loop-low l = IsBetween l.assumptions l.v l.low l.high

abbrev pub decreases-loop-low : goal.decreases-loop-low
decreases-loop-low l = l.high - l.low
