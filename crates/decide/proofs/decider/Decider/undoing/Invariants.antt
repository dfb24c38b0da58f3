use Rattle.std.proofs.Common.{◌≡◌, drop}
use Rattle.calculus.specs.Search.{literals_on}
use Rattle.decide.specs.Memory.{saved}
use Rattle.decide.proofs.decider.Decider.undoing.Given as goal

abbrev pub invariant-loop-place : goal.invariant-loop-place
invariant-loop-place l = saved (drop l.place (literals_on l.trail.placed)) l.self ≡ saved
    (drop l.keep (literals_on l.trail.placed)) l.fn.self
