use Rattle.std.proofs.Common.{◌-◌, List, [], drop, length}
use Rattle.calculus.specs.Rows.{Row}
use Rattle.search.specs.State.{IsResting}
use Rattle.cores.specs.Trials.{IsTrying}
use Rattle.cores.proofs.choosing.put_groups.Given as goal

-- so many groups are in, the last ones
abbrev pub invariant-loop-left : goal.invariant-loop-left
invariant-loop-left l = record {
  resting : IsResting l.prefix l.search;
  groups : (others : List Row) → IsTrying l.prefix l.initial.search others []
      → IsTrying l.prefix l.search others (drop (length l.parts - l.left) l.parts);
}
