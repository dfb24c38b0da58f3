use Rattle.std.proofs.Common.{◌≡◌, ◌≤◌, false, drop, length}
use Rattle.std.specs.List.{list_any}
use Rattle.calculus.specs.Rows.{depth_of}
use Rattle.clean.specs.Staying.{is_as_deep}
use Rattle.clean.proofs.reach.reaches.Given as goal

abbrev pub invariant-loop-i : goal.invariant-loop-i
invariant-loop-i g l = record {
  within : l.i ≤ length l.lits;
  shallow : list_any (is_as_deep g.S.Side.PIVOT l.prefix l.v (depth_of l.prefix l.v)) (drop l.i l.lits) ≡ false;
}

abbrev pub decreases-loop-i : goal.decreases-loop-i
decreases-loop-i g l = l.i
