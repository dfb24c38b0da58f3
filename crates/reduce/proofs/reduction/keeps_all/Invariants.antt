use Rattle.std.proofs.Common.{◌≡◌, ◌≤◌, false, drop, length}
use Rattle.std.specs.List.{list_any}
use Rattle.calculus.specs.Rows.{is_pivot}
use Rattle.reduce.specs.Deepest.{is_deeper}
use Rattle.reduce.proofs.reduction.keeps_all.Given as goal

abbrev pub invariant-loop-i : goal.invariant-loop-i
invariant-loop-i g l = record {
  within : l.i ≤ length l.lits;
  seen : list_any (is_pivot g.S.Side.PIVOT l.prefix) (drop l.i l.lits) ≡ l.has_pivot;
  shallow : list_any (is_deeper g.S.Side.PIVOT l.prefix l.depth) (drop l.i l.lits) ≡ false;
}

abbrev pub decreases-loop-i : goal.decreases-loop-i
decreases-loop-i g l = l.i
