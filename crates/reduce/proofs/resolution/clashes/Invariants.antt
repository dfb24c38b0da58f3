use Rattle.std.proofs.Common.{◌≡◌, ◌≤◌, ◌+◌, ◌-◌, length, drop}
use Rattle.prefix.specs.Scopes.{IsAscending}
use Rattle.calculus.specs.Rows.{clashes, variables_in}
use Rattle.reduce.proofs.resolution.clashes.Given as goal

abbrev pub invariant-loop-i : goal.invariant-loop-i
invariant-loop-i l = record {
  in_a : l.i ≤ length l.a;
  in_b : l.j ≤ length l.b;
  up_a : IsAscending (variables_in (drop l.i l.a));
  up_b : IsAscending (variables_in (drop l.j l.b));
  told : clashes (drop l.i l.a) (drop l.j l.b) l.pivot ≡ clashes l.a l.b l.pivot;
}

abbrev pub decreases-loop-i : goal.decreases-loop-i
decreases-loop-i l = (length l.a - l.i) + (length l.b - l.j)
