use Rattle.std.proofs.Common.{◌≡◌, ◌≤◌, ◌+◌, ◌-◌, ◌++◌, length, drop}
use Rattle.calculus.specs.Rows.{resolve}
use Rattle.reduce.proofs.resolution.push_resolvent.Given as goal

abbrev pub invariant-loop-i : goal.invariant-loop-i
invariant-loop-i l = record {
  in_a : l.i ≤ length l.a;
  in_b : l.j ≤ length l.b;
  room : length l.out.items + ((length l.a - l.i) + (length l.b - l.j)) ≤ l.out.capacity;
  told : l.out.items ++ resolve (drop l.i l.a) (drop l.j l.b) l.pivot ≡ l.initial.out.items ++ resolve l.a l.b l.pivot;
}

abbrev pub decreases-loop-i : goal.decreases-loop-i
decreases-loop-i l = (length l.a - l.i) + (length l.b - l.j)
