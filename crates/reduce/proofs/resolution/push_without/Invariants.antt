use Rattle.std.proofs.Common.{◌≡◌, ◌≤◌, ◌+◌, ◌-◌, ◌++◌, length, take}
use Rattle.calculus.specs.Rows.{without}
use Rattle.reduce.proofs.resolution.push_without.Given as goal

abbrev pub invariant-loop-lit : goal.invariant-loop-lit
invariant-loop-lit l = record {
  items : l.out.items ≡ l.initial.out.items ++ without l.pivot (take l.lit-index l.lits);
  room : length l.out.items + (length l.lits - l.lit-index) ≤ l.out.capacity;
  capacity : l.out.capacity ≡ l.initial.out.capacity;
}
