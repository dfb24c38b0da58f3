use Rattle.std.proofs.Common.{◌≡◌, ◌≤◌, ◌+◌, ◌-◌, ◌++◌, length, take, filter}
use Rattle.reduce.specs.Deepest.{stays_before}
use Rattle.reduce.proofs.reduction.push_staying.Given as goal

abbrev pub invariant-loop-lit : goal.invariant-loop-lit
invariant-loop-lit g l = record {
  items : l.out.items ≡ l.initial.out.items ++ filter (stays_before g.S.Side.PIVOT l.prefix l.deepest)
      (take l.lit-index l.lits);
  room : length l.out.items + (length l.lits - l.lit-index) ≤ l.out.capacity;
}
