use Rattle.std.proofs.Common.{◌≡◌, [], take}
use Rattle.certcheck.specs.Check.{falsified, units}
use Rattle.builder.specs.Building.{Adds}
use Rattle.certcheck.proofs.lost.put_missed.Given as goal

abbrev pub invariant-loop-i : goal.invariant-loop-i
invariant-loop-i l = record {
  adds : Adds l.initial.build l.build (falsified l.first (units (take l.i l.ns)));
  empty : l.buffer.items ≡ [];
}
