use Rattle.std.proofs.Common.{◌≡◌, [], take}
use Rattle.certcheck.specs.Check.{units}
use Rattle.builder.specs.Building.{Adds}
use Rattle.certcheck.proofs.put.put_units.Given as goal

abbrev pub invariant-loop-i : goal.invariant-loop-i
invariant-loop-i l =
    record { adds : Adds l.initial.build l.build (units (take l.i l.ns)); empty : l.buffer.items ≡ [] }
