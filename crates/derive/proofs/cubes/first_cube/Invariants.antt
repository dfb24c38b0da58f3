use Rattle.std.proofs.Common.{take}
use Rattle.derive.specs.Roots.{is_root}
use Rattle.derive.proofs.Missed.{NoneHolds}
use Rattle.derive.proofs.cubes.first_cube.Given as goal

abbrev pub invariant-loop-id : goal.invariant-loop-id
invariant-loop-id l = NoneHolds (is_root l.roots l.rows) l.notes (take l.id-index l.cubes) l.first
