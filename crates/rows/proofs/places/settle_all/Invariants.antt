use Rattle.std.proofs.Common.{length}
use Rattle.rows.specs.Places.{AreMoving, KeepsParts}
use Rattle.rows.proofs.places.settle_all.Given as goal

abbrev pub invariant-loop-id : goal.invariant-loop-id
invariant-loop-id l = AreMoving (length l.lits.items) l.places l.id l.to
    × KeepsParts l.fn.lits.items l.fn.places l.lits.items l.places
