use Rattle.rows.specs.Places.{AreDead}
use Rattle.rows.proofs.table.dead_behind.Given as goal

abbrev pub invariant-loop-at : goal.invariant-loop-at
invariant-loop-at l = AreDead l.slots.items l.start l.at
