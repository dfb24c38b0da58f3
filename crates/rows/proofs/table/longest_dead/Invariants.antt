use Rattle.rows.specs.Places.{AreDead}
use Rattle.rows.proofs.table.longest_dead.Given as goal

abbrev pub invariant-loop-at : goal.invariant-loop-at
invariant-loop-at l = AreDead l.slots.items l.start l.at × AreDead l.slots.items l.longest.start l.longest.end
