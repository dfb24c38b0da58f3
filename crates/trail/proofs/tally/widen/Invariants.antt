use Rattle.trail.proofs.Tallies.{AreCountedFrom}
use Rattle.trail.proofs.tally.widen.Given as goal

abbrev pub invariant-loop-entry : goal.invariant-loop-entry
invariant-loop-entry l = AreCountedFrom l.entries l.old l.scopes l.tallies.items l.entry-index
