use Rattle.std.proofs.Common.{◌-◌}
use Rattle.derive.specs.Sweeping.{is_unmarked}
use Rattle.derive.proofs.Falling.{Passed}
use Rattle.derive.proofs.sweeping.drop_unmarked.Given as goal

abbrev pub invariant-loop-id : goal.invariant-loop-id
invariant-loop-id l = Passed (is_unmarked l.marks) l.fn.notes l.notes l.fn.rows l.rows l.id

abbrev pub decreases-loop-id : goal.decreases-loop-id
decreases-loop-id l = l.end - l.id
