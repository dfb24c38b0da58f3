use Rattle.std.proofs.Common.{◌-◌}
use Rattle.derive.specs.Roots.{is_root}
use Rattle.derive.proofs.Falling.{Passed}
use Rattle.derive.proofs.dropping.drop_roots.Given as goal

abbrev pub invariant-loop-id : goal.invariant-loop-id
invariant-loop-id l = Passed (is_root l.roots l.fn.rows) l.fn.notes l.notes l.fn.rows l.rows l.id

abbrev pub decreases-loop-id : goal.decreases-loop-id
decreases-loop-id l = l.end - l.id
