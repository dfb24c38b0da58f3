use Rattle.std.proofs.Common.{◌≡◌, ◌+◌, ◌-◌, ◌≤◌, ◌++◌, length}
use Rattle.step_core.proofs.Ordering.{picked}
use Rattle.step_core.proofs.order.push_part.Given as goal

abbrev pub invariant-loop-left : goal.invariant-loop-left
invariant-loop-left l =
    (l.left ≤ length l.marks) × (l.ids.items ≡ l.initial.ids.items
    ++ picked l.derivation l.end l.inputs (l.end + 1 - l.left))

abbrev pub decreases-loop-left : goal.decreases-loop-left
decreases-loop-left l = l.left
