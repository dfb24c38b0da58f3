use Rattle.std.proofs.Common.{◌≡◌, ◌≤◌, length}
use Rattle.step_core.proofs.Numbering.{AreNumbers}
use Rattle.step_core.proofs.numbers.numbers_of.Given as goal

abbrev pub invariant-loop-left : goal.invariant-loop-left
invariant-loop-left l =
    (l.left ≤ length l.ids) × (length l.numbers.items ≡ l.len) × AreNumbers l.end l.ids l.left l.numbers.items

abbrev pub decreases-loop-left : goal.decreases-loop-left
decreases-loop-left l = l.left
