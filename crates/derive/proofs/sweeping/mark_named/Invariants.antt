use Rattle.std.proofs.Common.{◌≡◌, length, take}
use Rattle.derive.specs.Sweeping.{MarksNamed}
use Rattle.derive.proofs.sweeping.mark_named.Given as goal

abbrev pub invariant-loop-id : goal.invariant-loop-id
invariant-loop-id l = MarksNamed (take l.id-index l.keep) l.fn.marks l.marks × (length l.marks ≡ length l.fn.marks)
