use Rattle.std.proofs.Common.{◌≡◌, length}
use Rattle.decide.proofs.keys.scale_scores.Given as goal

abbrev pub invariant-loop-i : goal.invariant-loop-i
invariant-loop-i l = length l.scores.items ≡ length l.fn.scores.items
