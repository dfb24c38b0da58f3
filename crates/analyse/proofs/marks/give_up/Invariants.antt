use Rattle.std.proofs.Common.{length}
use Rattle.analyse.proofs.marks.give_up.Given as goal

abbrev pub decreases-loop-last : goal.decreases-loop-last
decreases-loop-last l = length l.waiting.items
