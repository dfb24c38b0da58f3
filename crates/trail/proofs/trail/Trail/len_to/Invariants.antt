use Rattle.trail.proofs.Tables.{IsCutLength}
use Rattle.trail.proofs.trail.Trail.len_to.Given as goal

abbrev pub invariant-loop-len : goal.invariant-loop-len
invariant-loop-len l = IsCutLength l.level l.self-inside.entries.items l.len

abbrev pub decreases-loop-len : goal.decreases-loop-len
decreases-loop-len l = l.len
