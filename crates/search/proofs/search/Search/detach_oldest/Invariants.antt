use Rattle.std.proofs.Common.{◌-◌, length}
use Rattle.search.proofs.Thinning.{HasThinned}
use Rattle.search.proofs.search.Search.detach_oldest.Given as goal

abbrev pub invariant-loop-self : goal.invariant-loop-self
invariant-loop-self l = HasThinned l.prefix l.fn.self l.self l.k l.most

abbrev pub decreases-loop-self : goal.decreases-loop-self
decreases-loop-self l = length l.fn.self.watched - l.k
