use Rattle.search.proofs.Entering.{HasJoinedTo}
use Rattle.search.proofs.search.Search.attach_from.Given as goal

abbrev pub invariant-loop-k : goal.invariant-loop-k
invariant-loop-k l = HasJoinedTo l.prefix l.fn.self l.self l.place l.k
