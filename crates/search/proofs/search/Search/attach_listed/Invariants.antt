use Rattle.search.proofs.Listing.{HasJoined}
use Rattle.search.proofs.search.Search.attach_listed.Given as goal

abbrev pub invariant-loop-k : goal.invariant-loop-k
invariant-loop-k l = HasJoined l.prefix l.initial.self l.self l.k
