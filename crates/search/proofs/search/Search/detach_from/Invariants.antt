use Rattle.search.specs.Leaving.{Goes, Reaches}
use Rattle.search.proofs.Shedding.{HasShed}
use Rattle.search.proofs.search.Search.detach_from.Given as goal

abbrev pub invariant-loop-id : goal.invariant-loop-id
invariant-loop-id l =
    let d = l.initial.self.derivation in
    HasShed (Goes l.leaving d) (Reaches l.leaving d) l.initial.self l.self l.initial.id l.id
