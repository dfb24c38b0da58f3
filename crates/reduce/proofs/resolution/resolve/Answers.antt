use Rattle.reduce.proofs.Resolving.{resolve_ascending}
use Rattle.reduce.proofs.resolution.resolve.Goals as goal

pub returns-clause-ascending : goal.returns-clause-ascending
returns-clause-ascending c = λ up_a up_b none.
    rw c.push_resolvent.ensures
    (rw c.in_ok-reserve.ensures.items
    (rw c.clear.ensures.items (resolve_ascending c.args.a.now c.args.b.now c.args.pivot up_a up_b none)))
