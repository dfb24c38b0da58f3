use Rattle.std.proofs.Common.{subst, sym}
use Rattle.derive.specs.State.{arena_of}
use Rattle.watch.specs.State.{GoesOnHolding}
use Rattle.search.specs.Watching.{watch_at}
use Rattle.search.specs.declared.watching.Watches.{Watches}
use Rattle.search.proofs.watching.Watches.detach.Goals as goal

pub returns-in-Exists-clause-holds : goal.returns-in-Exists-clause-holds
returns-in-Exists-clause-holds c =
    let new : Watches = record c.args.self.now { clauses = c.detach_from.new.watch } in
    subst (λ q. GoesOnHolding q (watch_at q c.args.self.now) (arena_of c.args.derivation.now) (watch_at q new)
    (arena_of c.detach_from.new.derivation)) (sym c.in-Exists.is) c.detach_from.ensures.holds

pub returns-in-Forall-clause-holds : goal.returns-in-Forall-clause-holds
returns-in-Forall-clause-holds c =
    let new : Watches = record c.args.self.now { cubes = c.detach_from-in-Forall.new.watch } in
    subst (λ q. GoesOnHolding q (watch_at q c.args.self.now) (arena_of c.args.derivation.now) (watch_at q new)
    (arena_of c.detach_from-in-Forall.new.derivation)) (sym c.in-Forall.is) c.detach_from-in-Forall.ensures.holds
