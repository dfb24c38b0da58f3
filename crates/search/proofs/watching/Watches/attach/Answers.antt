use Rattle.std.proofs.Common.{subst}
use Rattle.derive.specs.State.{row_of}
use Rattle.watch.specs.State.{IsRoomFor}
use Rattle.search.specs.Watching.{watch_at}
use Rattle.search.proofs.watching.Watches.attach.Goals as goal

pub attach_to-requires-clause-known : goal.attach_to-requires-clause-known
attach_to-requires-clause-known c =
    subst (λ q. IsRoomFor c.args.prefix.now (watch_at q c.args.self.now).room
    (row_of c.args.derivation.now c.args.id)) c.in-Exists.is c.requires.known

pub attach_to-requires-in-Forall-clause-known : goal.attach_to-requires-in-Forall-clause-known
attach_to-requires-in-Forall-clause-known c =
    subst (λ q. IsRoomFor c.args.prefix.now (watch_at q c.args.self.now).room
    (row_of c.args.derivation.now c.args.id)) c.in-Forall.is c.requires.known
