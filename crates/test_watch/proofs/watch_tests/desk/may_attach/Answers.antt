use Rattle.std.proofs.Common.{ℕ, List, subst}
use Rattle.prefix.specs.Literal.{Literal}
use Rattle.rows.specs.Arena.{literals_at}
use Rattle.watch.specs.State.{IsRoomFor}
use Rattle.test_watch.proofs.watch_tests.desk.may_attach.Goals as goal

pub returns-clause-known : goal.returns-clause-known
returns-clause-known g c t =
    let scopes = c.args.prefix.now in
    let R : ℕ → Type 0 = λ room. IsRoomFor scopes room (literals_at c.args.rows.now c.args.id) in
    let L : List Literal → Type 0 = λ row. IsRoomFor scopes c.room.result row in
    subst R c.room.ensures (subst L c.lits.ensures (c.is_known.ensures t))
