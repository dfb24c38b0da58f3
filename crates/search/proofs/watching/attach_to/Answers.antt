use Rattle.std.proofs.Common.{subst}
use Rattle.watch.specs.State.{IsRoomFor}
use Rattle.rows.specs.Arena.{literals_at}
use Rattle.search.proofs.Rows.{arena_taken, touches}
use Rattle.search.proofs.watching.attach_to.Goals as goal

pub attach_unless-requires-clause-known : goal.attach_unless-requires-clause-known
attach_unless-requires-clause-known g c =
    subst (λ a. IsRoomFor c.args.prefix.now c.args.watch.now.room (literals_at a c.args.id))
    (arena_taken c.args.derivation.now c.take_rows-rows.result c.take_rows-rows.ensures.rows) c.requires.known

pub returns-clause-touches : goal.returns-clause-touches
returns-clause-touches g c =
    touches c.args.derivation.now c.take_rows-rows.new.self c.put_rows.new.self c.take_rows-rows.result
    c.attach_unless.new.rows (record {
      handed = c.take_rows-rows.ensures.rows;
      out = c.take_rows-rows.ensures.state;
      back = c.put_rows.ensures.state;
      literals = c.attach_unless.ensures.attached.same_literals;
      same = c.put_rows.ensures.same;
      legal = c.put_rows.ensures.legal;
    })
    g.S.Side.PIVOT c.attach_unless.ensures.agrees
