use Rattle.std.proofs.Common.{ap, sym, subst}
use Rattle.derive.specs.State.{arena_of}
use Rattle.watch.specs.State.{GoesOnHolding}
use Rattle.search.proofs.Rows.{arena_taken, touches}
use Rattle.search.proofs.watching.detach_from.Goals as goal

pub returns-clause-touches : goal.returns-clause-touches
returns-clause-touches g c =
    touches c.args.derivation.now c.take_rows-rows.new.self c.put_rows.new.self c.take_rows-rows.result
    c.detach_if.new.rows (record {
      handed = c.take_rows-rows.ensures.rows;
      out = c.take_rows-rows.ensures.state;
      back = c.put_rows.ensures.state;
      literals = c.detach_if.ensures.same.same_literals;
      same = c.put_rows.ensures.same;
      legal = c.put_rows.ensures.legal;
    })
    g.S.Side.PIVOT c.detach_if.ensures.agrees

pub returns-clause-holds : goal.returns-clause-holds
returns-clause-holds g c =
    subst (λ a. GoesOnHolding g.S.Side.PIVOT c.args.watch.now
    (arena_of c.args.derivation.now) c.detach_if.new.watch a) (sym (ap arena_of c.put_rows.ensures.state))
    (subst (λ a. GoesOnHolding g.S.Side.PIVOT c.args.watch.now a c.detach_if.new.watch c.detach_if.new.rows)
    (sym (arena_taken c.args.derivation.now c.take_rows-rows.result c.take_rows-rows.ensures.rows))
    c.detach_if.ensures.holds)
