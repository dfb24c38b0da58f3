use Rattle.std.proofs.Common.{◌-◌, length}
use Rattle.std.proofs.lemmas.Bool.{false≢true}
use Rattle.watch.proofs.Keeping.{AreKept-calmed, AreKept-unwalked}
use Rattle.watch.proofs.board.cut.Goals as goal

pub returns-clause-held : goal.returns-clause-held
returns-clause-held g c = λ scopes h.
    record {
      kept = rw c.last_calm-n.ensures (AreKept-calmed g.S.Side.PIVOT scopes c.take_back.new.seen.items
          c.take_back.new.calm.items 0 0 c.take_back.new.first c.take_back.new.second c.take_back.new.rows
          (c.take_back.ensures.placed scopes (AreKept-unwalked g.S.Side.PIVOT scopes c.args.seen.now.items
          c.args.calm.now.items c.args.ones.now c.args.twos.now c.args.first.now c.args.second.now c.args.rows.now
          h.kept))
          (length c.take_back.new.calm.items - 1));
      walking = λ some. absurd (false≢true some);
    }
