use Rattle.std.proofs.Common.{sym, subst, ◌≤◌}
use Rattle.frames.specs.State.{literals_in}
use Rattle.solve.proofs.feed.feed.Goals as goal

pub feed_clauses-requires-clause-amount : goal.feed_clauses-requires-clause-amount
feed_clauses-requires-clause-amount c = subst (λ rows. literals_in rows ≤ 268435456) (sym c.clauses.ensures)
    c.requires.formed.amount
