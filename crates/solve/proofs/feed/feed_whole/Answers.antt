use Rattle.std.proofs.Common.{sym, subst, ◌≤◌}
use Rattle.frames.specs.State.{literals_in}
use Rattle.solve.proofs.feed.feed_whole.Goals as goal

pub move_clauses-requires-clause-amount : goal.move_clauses-requires-clause-amount
move_clauses-requires-clause-amount c = subst (λ rows. literals_in rows ≤ 268435456) (sym c.into_vec.ensures)
    c.requires.formed.amount
