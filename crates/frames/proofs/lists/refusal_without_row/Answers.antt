use Rattle.std.proofs.Common.{sym, ◌∙◌}
use Rattle.clauses.specs.Clause.{is_tautology}
use Rattle.frames.proofs.Refusing.{within_all}
use Rattle.frames.proofs.lists.refusal_without_row.Goals as goal

pub returns-then-not-is_beyond : goal.returns-then-not-is_beyond
returns-then-not-is_beyond c =
    within_all c.args.total.now.clauses c.args.total.now.literals c.args.lits.now (is_tautology c.args.lits.now)
    (sym c.is_beyond.ensures ∙ c.if-not-is_beyond.true)
