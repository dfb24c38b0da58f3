use Rattle.std.proofs.Common.{ap, ◌++◌, ◌∙◌}
use Rattle.std.proofs.lemmas.Result.{on_ok_weaker}
use Rattle.extract.specs.Tables.{removals_at}
use Rattle.extract.proofs.Indexing.{line_removals}
use Rattle.extract.proofs.index.push_line.Goals as goal

pub returns-in_ok-mark_row-in-One-clause-pushed : goal.returns-in_ok-mark_row-in-One-clause-pushed
returns-in_ok-mark_row-in-One-clause-pushed c =
    on_ok_weaker c.push_removed.result
    (λ pushed x d. pushed x
    ∙ ap (λ rs. removals_at c.args.index.now.items x ++ rs)
    (line_removals c.args.pivot x c.args.i c.in-One.k c.args.core.now.lines d c.lits-row.result.now c.lits.result.now
    c.requires.within c.in-One.ensures.value c.lits-row.ensures c.lits.ensures))
    c.push_removed.ensures
