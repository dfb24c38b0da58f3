use Rattle.std.proofs.Common.{sym, ap, ◌∙◌}
use Rattle.qdimacs.proofs.Keeping.{with_none, with_some}
use Rattle.qdimacs.proofs.clause_rows.Clauses.end.Goals.{in-Some+in_ok-push, in_default}
use Rattle.qdimacs.proofs.clause_rows.Clauses.end.Goals as goal

pub returns-clause-rows : goal.returns-clause-rows
returns-clause-rows c = λ clause all is.
    let rows = c.args.self.now.rows.items in
    let made = c.in_ok-row.ensures clause all is in
    elim c.match-row.branch [
      | in-Some+in_ok-push w ↦ ap (λ s. s.rows.items) w.self-is ∙ w.in_ok-push.ensures.items
          ∙ with_some clause rows _ (sym w.in-Some.is ∙ made)
      | in_default w ↦ ap (λ s. s.rows.items) w.self-is ∙ with_none clause rows (sym w.in_default.is ∙ made)
    ]
