use Rattle.std.proofs.Common.{ap, ◌∙◌}
use Rattle.steps.specs.Counter.{Counter}
use Rattle.search.specs.Counting.{size_of}
use Rattle.engine.specs.Counting.{with_solve}
use Rattle.qbf_c.proofs.Solving.{Leaves, solved_says, verdict_solves, within_budget}
use Rattle.qbf_c.proofs.asks.solve.Goals as goal

pub returns-in-Ok : goal.returns-in-Ok
returns-in-Ok c =
    let before = c.args.engine.now in
    let after = c.solve-answer.new.self in
    let v = c.in-Ok.verdict in
    let leaves : Leaves c.args.budget c.spent.result before after = record {
      within = within_budget c.args.budget c.spent.result c.new-steps.result c.solve-answer.new.steps
          c.new-steps.ensures c.solve-answer.ensures.budget c.spent.ensures.value c.spent.ensures.within;
      counts = c.solve-answer.ensures.counts ∙ ap (λ (s : Counter). with_solve s.budget before.restarts
          (size_of before.formula.scopes) before.counts) c.new-steps.ensures;
      restarts = c.solve-answer.ensures.restarts;
      kept_rows = c.solve-answer.ensures.kept_rows;
    } in
    solved_says c.args.budget c.spent.result c.decided.result before after v.truth
    (verdict_solves before after v c.in-Ok.ensures.truth c.in-Ok.ensures.proof c.in-Ok.ensures.emptied
    c.in-Ok.ensures.obeyed) leaves c.decided.ensures
