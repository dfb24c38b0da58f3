use Rattle.std.proofs.Common.{ap, ◌∙◌}
use Rattle.std.proofs.lemmas.Result.{err_from_is_err_and}
use Rattle.steps.specs.Counter.{Counter}
use Rattle.cores.proofs.Keeping.{stops_on}
use Rattle.cores.proofs.trial.refuted.Goals as goal

pub returns-in_err-outcome-clause-stop : goal.returns-in_err-outcome-clause-stop
returns-in_err-outcome-clause-stop c =
    let question = c.args.question.now in
    let h = err_from_is_err_and c.from_residual.result c.from_residual.ensures.1 in
    rw (h.1, h.2) (stops_on question.restarts question.budget question.prefix.now c.args.matrix.now
    question.assumptions.now c.args.search.now.derivation c.solve.new.steps c.in_err-outcome.field-0.0
    c.requires.matrix (c.solve.ensures.budget ∙ ap (λ (n : Counter). n.budget) c.new-steps.ensures)
    (rw c.new-steps.ensures at c.in_err-outcome.ensures.stop))

pub returns-clause-decides : goal.returns-clause-decides
returns-clause-decides c =
    c.refutation_of.ensures c.args.question.now.prefix.now c.args.matrix.now c.args.question.now.assumptions.now
    c.solve.new.self.derivation c.in_ok-outcome.ensures.outcome
