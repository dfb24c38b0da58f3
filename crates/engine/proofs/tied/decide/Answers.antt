use Rattle.std.proofs.Common.{ap, ◌∙◌}
use Rattle.std.proofs.lemmas.Result.{err_from_is_err_and}
use Rattle.derive.specs.State.{next_id}
use Rattle.engine.proofs.Bounding.{reductions_fit}
use Rattle.engine.proofs.Framing.{tied_matrix}
use Rattle.engine.proofs.Telling.{finds, stops}
use Rattle.engine.proofs.tied.decide.Goals as goal

pub solve-found-requires-clause-matrix : goal.solve-found-requires-clause-matrix
solve-found-requires-clause-matrix c =
    rw c.requires.matrix (tied_matrix c.args.frames.now.formula c.args.search.now c.requires.tied)

pub returns-in_err-outcome-clause-stop : goal.returns-in_err-outcome-clause-stop
returns-in_err-outcome-clause-stop c =
    let h = err_from_is_err_and c.from_residual.result c.from_residual.ensures.1 in
    rw (h.1, h.2) (stops c.args.restarts c.args.frames.now.formula c.args.search.now c.args.steps.now
    c.solve-found.new.steps
    c.in_err-outcome.field-0.0 c.requires.tied
    (rw (← c.prefix.ensures.value, ← c.requires.assumed) c.in_err-outcome.ensures.stop))

pub returns-clause-found : goal.returns-clause-found
returns-clause-found c =
    finds c.args.frames.now.formula c.solve-found.new.self.derivation c.in_ok-outcome.outcome
    c.assumptions-assumptions.ensures.outer
    c.assumptions-assumptions.ensures.ascending
    (rw (← c.prefix.ensures.value, ← c.requires.assumed, ← c.requires.matrix)
    c.in_ok-outcome.ensures.outcome)
    c.truth_against.result c.truth_against.ensures

pub returns-in_err-outcome-clause-fit : goal.returns-in_err-outcome-clause-fit
returns-in_err-outcome-clause-fit c =
    reductions_fit c.solve-found.new.self.derivation c.next_id-next.result
    (c.next_id-next.ensures.value ∙ ap next_id c.derivation.ensures) c.next_id-next.type_inv

pub returns-clause-fit : goal.returns-clause-fit
returns-clause-fit c =
    reductions_fit c.solve-found.new.self.derivation c.next_id-next.result
    (c.next_id-next.ensures.value ∙ ap next_id c.derivation.ensures) c.next_id-next.type_inv
