use Rattle.std.proofs.Common.{ap, ◌∙◌}
use Rattle.derive.specs.State.{next_id}
use Rattle.engine.proofs.Bounding.{reductions_fit}
use Rattle.engine.proofs.tied.forget_outcome.Goals as goal

pub returns-clause-fit : goal.returns-clause-fit
returns-clause-fit c =
    reductions_fit c.drop_finish.new.self.derivation c.next_id-next.result
    (c.next_id-next.ensures.value ∙ ap next_id c.derivation.ensures) c.next_id-next.type_inv
