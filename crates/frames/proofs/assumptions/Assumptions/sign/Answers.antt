use Rattle.std.proofs.Common.{ap, ◌∙◌}
use Rattle.truth.specs.Truth.{assumed_value}
use Rattle.frames.proofs.Assuming.{sign_found}
use Rattle.frames.proofs.assumptions.Assumptions.sign.Goals as goal

pub returns-in_err-get-clause-value : goal.returns-in_err-get-clause-value
returns-in_err-get-clause-value c =
    c.from_residual.ensures ∙ c.in_err-get.ensures.value ∙ sign_found c.self.inside.signs.entries c.args.v
    ∙ ap (λ ls. assumed_value ls c.args.v) c.self.view_is

pub returns-clause-value : goal.returns-clause-value
returns-clause-value c =
    c.in_ok-get.ensures.value ∙ sign_found c.self.inside.signs.entries c.args.v
    ∙ ap (λ ls. assumed_value ls c.args.v) c.self.view_is
