use Rattle.std.proofs.Common.{◌/◌, ◌%◌, ap, ◌∙◌}
use Rattle.generate.specs.Draws.{following, state_at}
use Rattle.generate.proofs.draws.Draws.draw.Goals as goal

pub returns-clause-state : goal.returns-clause-state
unfolding state_at
returns-clause-state c = ap following (c.from-product.ensures ∙ c.self.view_is)

pub returns-clause-value : goal.returns-clause-value
unfolding state_at
returns-clause-value c = ap (λ s. (following s / 65536) % c.args.below) (c.from-product.ensures ∙ c.self.view_is)
