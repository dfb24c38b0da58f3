use Rattle.std.proofs.Common.{◌∙◌, Some, ap, option_map, sym}
use Rattle.engine.proofs.Looking.{sign, value_over}
use Rattle.engine.proofs.lookup.assumed_value.Goals as goal

pub returns-in-None : goal.returns-in-None
returns-in-None c = sym (value_over c.args.assumptions.now c.args.v ∙ ap (option_map sign)
    (sym c.literal_over.ensures ∙ c.in-None.is))

pub returns-in-Some : goal.returns-in-Some
returns-in-Some c = sym (value_over c.args.assumptions.now c.args.v
    ∙ ap (option_map sign) (sym c.literal_over.ensures ∙ c.in-Some.is)
    ∙ sym (ap Some c.is_positive.ensures))
