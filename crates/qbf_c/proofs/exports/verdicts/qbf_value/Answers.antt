use Rattle.std.proofs.Common.{◌≡◌, Bool, Some, IfSome, subst, ◌∙◌}
use Rattle.prefix.specs.Literal.{signed_number}
use Rattle.truth.specs.Truth.{assumed_value}
use Rattle.engine.specs.Asks.{Decides, first_values, values_of}
use Rattle.engine.specs.State.{EngineState}
use Rattle.qbf_c.proofs.exports.verdicts.qbf_value.Goals as goal

pub returns-clause-value : goal.returns-clause-value
returns-clause-value c live ok =
    subst (λ (e : EngineState). IfSome e.verdict (λ v. c.value-code.new.lit
    ≡ signed_number (record { variable = c.args.var; positive = values_of e.formula v c.args.var })))
    (c.deref.ensures ∙ c.in-Some.ensures.engine.1) (c.value-code.ensures.value ok)

pub returns-clause-decides : goal.returns-clause-decides
returns-clause-decides c live ok =
    subst (λ (e : EngineState). IfSome e.verdict (λ v. Decides e.formula v (first_values e.formula v)))
    (c.deref.ensures ∙ c.in-Some.ensures.engine.1) (c.value-code.ensures.decides ok)

pub returns-clause-assumed : goal.returns-clause-assumed
returns-clause-assumed c live ok =
    subst (λ (e : EngineState). IfSome e.verdict (λ v. (b : Bool) → assumed_value v.assumptions c.args.var ≡ Some b
    → c.value-code.new.lit ≡ signed_number (record { variable = c.args.var; positive = b })))
    (c.deref.ensures ∙ c.in-Some.ensures.engine.1) (c.value-code.ensures.assumed ok)
