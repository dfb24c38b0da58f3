use Rattle.std.proofs.Common.{◌≤◌, ◌+◌, IfSome, ap, subst, ◌∙◌}
use Rattle.search.specs.Counting.{size_of}
use Rattle.engine.specs.State.{EngineState, VerdictState}
use Rattle.engine.proofs.Changing.{long_told}
use Rattle.engine.proofs.engine.Engine.kept_long.Goals as goal

pub returns-clause-value : goal.returns-clause-value
returns-clause-value c = c.kept_long.ensures.long ∙ ap (λ (e : EngineState). e.kept_long) c.self.view_is

pub returns-clause-few : goal.returns-clause-few
returns-clause-few c =
    subst (λ (e : EngineState). IfSome e.verdict
    (λ (v : VerdictState). c.kept_long.result ≤ v.kept + 1 + size_of e.formula.scopes)) c.self.view_is
    (long_told c.self.inside.verdict c.self.inside.search.derivation c.kept_long.result
    (size_of c.self.inside.frames.formula.scopes) c.kept_long.ensures.value c.self.invariant.long)
