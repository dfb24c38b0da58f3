use Rattle.std.proofs.Common.{◌≡◌, arith, Option, IfSome, ap, sym, ◌∙◌, subst}
use Rattle.derive.specs.State.{IsLegalFor, State}
use Rattle.step_core.specs.Cores.{IsFinishAt, inferences_of, proof_at}
use Rattle.engine.proofs.Bounding.{proof_few}
use Rattle.engine.specs.declared.verdict.Held.{Held}
use Rattle.engine.specs.Kept.{IsHeld}
use Rattle.engine.proofs.engine.Engine.trace_core.Goals as goal

listed : (c : goal.In_ok-core-in-Some)
    → inferences_of c.in_ok-core-in-Some.field-0.lines
    ≡ proof_at c.self.inside.search.derivation c.in-Some.held.assumed c.in-Some.held.verdict.end
listed c =
    let f = c.self.inside.frames.formula in
    let d = c.self.inside.search.derivation in
    let held = c.in-Some.held in
    let is = subst (λ (v : Option Held). IfSome v (IsHeld f d)) c.in-Some.is c.self.invariant.held in
    let same : c.derivation.result.now ≡ d = c.derivation.ensures in
    c.in_ok-core-in-Some.ensures.list f.scopes held.assumed
    (subst (IsLegalFor f.scopes) (sym same) c.self.invariant.tied.resting.intact.legal)
    (subst (λ (s : State). IsFinishAt f.scopes held.assumed s held.verdict.end) (sym same) is.found.outcome.finish)
    ∙ ap (λ (s : State). proof_at s held.assumed held.verdict.end) same

pub returns-in_ok-core-in-Some-clause-list : goal.returns-in_ok-core-in-Some-clause-list
returns-in_ok-core-in-Some-clause-list c = rw (← c.self.view_is, c.in-Some.is) (listed c)

pub returns-in_ok-core-in-Some-clause-few : goal.returns-in_ok-core-in-Some-clause-few
returns-in_ok-core-in-Some-clause-few c =
    let held = c.in-Some.held in
    let few = proof_few c.self.inside.search.derivation held.assumed held.verdict.end in
    let most = c.self.invariant.reductions in
    rw (← c.self.view_is, listed c) (omega (arith, few, most))
