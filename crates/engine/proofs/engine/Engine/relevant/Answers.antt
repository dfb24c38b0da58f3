use Rattle.std.proofs.Common.{subst, ◌∙◌, IfSome, Option}
use Rattle.engine.specs.declared.verdict.Held.{Held}
use Rattle.engine.specs.Kept.{IsHeld}
use Rattle.engine.proofs.Asking.{relevant_decide}
use Rattle.engine.proofs.engine.Engine.relevant.Goals as goal

pub returns-in-Some-clause-value : goal.returns-in-Some-clause-value
returns-in-Some-clause-value c =
    let f = c.self.inside.frames.formula in
    let d = c.self.inside.search.derivation in
    let held = subst (λ (v : Option Held). IfSome v (IsHeld f d)) c.in-Some.is c.self.invariant.held in
    rw (← c.self.view_is, c.in-Some.is) (c.lits.ensures ∙ held.relevant)

pub returns-in-Some-clause-decides : goal.returns-in-Some-clause-decides
returns-in-Some-clause-decides c =
    relevant_decide c.args.self.now.formula c.args.self.now.verdict c.lits.result.now
    c.prefix-valid.ensures.valid.distinct c.relevant_ones_decide.ensures c.verdict-facts.ensures.facts
    (returns-in-Some-clause-value c)
