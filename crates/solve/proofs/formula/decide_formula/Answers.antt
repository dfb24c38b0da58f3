use Rattle.std.proofs.Common.{◌^◌, ◌-◌, refl, subst, sym}
use Rattle.solve.specs.Feeding.{built}
use Rattle.solve.specs.Answers.{IsAnswerTo}
use Rattle.solve.specs.Terms.{terms_of}
use Rattle.solve.proofs.Answering.{decided, never_begun}
use Rattle.solve.proofs.formula.decide_formula.Goals as goal

pub returns : goal.returns
returns c =
    let f = c.args.f.now in
    let decision = c.in_ok-decision.decision in
    let is = c.in_ok-decision.ensures.ok (terms_of (2 ^ 64 - 1) 0 512) (built f) refl
    (never_begun (2 ^ 64 - 1) f c.in_ok-engine.engine c.in_ok-engine.ensures) in
    subst (IsAnswerTo (terms_of (2 ^ 64 - 1) 0 512) f) (sym c.answer.ensures)
    (decided c.no_assumptions.ensures (terms_of (2 ^ 64 - 1) 0 512) f decision c.decide.new.engine is).right
