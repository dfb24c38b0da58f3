use Rattle.std.proofs.Common.{ap, arith, subst, sym, ◌∙◌}
use Rattle.derive.specs.State.{State}
use Rattle.engine.specs.State.{EngineState}
use Rattle.frames.specs.State.{open_clauses}
use Rattle.search.specs.Long.{long_in}
use Rattle.search.specs.Moves.{IsMatrix}
use Rattle.engine.proofs.Bounding.{finishes_few}
use Rattle.engine.proofs.Framing.{tied_matrix}
use Rattle.engine.proofs.engine.Engine.derivation.Goals as goal

pub returns-clause-clauses : goal.returns-clause-clauses
returns-clause-clauses c =
    subst (λ (e : EngineState). IsMatrix c.derivation.result.now (open_clauses e.formula)) c.self.view_is
    (subst (λ (d : State). IsMatrix d (open_clauses c.self.inside.frames.formula)) (sym c.derivation.ensures)
    (tied_matrix c.self.inside.frames.formula c.self.inside.search c.self.invariant.tied))

pub returns-clause-few : goal.returns-clause-few
returns-clause-few c =
    let d = c.self.inside.search.derivation in
    let few = c.self.invariant.reductions in
    let one = finishes_few c.self.inside.verdict d c.self.invariant.finishes in
    rw (← c.self.view_is, c.derivation.ensures) (omega (arith, few, one))

pub returns-clause-long : goal.returns-clause-long
returns-clause-long c =
    ap long_in c.derivation.ensures ∙ sym c.self.invariant.tied.resting.tallied
    ∙ ap (λ (e : EngineState). e.kept_long) c.self.view_is
