-- A verdict with its circuit is a right answer.
use Rattle.std.proofs.Common.{◌≡◌, Ok, [], subst}
use Rattle.truth.specs.Truth.{truth_under}
use Rattle.calculus.specs.Plays.{DependsOnEarlier, Wins}
use Rattle.frames.specs.State.{OpenFormula, open_clauses}
use Rattle.aig.specs.declared.strategy.Strategy.{Strategy}
use Rattle.aig.specs.Strategies.{IsStrategy, values_of}
use Rattle.engine.specs.declared.verdict.Verdict.{Verdict}
use Rattle.engine.specs.Asks.{IfAnswered, IsCertificateOf}
use Rattle.engine.specs.State.{EngineState}
use Rattle.engine.specs.Verdicts.{HasProof, loser_of}
use Rattle.example_engine.specs.Answers.{IsRight}

module _ (formula : OpenFormula) (verdict : Verdict) (e : EngineState) (circuit : Strategy) where
  pub is_right : verdict.truth ≡ truth_under formula.assumptions formula.scopes (open_clauses formula)
      → HasProof formula verdict e.verdict → e.formula ≡ record formula { assumptions = [] } → IsStrategy circuit
      → IfAnswered e.verdict (Ok circuit) (IsCertificateOf e.formula)
      → IsRight formula (record { truth = verdict.truth; circuit = circuit })
  is_right truth has emptied strategy answered =
      let v = has.state in
      let some : IsCertificateOf e.formula v circuit = subst (λ o. IfAnswered o (Ok circuit)
      (IsCertificateOf e.formula)) has.there answered in
      let certificate : IsCertificateOf (record formula { assumptions = [] }) v circuit =
      subst (λ f. IsCertificateOf f v circuit) emptied some in
      record {
        truth = truth;
        wins = subst (λ b. Wins (loser_of b) formula.scopes (open_clauses formula) formula.assumptions
            (values_of circuit)) has.same_truth (subst (λ a. Wins (loser_of v.truth) formula.scopes
            (open_clauses formula) a (values_of circuit)) has.same_assumptions certificate.wins);
        earlier = subst (λ b. DependsOnEarlier (loser_of b) formula.scopes (values_of circuit)) has.same_truth
            certificate.earlier;
        circuit = strategy;
      }
