-- The circuit of a verdict certifies it.
use Rattle.std.proofs.Common.{◌≡◌, ◌≤◌, arith, length, ℕ, Option, Some, None, refl, sym, ap, subst, ◌∙◌}
use Rattle.std.specs.Prelude.{IfSome, option_map}
use Rattle.prefix.specs.Literal.{Literal}
use Rattle.prefix.specs.Scopes.{variables_at}
use Rattle.calculus.specs.Limits.{weight_bound}
use Rattle.frames.specs.State.{OpenFormula}
use Rattle.aig.specs.Strategies.{values_of as circuit_values}
use Rattle.aig.specs.declared.strategy.Strategy.{Strategy}
use Rattle.engine.specs.Asks.{IsCertificateOf, first_values, values_of}
use Rattle.engine.specs.State.{EngineState, VerdictState}
use Rattle.solve.proofs.Gates.{weight_grows}
use Rattle.solve.specs.Certificates.{Certifies, gates_after}
use Rattle.engine.proofs.FirstScope.{literal_among}
use Rattle.solve.specs.Standing.{Standing}
use Rattle.solve.specs.Holding.{Holds, given_of}
use Rattle.solve.specs.Terms.{Terms}

-- the circuit of a verdict certifies it: the first scope's outputs have the values of the play
circuit_certifies : (f : OpenFormula) (v : VerdictState) (strategy : Strategy) (bound : ℕ)
    → IsCertificateOf f v strategy → length strategy.aig.gates ≤ bound
    → Certifies f (given_of v) (first_values f v) bound strategy
circuit_certifies f v strategy bound is few = record {
  winner = is.winner;
  inputs = is.inputs;
  outputs = is.outputs;
  wins = is.wins;
  earlier = is.earlier;
  assumed = is.assumed;
  first_values = λ first l listed inputs.
      let place = literal_among (values_of f v) (variables_at f.scopes 1) l listed in
      ap (circuit_values strategy inputs) (sym (ap (λ (m : Literal). m.variable) place.2))
      ∙ is.first first place.0 place.1 inputs ∙ ap (λ (m : Literal). m.positive) place.2;
  few = few;
}

module _ (terms : Terms) (e : EngineState) (s : Standing) (holds : Holds terms e s) where
  abbrev bound : ℕ
  bound = gates_after terms s.script

  few_after : (gates : ℕ) → gates ≤ weight_bound e.counts.clauses e.counts.solves e.counts.budget e.counts.restarts
      e.counts.vars → gates ≤ bound
  few_after gates few =
      let solves : e.counts.solves ≤ s.script.solves = let same = holds.solves in omega (arith, same) in
      let most : e.counts.restarts ≤ terms.greatest = let low = holds.most_restarts in omega (arith, low) in
      let grown = weight_grows e.counts.clauses s.script.clauses e.counts.solves s.script.solves e.counts.budget
      terms.budget e.counts.restarts terms.greatest e.counts.vars s.script.greatest holds.clauses solves holds.budgets
      most holds.variables in
      omega (arith, few, grown)

  certifies_at : (strategy : Strategy) (v : VerdictState) → e.verdict ≡ Some v → IsCertificateOf e.formula v strategy
      → length strategy.aig.gates ≤ bound → Certifies s.script.formula (given_of v) s.witness.values bound strategy
  certifies_at strategy v some is few =
      subst (λ f. Certifies f (given_of v) s.witness.values bound strategy) (sym holds.formula)
      (subst (λ l. Certifies e.formula (given_of v) l bound strategy) (sym (holds.values v some))
      (circuit_certifies e.formula v strategy bound is few))

  -- the engine's circuit of a verdict certifies what the commands came to
  pub certifies_after : (strategy : Strategy) → IfSome e.verdict (λ v. IsCertificateOf e.formula v strategy)
      → length strategy.aig.gates ≤ weight_bound e.counts.clauses e.counts.solves e.counts.budget
      e.counts.restarts e.counts.vars
      → IfSome s.script.verdict (λ given. Certifies s.script.formula given s.witness.values bound strategy)
  certifies_after strategy certifies few =
      subst (λ o. IfSome o (λ given. Certifies s.script.formula given s.witness.values bound strategy))
      (sym holds.verdict) (by e.verdict refl)
    where
      by : (o : Option VerdictState) → e.verdict ≡ o → IfSome (option_map given_of o)
          (λ given. Certifies s.script.formula given s.witness.values bound strategy)
      by None none = tt
      by (Some v) some = certifies_at strategy v some
          (subst (λ o. IfSome o (λ v. IsCertificateOf e.formula v strategy)) some certifies)
          (few_after (length strategy.aig.gates) few)
