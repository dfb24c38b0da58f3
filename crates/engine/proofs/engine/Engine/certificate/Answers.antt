use Rattle.std.proofs.Common.{◌≡◌, ◌≤◌, arith, List, Option, Some, IfSome, option_map, ap, sym, ◌∙◌, subst}
use Rattle.prefix.specs.Literal.{Literal}
use Rattle.prefix.specs.Scopes.{Scope}
use Rattle.calculus.specs.Verdicts.{IsProof}
use Rattle.frames.specs.State.{open_clauses}
use Rattle.step_core.specs.Cores.{inferences_of, loser_of}
use Rattle.search.specs.Counting.{size_of}
use Rattle.engine.specs.declared.verdict.Held.{Held}
use Rattle.engine.specs.Asks.{IsCertificateOf, IsVerdictOf}
use Rattle.engine.specs.Refusals.{winner_of}
use Rattle.engine.specs.State.{EngineState, VerdictState}
use Rattle.engine.specs.Verdicts.{told}
use Rattle.engine.proofs.Certifying.{IsExtractedFrom, certifies, core_proves}
use Rattle.engine.proofs.engine.Engine.certificate.Goals as goal

pub extract-requires-clause-proof : goal.extract-requires-clause-proof
extract-requires-clause-proof c =
    let f = c.args.self.now.formula in
    let v = told c.self.inside.search.derivation c.in-Some.held in
    let core = c.in_ok-core.core in
    let there : c.args.self.now.verdict ≡ Some v = sym (ap (λ (e : EngineState). e.verdict) c.self.view_is)
    ∙ ap (option_map (told c.self.inside.search.derivation)) c.in-Some.is in
    let winner = subst (λ (o : Option VerdictState). IfSome o (λ (w : VerdictState). core.winner ≡ winner_of w.truth))
    there c.in_ok-core.ensures.winner in
    let list = subst (λ (o : Option VerdictState). IfSome o (λ (w : VerdictState). inferences_of core.lines ≡ w.proof))
    there c.in_ok-core.ensures.list in
    let facts = subst (λ (o : Option VerdictState). IfSome o (IsVerdictOf f)) there c.in_ok-core.ensures.verdict in
    let scopes : c.prefix.result.now ≡ f.scopes = c.prefix.ensures.value
    ∙ ap (λ (e : EngineState). e.formula.scopes) c.self.view_is in (
      open_clauses f,
      subst (λ (ss : List Scope). IsProof (loser_of core) ss (open_clauses f) c.lits.result.now
          (inferences_of core.lines)) (sym scopes)
          (subst (λ (a : List Literal). IsProof (loser_of core) f.scopes (open_clauses f) a
          (inferences_of core.lines)) (sym c.lits.ensures) (core_proves f v core winner list facts)),
    )

pub returns-clause-certifies : goal.returns-clause-certifies
returns-clause-certifies c =
    let f = c.args.self.now.formula in
    let v = told c.self.inside.search.derivation c.in-Some.held in
    let core = c.in_ok-core.core in
    let s = c.in_ok-extract-in-Some.field-0 in
    let made = c.in_ok-extract-in-Some.ensures in
    let there : c.args.self.now.verdict ≡ Some v = sym (ap (λ (e : EngineState). e.verdict) c.self.view_is)
    ∙ ap (option_map (told c.self.inside.search.derivation)) c.in-Some.is in
    let winner = subst (λ (o : Option VerdictState). IfSome o (λ (w : VerdictState). core.winner ≡ winner_of w.truth))
    there c.in_ok-core.ensures.winner in
    let list = subst (λ (o : Option VerdictState). IfSome o (λ (w : VerdictState). inferences_of core.lines ≡ w.proof))
    there c.in_ok-core.ensures.list in
    let facts = subst (λ (o : Option VerdictState). IfSome o (IsVerdictOf f)) there c.in_ok-core.ensures.verdict in
    let scopes : c.prefix.result.now ≡ f.scopes = c.prefix.ensures.value
    ∙ ap (λ (e : EngineState). e.formula.scopes) c.self.view_is in
    let proof = subst (λ (ss : List Scope). IsProof (loser_of core) ss (open_clauses f) c.lits.result.now
    (inferences_of core.lines)) (sym scopes)
    (subst (λ (a : List Literal). IsProof (loser_of core) f.scopes (open_clauses f) a
    (inferences_of core.lines)) (sym c.lits.ensures) (core_proves f v core winner list facts)) in
    let here : IsExtractedFrom core c.prefix.result.now (open_clauses f) c.lits.result.now s = record {
      won = made.winner;
      inputs = made.inputs;
      outputs = made.outputs;
      keeps = made.keeps;
      follows = made.follows;
      wins = made.wins (open_clauses f) proof;
      earlier = made.earlier;
      assumed = made.assumed;
      size = made.size;
    } in
    let extracted = subst (λ (ss : List Scope). IsExtractedFrom core ss (open_clauses f) v.assumptions s) scopes
    (subst (λ (a : List Literal). IsExtractedFrom core c.prefix.result.now (open_clauses f) a s) c.lits.ensures
    here) in
    subst (λ (o : Option VerdictState). IfSome o (λ (w : VerdictState). IsCertificateOf f w s)) (sym there)
    (certifies f v core winner list facts s extracted c.prefix-valid.ensures.valid.distinct c.plays_exist.ensures
    c.plays_look_back.ensures)

pub returns-clause-few : goal.returns-clause-few
returns-clause-few c =
    let e = c.args.self.now in
    let f = e.formula in
    let v = told c.self.inside.search.derivation c.in-Some.held in
    let core = c.in_ok-core.core in
    let there : e.verdict ≡ Some v = sym (ap (λ (e : EngineState). e.verdict) c.self.view_is)
    ∙ ap (option_map (told c.self.inside.search.derivation)) c.in-Some.is in
    let winner = subst (λ (o : Option VerdictState). IfSome o (λ (w : VerdictState). core.winner ≡ winner_of w.truth))
    there c.in_ok-core.ensures.winner in
    let list = subst (λ (o : Option VerdictState). IfSome o (λ (w : VerdictState). inferences_of core.lines ≡ w.proof))
    there c.in_ok-core.ensures.list in
    let facts = subst (λ (o : Option VerdictState). IfSome o (IsVerdictOf f)) there c.in_ok-core.ensures.verdict in
    let variables = subst (λ (o : Option Held).
    IfSome o (λ _. size_of c.self.inside.frames.formula.scopes ≤ c.self.inside.counts.vars)) c.in-Some.is
    c.self.invariant.variables in
    let known = subst (λ (e : EngineState). size_of e.formula.scopes ≤ e.counts.vars) c.self.view_is variables in
    let weight = c.gates_are_bounded.ensures (loser_of core) f.scopes (open_clauses f) v.assumptions
    (inferences_of core.lines) e.counts.clauses e.counts.solves e.counts.budget e.counts.restarts e.counts.vars
    (core_proves f v core winner list facts) known c.in_ok-core.ensures.few in
    let size = c.in_ok-extract-in-Some.ensures.size in
    omega (arith, size, weight)
