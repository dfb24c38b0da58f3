-- The trace of a verdict is one of its proof.
use Rattle.std.proofs.Common.{◌≡◌, List, Option, Some, None, refl, sym, ap, subst, ◌∙◌}
use Rattle.std.specs.Prelude.{IfSome, option_map}
use Rattle.prefix.specs.Scopes.{Scope}
use Rattle.calculus.specs.Derivations.{core_order}
use Rattle.frames.specs.State.{OpenFormula}
use Rattle.derive.specs.State.{State}
use Rattle.step_core.specs.Cores.{IsNumbered, Trace, inferences_of, proof_at}
use Rattle.qrp_trace.specs.Texts.{qrp_text}
use Rattle.engine.specs.Refusals.{winner_of}
use Rattle.engine.specs.State.{EngineState, VerdictState}
use Rattle.solve.proofs.Ordered.{proof_ordered}
use Rattle.solve.specs.Traces.{IsTraceText}
use Rattle.solve.specs.Standing.{Standing}
use Rattle.solve.specs.Holding.{Holds, given_of}
use Rattle.solve.specs.Terms.{Terms}

module _ (terms : Terms) (e : EngineState) (s : Standing) (holds : Holds terms e s) where
  trace_at : (core : Trace) (scopes : List Scope) (d : State) (v : VerdictState) → e.verdict ≡ Some v
      → scopes ≡ e.formula.scopes → core.winner ≡ winner_of v.truth → inferences_of core.lines ≡ v.proof
      → IsNumbered core.lines → v.proof ≡ proof_at d v.assumptions v.end
      → IsTraceText s.script.formula.scopes v.truth s.witness.proof (qrp_text scopes core)
  trace_at core scopes d v some same winner list numbered made = record {
    core = core;
    winner = winner;
    numbered = numbered;
    proof_steps = list ∙ sym (holds.proof v some);
    inputs_first = subst (λ steps. core_order steps ≡ steps) (sym (holds.proof v some ∙ made))
        (proof_ordered d v.assumptions v.end);
    text_of_core = ap (λ f. qrp_text f core) (same ∙ sym (ap (λ (f : OpenFormula). f.scopes) holds.formula));
  }

  -- the engine's trace of a verdict is one of what the commands came to
  pub trace_after : (core : Trace) (scopes : List Scope) (d : State) → scopes ≡ e.formula.scopes
      → IfSome e.verdict (λ v. core.winner ≡ winner_of v.truth)
      → IfSome e.verdict (λ v. inferences_of core.lines ≡ v.proof) → IsNumbered core.lines
      → IfSome e.verdict (λ v. v.proof ≡ proof_at d v.assumptions v.end)
      → IfSome s.script.verdict (λ given. IsTraceText s.script.formula.scopes given.truth s.witness.proof
      (qrp_text scopes core))
  trace_after core scopes d same winner list numbered derived =
      subst (λ o. IfSome o (λ given. IsTraceText s.script.formula.scopes given.truth s.witness.proof
      (qrp_text scopes core))) (sym holds.verdict) (by e.verdict refl)
    where
      by : (o : Option VerdictState) → e.verdict ≡ o → IfSome (option_map given_of o)
          (λ given. IsTraceText s.script.formula.scopes given.truth s.witness.proof (qrp_text scopes core))
      by None none = tt
      by (Some v) some = trace_at core scopes d v some same
          (subst (λ o. IfSome o (λ v. core.winner ≡ winner_of v.truth)) some winner)
          (subst (λ o. IfSome o (λ v. inferences_of core.lines ≡ v.proof)) some list) numbered
          (subst (λ o. IfSome o (λ v. v.proof ≡ proof_at d v.assumptions v.end)) some derived)
