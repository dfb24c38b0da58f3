-- What is told of a verdict: its circuit, whole or trimmed, and its trace.
use Rattle.std.proofs.Common.{◌≡◌, ℕ, ◌≤◌, Bool, true, false, List, length, Option, Some, None, Result, Ok, Err, refl, sym, ap, subst, ◌∙◌, arith}
use Rattle.std.specs.Prelude.{IfOk, IfSome}
use Rattle.std.proofs.lemmas.Bool.{true≢false}
use Rattle.prefix.specs.Scopes.{Scope}
use Rattle.calculus.specs.Derivations.{Inference, core_order}
use Rattle.calculus.specs.Limits.{removals_of}
use Rattle.derive.specs.State.{State}
use Rattle.step_core.specs.Cores.{IsNumbered, Trace, inferences_of, proof_at}
use Rattle.aig.specs.declared.strategy.Strategy.{Strategy}
use Rattle.aig.specs.Strategies.{IsStrategy, values_of}
use Rattle.trim.specs.Trimmed.{IsTrimmed, KeepsReached}
use Rattle.qrp_trace.specs.Texts.{qrp_text}
use Rattle.buffers.specs.Filled.{Drafted}
use Rattle.engine.specs.Asks.{IsCertificateOf}
use Rattle.engine.specs.Refusals.{winner_of}
use Rattle.engine.specs.State.{EngineState, VerdictState}
use Rattle.solve.proofs.Ordered.{proof_ordered}
use Rattle.qbf_c.specs.Told.{IsCircuitText, IsTextOf, IsToldCircuit, IsTraceText, most_gates, most_removals}

-- a circuit that is told as it is
pub told_whole : (trimmed : Bool) (e : EngineState) (o : Option VerdictState) (s : Strategy) → trimmed ≡ false
    → IsStrategy s → length s.aig.gates ≤ most_gates e.counts → IfSome o (λ v. IsCertificateOf e.formula v s)
    → IfSome o (λ v. IsToldCircuit trimmed e v s)
told_whole trimmed e None s is strategy few certifies = tt
told_whole true e (Some v) s is strategy few certifies = absurd (true≢false is)
told_whole false e (Some v) s is strategy few certifies = record {
  whole = s;
  certifies = certifies;
  shown = refl;
  strategy = strategy;
  few = few;
}

-- one that is told trimmed
pub told_cut : (trimmed : Bool) (e : EngineState) (o : Option VerdictState) (whole s : Strategy) → trimmed ≡ true
    → IsTrimmed whole s → KeepsReached whole s → values_of s ≡ values_of whole
    → length whole.aig.gates ≤ most_gates e.counts → IfSome o (λ v. IsCertificateOf e.formula v whole)
    → IfSome o (λ v. IsToldCircuit trimmed e v s)
told_cut trimmed e None whole s is cut reached plays few certifies = tt
told_cut false e (Some v) whole s is cut reached plays few certifies = absurd (true≢false (sym is))
told_cut true e (Some v) whole s is cut reached plays few certifies = record {
  whole = whole;
  certifies = certifies;
  shown = record { trimmed = cut; reached = reached; plays = plays };
  strategy = cut.strategy;
  few = let size = cut.size in omega (arith, size, few);
}

-- the text of a circuit that is told
pub circuit_told : (binary trimmed : Bool) (e : EngineState) (o : Option VerdictState) (s : Strategy)
    (r : Result Drafted ℕ) → IfSome o (λ v. IsToldCircuit trimmed e v s) → IfOk r (λ d. IsTextOf binary s d.bytes)
    → IfSome o (λ v. IfOk r (λ d. IsCircuitText binary trimmed e v d.bytes))
circuit_told binary trimmed e None s r told written = tt
circuit_told binary trimmed e (Some v) s (Err c) told written = tt
circuit_told binary trimmed e (Some v) s (Ok d) told written = record { circuit = s; told = told; written = written }

-- the text of the trace
pub trace_told : (e : EngineState) (o : Option VerdictState) (core : Trace) (scopes : List Scope) (d : State)
    (text : List ℕ) → IfSome o (λ v. inferences_of core.lines ≡ v.proof)
    → IfSome o (λ v. core.winner ≡ winner_of v.truth) → IsNumbered core.lines
    → removals_of (inferences_of core.lines) ≤ most_removals e.counts
    → IfSome o (λ v. v.proof ≡ proof_at d v.assumptions v.end) → scopes ≡ e.formula.scopes
    → text ≡ qrp_text scopes core → IfSome o (λ v. IsTraceText e v text)
trace_told e None core scopes d text proof winner numbered few made same written = tt
trace_told e (Some v) core scopes d text proof winner numbered few made same written = record {
  core = core;
  proof = proof;
  winner = winner;
  numbered = numbered;
  inputs_first = subst (λ (steps : List Inference). core_order steps ≡ steps) (sym made)
      (proof_ordered d v.assumptions v.end);
  few = few;
  written = written ∙ ap (λ (ss : List Scope). qrp_text ss core) same;
}
