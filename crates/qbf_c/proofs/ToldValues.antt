-- Worked values of what is told of a verdict: a circuit without gates, its check formula, and a trace of one step.
use Rattle.std.proofs.Common.{◌≡◌, ◌<◌, ◌≤◌, ℕ, Bool, true, false, List, [], ◌∷◌, length, get_or, Some, None, refl, ap, ◌∙◌, subst, arith}
use Rattle.std.proofs.lemmas.Bool.{true≢false}
use Rattle.std.specs.List.{AllByRecursion}
use Rattle.prefix.specs.declared.quant.Quant.TheVariants.{Exists}
use Rattle.truth.specs.declared.formula.Formula.{Formula}
use Rattle.truth.specs.Formed.{IsClauseOver}
use Rattle.calculus.specs.Derivations.{Inference, is_input}
use Rattle.calculus.specs.Derivations.Reason.{Input, One}
use Rattle.calculus.specs.Limits.{removals_of}
use Rattle.calculus.specs.Rows.{Row}
use Rattle.calculus.specs.Worked.{minus, plus}
use Rattle.calculus.proofs.Lists.{contains_nil}
use Rattle.frames.specs.State.{empty_formula}
use Rattle.step_core.specs.Cores.{inferences_of}
use Rattle.aig.specs.Circuits.{AreDistinct}
use Rattle.aig.specs.Strategies.{IsStrategy}
use Rattle.aig.specs.declared.strategy.Strategy.{Strategy}
use Rattle.aiger_out.specs.Binary.{IsAigBytes}
use Rattle.trim.specs.Trimmed.{IsReached}
use Rattle.trim.specs.Trimmed.IsReached.{of_output, of_gate}
use Rattle.engine.specs.Asks.{IsCertificateOf}
use Rattle.engine.specs.State.{VerdictState, new_engine}
use Rattle.solve.specs.Traces.{IsTraceText as IsTraceOf}
use Rattle.solve.specs.Worked.{trace_text}
use Rattle.solve.proofs.CircuitValues.{bare, bare_denotes}
use Rattle.solve.proofs.TraceValues.{other_proof, trace_is, unused_step}
use Rattle.qbf_c.specs.Formulas.{IsChecked}
use Rattle.qbf_c.specs.Told.{IsCircuitText, IsCut, IsToldCircuit, IsTraceText}
use Rattle.qbf_c.specs.WorkedTold.{bare_bytes, bare_check, bare_text, fails_by, fits, given}

-- a circuit without gates, inputs and outputs

abbrev none : Strategy
none = bare Exists

none_is : (b : Bool) → None ≡ Some b → ⊥
none_is b e = cc

no_gate : (i : ℕ) → i < 0 → ⊥
no_gate i below = let low : i < 0 = below in omega (arith, low)

is_strategy : IsStrategy none
is_strategy = record { inputs = refl; outputs = λ i o below. absurd (no_gate i below) }

certifies : IsCertificateOf empty_formula fits none
certifies = record {
  winner = refl;
  inputs = refl;
  outputs = refl;
  keeps = λ inputs x e. refl;
  follows = λ inputs. record {
    given = λ x b e. absurd (none_is b e);
    ruled = λ x i. absurd (contains_nil x i);
  };
  wins = λ inputs allowed. (refl, λ x b e. absurd (none_is b e));
  earlier = λ x i. absurd (contains_nil x i);
  assumed = λ x b e. absurd (none_is b e);
  size = let z : 0 ≤ 0 = omega arith in z;
  first = λ e. absurd (let f : None ≡ Some Exists = e in cc);
}

told : IsToldCircuit false new_engine fits none
told = record {
  whole = none;
  certifies = certifies;
  shown = refl;
  strategy = is_strategy;
  few = let z : 0 ≤ 0 = omega arith in z;
}

none_reached : (j : ℕ) → IsReached none j → ⊥
none_reached j (of_output o i c e) = contains_nil o c
none_reached j (of_gate g k i r at over) = no_gate k at.0

cut : IsCut none none
cut = record {
  trimmed = record {
    winner = refl;
    inputs = refl;
    strategy = is_strategy;
    vars = refl;
    values = λ i d inputs below. absurd (no_gate i below);
    size = let z : 0 ≤ 0 = omega arith in z;
    reached = λ j below. absurd (no_gate j below);
  };
  reached = record {
    place = λ j. j;
    rises = λ i j r s low. low;
    within = λ j r. absurd (none_reached j r);
    onto = λ k below. absurd (no_gate k below);
    gates = λ j d r. absurd (none_reached j r);
    outputs = refl;
  };
  plays = refl;
}

told_trimmed : IsToldCircuit true new_engine fits none
told_trimmed = record {
  whole = none;
  certifies = certifies;
  shown = cut;
  strategy = is_strategy;
  few = let z : 0 ≤ 0 = omega arith in z;
}

no_two : AreDistinct []
no_two i j d before within same = absurd (no_gate j within)

bytes_denote : IsAigBytes bare_bytes none
bytes_denote = record {
  output_lines = [];
  gate_bytes = [];
  input_symbols = [];
  output_symbols = [];
  whole = refl;
  named = refl;
  outputs = tt;
  gates = tt;
  distinct = no_two;
  input_names = tt;
  output_names = tt;
}

pub circuit : IsCircuitText false false new_engine fits bare_text
circuit = record { circuit = none; told = told; written = bare_denotes Exists }

pub trimmed_circuit : IsCircuitText true true new_engine fits bare_bytes
trimmed_circuit = record { circuit = none; told = told_trimmed; written = bytes_denote }

second_byte : List ℕ → ℕ
second_byte text = get_or text 1 0

pub other_form : IsCircuitText true false new_engine fits bare_text → ⊥
unfolding second_byte
other_form h = let f : 97 ≡ 105 = ap second_byte h.written.whole in omega (arith, f)

pub one_gate : (v : VerdictState) (text : List ℕ) (is : IsCircuitText false false new_engine v text)
    → length is.circuit.aig.gates ≡ 1 → ⊥
one_gate v text is e = let few : length is.circuit.aig.gates ≤ 0 = is.told.few in omega (arith, few, e)

pub one_input : (v : VerdictState) (text : List ℕ) (is : IsCircuitText false false new_engine v text)
    → is.circuit.aig.inputs ≡ 1 → ⊥
one_input v text is e =
    let named : is.circuit.aig.inputs ≡ length is.circuit.inputs = is.told.strategy.inputs in
    let bare : length is.circuit.inputs ≡ 0 =
    ap length (ap (λ (s : Strategy). s.inputs) is.told.shown ∙ is.told.certifies.inputs) in
    omega (arith, named, bare, e)

-- its check formula
pub check : IsChecked false new_engine fits bare_check
check = record {
  circuit = none;
  told = told;
  are = refl;
  within = refl;
  formed = record {
    rows = ((tt, tt), tt);
    count = let z : 1 ≤ 16777216 = omega arith in z;
    amount = let z : 0 ≤ 268435456 = omega arith in z;
  };
  decides = (λ lost. certifies.wins, λ wins. refl);
}

pub falling : (v : VerdictState) (f : Formula) → f.clauses ≡ (plus 2 ∷ minus 1 ∷ []) ∷ []
    → IsChecked false new_engine v f → ⊥
falling v f same is =
    let rows : AllByRecursion (IsClauseOver f.prefix) ((plus 2 ∷ minus 1 ∷ []) ∷ []) =
    subst (λ (cs : List Row). AllByRecursion (IsClauseOver f.prefix) cs) same is.formed.rows in
    let low : 2 < 1 = rows.0.0.0.0 in omega (arith, low)

-- traces, as a script's are

as_script : (proof : List Inference) (text : List ℕ) → IsTraceText new_engine (fails_by proof) text
    → IsTraceOf [] false proof text
as_script proof text is = record {
  core = is.core;
  winner = is.winner;
  numbered = is.numbered;
  proof_steps = is.proof;
  inputs_first = is.inputs_first;
  text_of_core = is.written;
}

pub trace : IsTraceText new_engine (fails_by (given ∷ [])) trace_text
trace =
    let is : IsTraceOf [] false (given ∷ []) trace_text = trace_is in
    let none : removals_of (inferences_of is.core.lines) ≡ 0 = ap removals_of is.proof_steps in
    record {
      core = is.core;
      proof = is.proof_steps;
      winner = is.winner;
      numbered = is.numbered;
      inputs_first = refl;
      few = let few : removals_of (inferences_of is.core.lines) ≤ 1 = omega (arith, none) in few;
      written = is.text_of_core;
    }

pub other_trace : IsTraceText new_engine (fails_by []) trace_text → ⊥
other_trace is = other_proof (as_script [] trace_text is)

pub unused : (text : List ℕ) → IsTraceText new_engine (fails_by (given ∷ given ∷ [])) text → ⊥
unused text is = unused_step text (as_script (given ∷ given ∷ []) text is)

begins_with_input : List Inference → Bool
begins_with_input [] = false
begins_with_input (s ∷ steps) = is_input s.reason

pub input_behind : (text : List ℕ) → IsTraceText new_engine
    (fails_by (record { row = []; reason = One (plus 4 ∷ []) } ∷ record { row = plus 4 ∷ []; reason = Input } ∷ []))
    text → ⊥
unfolding begins_with_input
input_behind text is = true≢false (ap begins_with_input is.inputs_first)

pub two_removals : (v : VerdictState) (text : List ℕ) → removals_of v.proof ≡ 2 → IsTraceText new_engine v text → ⊥
two_removals v text two is =
    let few : removals_of (inferences_of is.core.lines) ≤ 1 = is.few in
    let same : removals_of (inferences_of is.core.lines) ≡ removals_of v.proof = ap removals_of is.proof in
    omega (arith, few, same, two)
