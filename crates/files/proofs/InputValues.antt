-- Worked values of circuits: what their texts say.
use Rattle.std.proofs.Common.{◌≡◌, ◌∙◌, List, ℕ, [], ◌∷◌, ap, refl, sym}
use Rattle.prefix.specs.declared.quant.Quant.{Quant}
use Rattle.prefix.specs.declared.quant.Quant.TheVariants.{Exists, Forall}
use Rattle.truth.specs.declared.formula.Formula.{Formula}
use Rattle.calculus.specs.Worked.{minus, plus}
use Rattle.qcir.specs.declared.circuit.Circuit.{Circuit}
use Rattle.qcir.specs.declared.circuit.GateKind.TheVariants.{And}
use Rattle.qcir.specs.Translation.{translated}
use Rattle.qcir_reader.specs.Rules.{parsed as circuit, refused as circuit_refused}
use Rattle.qcir_reader.specs.Reads.{Reads as ReadsCircuit}
use Rattle.qcir_reader.proofs.Complete.{one_outcome}
use Rattle.qcir_reader.proofs.Outcomes.{computed_reads}
use Rattle.files.specs.Inputs.{IsTranslated}
use Rattle.files.specs.WorkedInputs.{each_text, formula_text, gate_formula, gate_text, negated, one_text}

-- the circuits of these texts
abbrev pub alone : Quant → Circuit
alone q = record { prefix = record { quantifier = q; variables = 1 ∷ [] } ∷ []; gates = []; output = minus 1 }

abbrev pub with_gate : Circuit
with_gate = record {
  prefix = record { quantifier = Exists; variables = 1 ∷ [] } ∷ [];
  gates = record { var = 2; kind = And; inputs = plus 1 ∷ [] } ∷ [];
  output = plus 2;
}

pub one_reads : ReadsCircuit one_text (circuit (alone Exists))
one_reads = computed_reads one_text (circuit (alone Exists)) refl

pub each_reads : ReadsCircuit each_text (circuit (alone Forall))
each_reads = computed_reads each_text (circuit (alone Forall)) refl

pub gate_reads : ReadsCircuit gate_text (circuit with_gate)
gate_reads = computed_reads gate_text (circuit with_gate) refl

pub formula_refused : ReadsCircuit formula_text (circuit_refused 70 1)
formula_refused = computed_reads formula_text (circuit_refused 70 1) refl

pub one_says : IsTranslated one_text (negated Exists)
one_says = record { source = alone Exists; read = one_reads; formula = refl; same_truth = refl }

pub each_says : IsTranslated each_text (negated Forall)
each_says = record { source = alone Forall; read = each_reads; formula = refl; same_truth = refl }

pub gate_says : IsTranslated gate_text gate_formula
gate_says = record { source = with_gate; read = gate_reads; formula = refl; same_truth = refl }

-- a text is one circuit
pub is_circuit : (text : List ℕ) (c d : Circuit) → ReadsCircuit text (circuit c) → ReadsCircuit text (circuit d) → c ≡ d
is_circuit text c d first second =
    let same : circuit c ≡ circuit d = one_outcome text (circuit c) (circuit d) first second in cc

-- so it says one formula
pub is_formula : (text : List ℕ) (f g : Formula) → IsTranslated text f → IsTranslated text g → f ≡ g
is_formula text f g a b =
    a.formula ∙ ap translated (is_circuit text a.source b.source a.read b.read) ∙ sym b.formula
