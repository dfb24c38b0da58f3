use Rattle.std.proofs.Common.{◌≡◌, ◌<◌, ◌∙◌, Bool, true, false, ap, refl, subst, arith, lit<}
use Rattle.prefix.specs.declared.quant.Quant.TheVariants.{Exists, Forall}
use Rattle.steps.specs.Counter.{step_limit}
use Rattle.truth.specs.declared.formula.Formula.{Formula}
use Rattle.truth.specs.Truth.{truth}
use Rattle.search.specs.Counting.{size_of}
use Rattle.qdimacs.specs.Rules.{parsed, refused}
use Rattle.qdimacs.specs.Reads.{Reads}
use Rattle.qdimacs.proofs.Before.{one_outcome as one_formula_outcome}
use Rattle.qdimacs.proofs.Outcomes.{computed_reads as computed_formula}
use Rattle.qcir_reader.specs.Rules.{parsed as circuit, refused as circuit_refused, limit as circuit_limit}
use Rattle.qcir_reader.proofs.Complete.{one_outcome}
use Rattle.solve.specs.declared.answer.Answer.{Answer}
use Rattle.solve.specs.declared.answer.Answer.TheVariants.{Sat, Unknown, Unsat}
use Rattle.files.specs.Inputs.Format.{as_circuit}
use Rattle.solve.specs.Answers.{answer_status}
use Rattle.files.specs.Solve.{Solves}
use Rattle.solve.specs.Terms.{terms_of}
use Rattle.files.specs.WorkedInputs.{each_text, formula_text, gate_formula, gate_text, negated, one_text}
use Rattle.files.proofs.InputValues.{alone, each_says, formula_refused, gate_says, is_formula, one_reads, one_says}
use Rattle.files.proofs.worked.worked_inputs.Goals as goal

no_header : Reads one_text (refused 10 1)
no_header = computed_formula one_text (refused 10 1) refl

truth_of : Formula → Bool
truth_of f = truth f.prefix f.clauses

-- no answer to the first text has the status of a false one
no_such : (answer : Answer) → 20 ≡ answer_status answer → Solves as_circuit (terms_of 0 0 512) one_text answer → ⊥
unfolding truth_of
no_such Sat e h = absurd (omega arith)
no_such Unsat e h = absurd (let bad : true ≡ false =
    ap truth_of (is_formula one_text (negated Exists) h.0 one_says h.1) ∙ h.2 in cc)
no_such Unknown e h = absurd (omega arith)

pub returns : goal.returns
unfolding truth_of
returns c = record {
  formats = refl;
  says = gate_says;
  says_alone = one_says;
  no_other = λ h. absurd
      (let same : negated Forall ≡ negated Exists = is_formula one_text (negated Forall) (negated Exists) h one_says in
      let bad : false ≡ true = ap truth_of same in cc);
  no_formula = λ f h. absurd
      (let same : refused 10 1 ≡ parsed f = one_formula_outcome one_text (refused 10 1) (parsed f) no_header h in cc);
  no_circuit = λ f h. absurd (let same : circuit_refused 70 1 ≡ circuit h.source =
      one_outcome formula_text (circuit_refused 70 1) (circuit h.source) formula_refused h.read in cc);
  refused_circuit = formula_refused;
  other_number = λ h. absurd (let same : circuit_refused 70 1 ≡ circuit_refused 10 1 =
      one_outcome formula_text (circuit_refused 70 1) (circuit_refused 10 1) formula_refused h in cc);
  refused_formula = no_header;
  not_refused = λ number at h. absurd (let same : circuit (alone Exists) ≡ circuit_refused number at =
      one_outcome one_text (circuit (alone Exists)) (circuit_refused number at) one_reads h in cc);
  not_limited = λ quantity at h. absurd (let same : circuit (alone Exists) ≡ circuit_limit quantity at =
      one_outcome one_text (circuit (alone Exists)) (circuit_limit quantity at) one_reads h in cc);
  sat = (negated Exists, one_says, refl);
  not_unsat = λ h. absurd (let bad : true ≡ false =
      ap truth_of (is_formula one_text (negated Exists) h.0 one_says h.1) ∙ h.2 in cc);
  unsat = (negated Forall, each_says, refl);
  not_sat = λ h. absurd (let bad : false ≡ true =
      ap truth_of (is_formula each_text (negated Forall) h.0 each_says h.1) ∙ h.2 in cc);
  unknown = (gate_formula, gate_says, record { limit = lit< tt; propagation = λ _. lit< tt });
  not_unknown = λ h. absurd (let low : 192 < 192 = subst (λ (g : Formula). 192 < step_limit 0 (size_of g.prefix))
      (is_formula gate_text h.0 gate_formula h.1 gate_says) h.2.limit in omega (arith, low));
  ends_refused = formula_refused;
  not_ended = λ h. absurd (let same : circuit (alone Exists) ≡ circuit_refused 70 1 =
      one_outcome one_text (circuit (alone Exists)) (circuit_refused 70 1) one_reads h in cc);
  not_beyond = λ quantity at h. absurd (let same : circuit (alone Exists) ≡ circuit_limit quantity at =
      one_outcome one_text (circuit (alone Exists)) (circuit_limit quantity at) one_reads h in cc);
  not_beyond_check = λ quantity h. absurd h;
  done = (Sat, refl, (negated Exists, one_says, refl));
  not_done = λ h. no_such h.0 h.1 h.2;
}
