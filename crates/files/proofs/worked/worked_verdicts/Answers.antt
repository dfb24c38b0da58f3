use Rattle.std.proofs.Common.{◌≡◌, ◌∙◌, ℕ, true, false, List, [], ◌∷◌, ◌++◌, codes, length, None, Some, refl, ap, arith}
use Rattle.std.specs.Prelude.{slice_index_or}
use Rattle.std.specs.Fmt.{digits}
use Rattle.prefix.specs.declared.quant.Quant.TheVariants.{Forall}
use Rattle.prefix.specs.Literal.{Literal}
use Rattle.trail.specs.State.{Account}
use Rattle.calculus.specs.Derivations.Reason.{Input as ByInput}
use Rattle.solve.specs.Outputs.{Text}
use Rattle.solve.specs.declared.answer.Answer.TheVariants.{Sat}
use Rattle.solve.proofs.OneStep.{empty_proof}
use Rattle.files.specs.declared.job.Job.TheVariants.{Qdo}
use Rattle.files.specs.Jobs.{HasVerdictText, solution_line, value_lines}
use Rattle.files.specs.WorkedVerdicts.{no_step, one, repeated}
use Rattle.files.proofs.Repeated.{has_witness, nothing_proved, one_scope, only_values, steps}
use Rattle.files.proofs.worked.worked_verdicts.Goals as goal

-- the text is the line with the one value
is_text : (text : Text) → HasVerdictText Qdo no_step (repeated false 1) true text → text ≡ codes "s cnf 1 1 1\nV -1 0\n"
unfolding digits
is_text text h =
    h.says ∙ ap (λ (values : List Literal). solution_line Sat (repeated false 1) ++ value_lines one_scope true values)
    (only_values h.witness h.is_witness)

abbrev budget_in : List Account → ℕ
budget_in [] = 0
budget_in (e ∷ es) = e.budget

abbrev vars_in : List Account → ℕ
vars_in [] = 0
vars_in (e ∷ es) = e.vars

pub returns : goal.returns
unfolding digits
returns c = record {
  with_value = record {
    witness = record { proof = steps false; values = one false ∷ [] };
    is_witness = has_witness false 1;
    says = refl;
  };
  no_value = λ h. absurd (let n : 12 ≡ 19 = ap (λ (t : Text). length t) (is_text (codes "s cnf 1 1 1\n") h) in
      omega (arith, n));
  other_value = λ h. absurd (let n : 18 ≡ 19 = ap (λ (t : Text). length t) (is_text (codes "s cnf 1 1 1\nV 1 0\n") h) in
      omega (arith, n));
  other_answer = λ h. absurd (let n : 48 ≡ 49 = ap (λ (t : Text). slice_index_or t 6 0)
      (is_text (codes "s cnf 0 1 1\nV -1 0\n") h) in omega (arith, n));
  without_values = record {
    witness = record { proof = record { row = []; reason = ByInput } ∷ []; values = [] };
    is_witness = record { proof = empty_proof; values = λ e. absurd (let f : None ≡ Some Forall = e in cc) };
    says = refl;
  };
  no_proof = λ text h. nothing_proved h.witness.proof h.is_witness.proof;
  other_budget = λ h. absurd (let n : 36 ≡ 19 = ap budget_in h.told.1 ∙ h.told.2.budget in omega (arith, n));
  other_search = λ h. absurd (let n : 3 ≡ 2 = ap vars_in h.told.1 ∙ h.told.2.vars in omega (arith, n));
}
