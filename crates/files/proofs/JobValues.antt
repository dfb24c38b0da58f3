-- Worked values of jobs: the lines of a solve, and the room that they want.
use Rattle.std.proofs.Common.{◌≡◌, ◌<◌, ◌≤◌, ℕ, true, false, List, [], ◌∷◌, codes, length, Some, None, refl, sym, subst, arith}
use Rattle.prefix.specs.declared.quant.Quant.TheVariants.{Exists, Forall}
use Rattle.steps.specs.Counter.{step_limit}
use Rattle.truth.specs.declared.formula.Formula.{Formula}
use Rattle.truth.specs.Truth.{truth}
use Rattle.calculus.specs.Derivations.Reason.{Input as ByInput}
use Rattle.search.specs.Counting.{size_of}
use Rattle.qdimacs.specs.Reads.{Reads}
use Rattle.qdimacs.specs.Rules.{parsed}
use Rattle.qdimacs.proofs.Before.{one_outcome}
use Rattle.qdimacs.proofs.Outcomes.{computed_reads}
use Rattle.solve.specs.declared.answer.Answer.{Answer}
use Rattle.solve.specs.declared.answer.Answer.TheVariants.{Sat, Unknown, Unsat}
use Rattle.files.specs.declared.job.Job.TheVariants.{Solve, Qcir}
use Rattle.files.specs.Jobs.{IsJobText}
use Rattle.solve.specs.Answers.{IsAnswerTo}
use Rattle.solve.specs.Terms.{Terms, terms_of}
use Rattle.solve.specs.Worked.{nothing_fits}
use Rattle.files.specs.Worked.{anything_fits}
use Rattle.files.specs.WorkedInputs.{negated}
use Rattle.solve.proofs.OneStep.{empty_cube, empty_proof}

-- the line of a solve
pub unsat : (terms : Terms) (text : List ℕ) → text ≡ codes "UNSAT\n" → IsJobText Solve terms nothing_fits Unsat text
unsat terms text is = record {
  witness = record { proof = record { row = []; reason = ByInput } ∷ []; values = [] };
  is_witness = record { proof = empty_proof; values = λ e. absurd (let f : None ≡ Some Forall = e in cc) };
  says = is;
}

-- that of a circuit's job
pub unsat_circuit : (terms : Terms) → IsJobText Qcir terms nothing_fits Unsat (codes "UNSAT\n")
unsat_circuit terms = record {
  witness = record { proof = record { row = []; reason = ByInput } ∷ []; values = [] };
  is_witness = record { proof = empty_proof; values = λ e. absurd (let f : None ≡ Some Forall = e in cc) };
  says = refl;
}

pub sat : (terms : Terms) → IsJobText Solve terms anything_fits Sat (codes "SAT\n")
sat terms = record {
  witness = record { proof = record { row = []; reason = ByInput } ∷ []; values = [] };
  is_witness = record { proof = empty_cube; values = λ e. absurd (let f : None ≡ Some Exists = e in cc) };
  says = refl;
}

-- each line of a solve has at most eight bytes
pub line_length : (terms : Terms) (f : Formula) (a : Answer) (text : List ℕ) → IsJobText Solve terms f a text
    → length text ≤ 8
line_length terms f Sat text h =
    subst (λ (t : List ℕ). length t ≤ 8) (sym h.says) (let z : 4 ≤ 8 = omega arith in z)
line_length terms f Unsat text h =
    subst (λ (t : List ℕ). length t ≤ 8) (sym h.says) (let z : 6 ≤ 8 = omega arith in z)
line_length terms f Unknown text h =
    subst (λ (t : List ℕ). length t ≤ 8) (sym h) (let z : 8 ≤ 8 = omega arith in z)

-- the formula of no clause, as a text
abbrev pub bare : List ℕ
bare = codes "p cnf 0 0\n"

pub bare_reads : Reads bare (parsed anything_fits)
bare_reads = computed_reads bare (parsed anything_fits) refl

pub bare_is : (f : Formula) → Reads bare (parsed f) → f ≡ anything_fits
bare_is f reads =
    let same : parsed f ≡ parsed anything_fits = one_outcome bare (parsed f) (parsed anything_fits) reads bare_reads in
    cc

-- and with a budget that suffices, that of a true formula has four
pub true_length : (f : Formula) (a : Answer) (text : List ℕ) → f ≡ anything_fits → IsAnswerTo (terms_of 16 0 512) f a
    → IsJobText Solve (terms_of 16 0 512) f a text → length text ≤ 4
true_length f Sat text is right h =
    subst (λ (t : List ℕ). length t ≤ 4) (sym h.says) (let z : 4 ≤ 4 = omega arith in z)
true_length f Unsat text is right h =
    absurd (let no : true ≡ false = subst (λ (g : Formula). truth g.prefix g.clauses ≡ false) is right in cc)
true_length f Unknown text is right h =
    absurd (let low : 16 < 16 = subst (λ (g : Formula). 16 < step_limit 0 (size_of g.prefix)) is right.limit in
    omega (arith, low))

-- the line of a true circuit, with a budget that suffices for its one variable
pub circuit_length : (f : Formula) (a : Answer) (text : List ℕ) → f ≡ negated Exists → IsAnswerTo
    (terms_of 64 0 512) f a
    → IsJobText Qcir (terms_of 64 0 512) f a text → length text ≤ 4
circuit_length f Sat text is right h =
    subst (λ (t : List ℕ). length t ≤ 4) (sym h.says) (let z : 4 ≤ 4 = omega arith in z)
circuit_length f Unsat text is right h =
    absurd (let no : true ≡ false = subst (λ (g : Formula). truth g.prefix g.clauses ≡ false) is right in cc)
circuit_length f Unknown text is right h =
    absurd (let low : 64 < 64 = subst (λ (g : Formula). 64 < step_limit 0 (size_of g.prefix)) is right.limit in
    omega (arith, low))
