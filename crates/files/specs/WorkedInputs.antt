-- Worked values: what texts say by each format, and answers to circuits.
use Rattle.std.specs.Prelude.{◌≡◌, ℕ, List, true, false, [], ◌∷◌, codes, map}
use Rattle.prefix.specs.declared.quant.Quant.{Quant}
use Rattle.prefix.specs.declared.quant.Quant.TheVariants.{Exists, Forall}
use Rattle.truth.specs.declared.formula.Formula.{Formula}
use Rattle.calculus.specs.Worked.{minus, plus}
use Rattle.reading.specs.declared.refusal.Quantity.{Quantity}
use Rattle.qdimacs.specs.Rules.{limit, parsed, refused}
use Rattle.solve.specs.declared.answer.Answer.TheVariants.{Sat, Unknown, Unsat}
use Rattle.solve.specs.declared.ending.Ending.TheVariants.{CheckLimit, Done, Limit, Refused}
use Rattle.files.specs.declared.job.Job.TheVariants.{Solve, Qdo, Qcir, Trace, Cert}
use Rattle.files.specs.Inputs.{Says, format_of}
use Rattle.files.specs.Inputs.Format.{as_circuit, as_formula}
use Rattle.files.specs.Solve.{IsEnding, Solves}
use Rattle.solve.specs.Terms.{terms_of}

-- a circuit without a gate, true by one value of its variable, and one that is false by the other value
abbrev pub one_text : List ℕ
one_text = codes "exists(1)output(-1)"

abbrev pub each_text : List ℕ
each_text = codes "forall(1)output(-1)"

-- their formulas
abbrev pub negated : Quant → Formula
negated q = record {
  prefix = record { quantifier = q; variables = 1 ∷ [] } ∷ [];
  clauses = (minus 1 ∷ []) ∷ [];
  declared_vars = 1;
  declared_clauses = 1;
}

-- a circuit of one gate, and its formula
abbrev pub gate_text : List ℕ
gate_text = codes "exists(1)output(2)2=and(1)"

abbrev pub gate_formula : Formula
gate_formula = record {
  prefix = record { quantifier = Exists; variables = 1 ∷ 2 ∷ [] } ∷ [];
  clauses = (plus 1 ∷ minus 2 ∷ []) ∷ (minus 1 ∷ plus 2 ∷ []) ∷ (plus 2 ∷ []) ∷ [];
  declared_vars = 2;
  declared_clauses = 3;
}

-- a formula, as a text
abbrev pub formula_text : List ℕ
formula_text = codes "p cnf 0 0\n"

pub record WorkedInputs : Type 0 where
  -- one job alone reads circuits
  pub formats : map format_of (Solve ∷ Qdo ∷ Qcir ∷ Trace ∷ Cert true false ∷ [])
      ≡ as_formula ∷ as_formula ∷ as_circuit ∷ as_formula ∷ as_formula ∷ []
  -- a circuit says its formula and no other, and by the other format none
  pub says : Says as_circuit gate_text (parsed gate_formula)
  pub says_alone : Says as_circuit one_text (parsed (negated Exists))
  pub no_other : Says as_circuit one_text (parsed (negated Forall)) → ⊥
  pub no_formula : (f : Formula) → Says as_formula one_text (parsed f) → ⊥
  pub no_circuit : (f : Formula) → Says as_circuit formula_text (parsed f) → ⊥
  -- each format has refusals of its own
  pub refused_circuit : Says as_circuit formula_text (refused 70 1)
  pub other_number : Says as_circuit formula_text (refused 10 1) → ⊥
  pub refused_formula : Says as_formula one_text (refused 10 1)
  pub not_refused : (number at : ℕ) → Says as_circuit one_text (refused number at) → ⊥
  pub not_limited : (quantity : Quantity) (at : ℕ) → Says as_circuit one_text (limit quantity at) → ⊥
  -- the answer to a circuit is its own truth, and unknown only by a budget that is short with its gates
  pub sat : Solves as_circuit (terms_of 0 0 512) one_text Sat
  pub not_unsat : Solves as_circuit (terms_of 0 0 512) one_text Unsat → ⊥
  pub unsat : Solves as_circuit (terms_of 0 0 512) each_text Unsat
  pub not_sat : Solves as_circuit (terms_of 0 0 512) each_text Sat → ⊥
  pub unknown : Solves as_circuit (terms_of 19 0 512) gate_text Unknown
  pub not_unknown : Solves as_circuit (terms_of 192 0 512) gate_text Unknown → ⊥
  -- endings
  pub ends_refused : IsEnding as_circuit (terms_of 0 0 512) formula_text (Refused 70 1)
  pub not_ended : IsEnding as_circuit (terms_of 0 0 512) one_text (Refused 70 1) → ⊥
  pub not_beyond : (quantity : Quantity) (at : ℕ) → IsEnding as_circuit (terms_of 0 0 512) one_text
      (Limit quantity at) → ⊥
  pub not_beyond_check : (quantity : Quantity) → IsEnding as_circuit (terms_of 0 0 512) one_text (CheckLimit quantity)
      → ⊥
  pub done : IsEnding as_circuit (terms_of 0 0 512) one_text (Done 10)
  pub not_done : IsEnding as_circuit (terms_of 0 0 512) one_text (Done 20) → ⊥
