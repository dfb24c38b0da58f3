-- Worked values: answers to two formulas, what is told of searches that stopped, decisions, traces and certificates.
use Rattle.std.specs.Prelude.{◌≡◌, ℕ, List, true, false, ◌∷◌, ◌++◌, codes, []}
use Rattle.prefix.specs.declared.quant.Quant.{Quant}
use Rattle.prefix.specs.declared.quant.Quant.TheVariants.{Exists, Forall}
use Rattle.truth.specs.declared.formula.Formula.{Formula}
use Rattle.trail.specs.State.{Account}
use Rattle.calculus.specs.Derivations.{Inference}
use Rattle.calculus.specs.Derivations.Reason.{Input, One}
use Rattle.calculus.specs.Worked.{existential, minus, plus, universal}
use Rattle.frames.specs.Commands.{AddClause, Solve as Decide, Verdict}
use Rattle.frames.specs.Fold.{new_script, state_after}
use Rattle.frames.specs.State.{OpenFormula}
use Rattle.solve.specs.declared.answer.Answer.TheVariants.{Sat, Unsat, Unknown}
use Rattle.solve.specs.Feeding.{formula_with, opened}
use Rattle.solve.specs.Decisions.{unassumed, Decides, GivesUp, IsRight}
use Rattle.solve.specs.Outputs.{Output, says}
use Rattle.solve.specs.Traces.{IsTraceText}
use Rattle.solve.specs.Certificates.{IsCertText, IsCertificate}
use Rattle.solve.specs.Answers.{IsAnswerTo}
use Rattle.solve.specs.Standing.{Standing}
use Rattle.solve.specs.Entries.{AddsEntry, IsStopAt}
use Rattle.solve.specs.Terms.{terms_of, with_kept, with_restarts}
use Rattle.solve.specs.declared.decision.Decision.TheVariants.{Sat as is_sat, Unknown as is_unknown}

-- 2 differs from 1, with these quantifiers of 1 and 2 in that order
abbrev pub differs : Quant → Quant → Formula
differs first second = record {
  prefix = record { quantifier = first; variables = 1 ∷ [] } ∷ record { quantifier = second; variables = 2 ∷ [] } ∷ [];
  clauses = (record { variable = 1; positive = true } ∷ record { variable = 2; positive = true } ∷ [])
      ∷ (record { variable = 1; positive = false } ∷ record { variable = 2; positive = false } ∷ []) ∷ [];
  declared_vars = 2;
  declared_clauses = 2;
}

-- a search over two variables that stopped at 36 steps, after one assignment
abbrev pub at_thirty_six : Account
at_thirty_six = record { budget = 36; vars = 2; assigned = 1; restarts = 0 }

pub record WorkedAnswers : Type 0 where
  -- for each value of 1 there is one of 2, whatever the budget
  pub sat : IsAnswerTo (terms_of 0 0 512) (differs Forall Exists) Sat
  pub not_unsat : IsAnswerTo (terms_of 0 0 512) (differs Forall Exists) Unsat → ⊥
  -- no value of 1 differs from both of 2
  pub unsat : IsAnswerTo (terms_of 0 0 512) (differs Exists Forall) Unsat
  pub not_sat : IsAnswerTo (terms_of 0 0 512) (differs Exists Forall) Sat → ⊥
  -- below 2 * 2 * (2 + 3) steps any formula of two variables may be unknown, and from 24 * 2 ^ 3 steps on none
  pub nineteen : IsAnswerTo (terms_of 19 0 512) (differs Forall Exists) Unknown
  pub not_enough : IsAnswerTo (terms_of 192 0 512) (differs Forall Exists) Unknown → ⊥
  -- 36 steps are few for two assignments, and too many for one; and a search begins anew only as often as it may
  pub told : IsStopAt (terms_of 36 0 512) 2 at_thirty_six
  pub not_told : IsStopAt (terms_of 36 0 512) 2 (record { budget = 36; vars = 2; assigned = 0; restarts = 0 }) → ⊥
  pub restarted : IsStopAt (terms_of 36 1 512) 2 (record at_thirty_six { restarts = 1 })
  pub not_restarted : IsStopAt (terms_of 36 0 512) 2 (record at_thirty_six { restarts = 1 }) → ⊥
  pub not_as_before : IsStopAt (with_restarts 0 (terms_of 36 1 512)) 2 (record at_thirty_six { restarts = 1 }) → ⊥
  -- with one restart twice as many steps suffice
  pub twice : IsAnswerTo (terms_of 384 1 512) (differs Forall Exists) Unknown → ⊥
  -- the greatest number of restarts stays
  pub fewer_restarts : with_restarts 2 (terms_of 9 7 512) ≡ record {
    budget = 9;
    restarts = 2;
    greatest = 7;
    kept =
        512;
  }
  pub more_restarts : with_restarts 9 (terms_of 5 7 512) ≡ record { budget = 5; restarts = 9; greatest = 9; kept = 512 }
  -- another number of rows changes nothing else
  pub fewer_rows : with_kept 20 (terms_of 9 7 512) ≡ terms_of 9 7 20
  -- an entry where the answer is unknown alone
  pub entry : AddsEntry (IsStopAt (terms_of 36 0 512) 2) [] (at_thirty_six ∷ []) Unknown
  pub no_entry : AddsEntry (IsStopAt (terms_of 36 0 512) 2) [] (at_thirty_six ∷ []) Unsat → ⊥

-- The formula with the empty clause alone, where it was solved: it is false.
abbrev pub contradiction : Standing
contradiction = record {
  script = state_after new_script (AddClause []);
  witness = record { proof = record { row = []; reason = Input } ∷ []; values = [] };
}

-- The same, where the verdict is kept.
abbrev pub refuted : Standing
refuted = record {
  script = state_after contradiction.script (Decide (Verdict false));
  witness = contradiction.witness;
}

-- decisions that are right, and that aren't
pub record WorkedDecisions : Type 0 where
  pub says_true : IsRight true is_sat
  pub not_true : IsRight false is_sat → ⊥
  pub gives_up : IsRight false (is_unknown at_thirty_six)
  -- the empty clause makes the formula false, whatever the budget
  pub unsat : Decides contradiction (says (codes "UNSAT\n")) refuted
  pub not_sat : (after : Standing) → Decides contradiction (says (codes "SAT\n")) after → ⊥
  -- with enough steps for its variables a solve doesn't give up
  pub short : (out : Output) (after : Standing) → GivesUp (terms_of 16 0 512) contradiction out after → ⊥
  pub short_again : (out : Output) (after : Standing)
      → GivesUp (with_restarts 0 (terms_of 16 1 512)) contradiction out after → ⊥

-- a formula that is false by its one clause
abbrev pub nothing_fits : Formula
nothing_fits = record { prefix = []; clauses = [] ∷ []; declared_vars = 0; declared_clauses = 1 }

-- the proof of the empty clause
abbrev pub by_itself : List Inference
by_itself = record { row = []; reason = Input } ∷ []

-- its trace
abbrev pub trace_text : List ℕ
trace_text = codes "p qrp 0 1\n1 0 0\nr UNSAT\n"

pub record WorkedTraces : Type 0 where
  -- the trace of the empty clause, which is that of no other winner, proof or prefix
  pub trace_is : IsTraceText [] false by_itself trace_text
  pub other_winner : IsTraceText [] true by_itself trace_text → ⊥
  pub other_proof : IsTraceText [] false [] trace_text → ⊥
  pub other_prefix : IsTraceText (existential (1 ∷ []) ∷ []) false by_itself trace_text → ⊥
  -- no trace has a step before the last that no other rests on
  pub unused_step : (text : List ℕ) → IsTraceText [] false (by_itself ++ by_itself) text → ⊥
  -- nor an input behind another step
  pub input_behind : (text : List ℕ) → IsTraceText [] false
      (record { row = []; reason = One (plus 4 ∷ []) } ∷ record { row = plus 4 ∷ []; reason = Input } ∷ []) text → ⊥

-- for each value of 2 and 5, 7 is true where neither of them is
abbrev pub neither : OpenFormula
neither = formula_with (universal (2 ∷ 5 ∷ []) ∷ existential (7 ∷ []) ∷ [])
    ((minus 2 ∷ minus 7 ∷ []) ∷ (minus 5 ∷ minus 7 ∷ []) ∷ (plus 2 ∷ plus 5 ∷ plus 7 ∷ []) ∷ [])

-- a circuit for it with two gates, 2 and 5, and neither of them: no output is reached from the first
abbrev pub whole_text : List ℕ
whole_text = codes "aag 4 2 0 1 2\n2\n4\n8\n6 4 2\n8 5 3\ni0 2\ni1 5\no0 7\nc\nskolem\n"

abbrev pub whole_bytes : List ℕ
whole_bytes = codes "aig 4 2 0 1 2\n8\n" ++ (2 ∷ 2 ∷ 3 ∷ 2 ∷ codes "i0 2\ni1 5\no0 7\nc\nskolem\n")

-- the same without that gate
abbrev pub trimmed_text : List ℕ
trimmed_text = codes "aag 3 2 0 1 1\n2\n4\n6\n6 5 3\ni0 2\ni1 5\no0 7\nc\nskolem\n"

abbrev pub trimmed_bytes : List ℕ
trimmed_bytes = codes "aig 3 2 0 1 1\n6\n" ++ (1 ∷ 2 ∷ codes "i0 2\ni1 5\no0 7\nc\nskolem\n")

-- 3 is true, or 4, which is chosen after it, and against it
abbrev pub either : OpenFormula
either = formula_with (existential (3 ∷ []) ∷ universal (4 ∷ []) ∷ []) ((plus 3 ∷ plus 4 ∷ []) ∷ [])

-- 3 is always true
abbrev pub true_text : List ℕ
true_text = codes "aag 1 1 0 1 0\n2\n1\ni0 4\no0 3\nc\nskolem\n"

-- 3 alone
abbrev pub three : OpenFormula
three = formula_with (existential (3 ∷ []) ∷ []) []

-- no variable
abbrev pub none_text : List ℕ → List ℕ
none_text comment = codes "aag 0 0 0 0 0\nc\n" ++ comment

pub record WorkedCertificates : Type 0 where
  -- in ASCII and in the binary form, as the circuit is
  pub whole : IsCertificate false false neither (unassumed true) [] 2 whole_text
  pub whole_in_binary : IsCertificate true false neither (unassumed true) [] 2 whole_bytes
  -- neither form is the other
  pub not_in_binary : IsCertificate true false neither (unassumed true) [] 2 whole_text → ⊥
  pub not_in_ascii : IsCertificate false false neither (unassumed true) [] 2 whole_bytes → ⊥
  -- and trimmed, which a circuit with such a gate isn't
  pub trimmed : IsCertificate false true neither (unassumed true) [] 1 trimmed_text
  pub trimmed_in_binary : IsCertificate true true neither (unassumed true) [] 1 trimmed_bytes
  pub not_trimmed : IsCertificate false true neither (unassumed true) [] 2 whole_text → ⊥
  pub not_trimmed_in_binary : IsCertificate true true neither (unassumed true) [] 2 whole_bytes → ⊥
  -- two gates are too many where there may be one
  pub too_many : IsCertificate false false neither (unassumed true) [] 1 whole_text → ⊥
  -- an assumed output has its assumed value, and a first output its value
  pub assumed : IsCertificate false false either (record { truth = true; assumptions = plus 3 ∷ [] }) (plus 3 ∷ []) 0
      true_text
  pub otherwise_assumed : IsCertificate false false either (record { truth = true; assumptions = minus 3 ∷ [] })
      [] 0 true_text → ⊥
  pub other_value : IsCertificate false false either (unassumed true) (minus 3 ∷ []) 0 true_text → ⊥
  -- A script asks for a certificate in ASCII. It is of no other winner, and has all of the loser's variables as inputs
  -- and the winner's alone as outputs. It wins, and no output looks at a later scope, but each may look at earlier
  -- ones.
  pub herbrand : IsCertText (opened nothing_fits) (unassumed false) [] 0 (none_text (codes "herbrand\n"))
  pub other_winner : IsCertText (opened nothing_fits) (unassumed false) [] 0 (none_text (codes "skolem\n")) → ⊥
  pub true_always : IsCertText either (unassumed true) [] 0 true_text
  pub no_input : IsCertText either (unassumed true) [] 0 (codes "aag 0 0 0 1 0\n1\no0 3\nc\nskolem\n") → ⊥
  pub other_output : IsCertText three (unassumed true) [] 0
      (codes "aag 0 0 0 2 0\n1\n1\no0 3\no1 9\nc\nskolem\n") → ⊥
  pub false_always : IsCertText either (unassumed true) [] 0 (codes "aag 1 1 0 1 0\n2\n0\ni0 4\no0 3\nc\nskolem\n") → ⊥
  pub looks_ahead : IsCertText either (unassumed true) [] 0 (codes "aag 1 1 0 1 0\n2\n3\ni0 4\no0 3\nc\nskolem\n") → ⊥
  pub looks_back : IsCertText neither (unassumed true) [] 2 whole_text
  pub one_gate_more : IsCertText neither (unassumed true) [] 1 whole_text → ⊥
  pub in_bytes : IsCertText neither (unassumed true) [] 2 whole_bytes → ⊥
  pub other_first_value : IsCertText either (unassumed true) (minus 3 ∷ []) 0 true_text → ⊥
  pub other_assumed_value : IsCertText either (record { truth = true; assumptions = minus 3 ∷ [] }) [] 0 true_text → ⊥
