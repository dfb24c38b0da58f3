-- Worked values: what an engine's counts allow; circuits, traces and check formulas of a verdict; and the open formula
-- as it is written.
use Rattle.std.specs.Prelude.{◌≡◌, ℕ, ◌<◌, true, false, List, [], ◌∷◌, length, codes}
use Rattle.calculus.specs.Derivations.{Inference}
use Rattle.calculus.specs.Derivations.Reason.{Input, One}
use Rattle.calculus.specs.Limits.{removals_of}
use Rattle.calculus.specs.Worked.{minus, plus}
use Rattle.truth.specs.declared.formula.Formula.{Formula}
use Rattle.frames.specs.State.{OpenFormula, empty_formula, open_clauses}
use Rattle.engine.specs.Counting.{no_counts}
use Rattle.engine.specs.State.{VerdictState, new_engine}
use Rattle.engine.specs.Worked.{some_counts}
use Rattle.engine.specs.WorkedAsks.{verdict_with}
use Rattle.qbf_c.specs.Formulas.{IsChecked, WriteSays, most_declared}
use Rattle.qbf_c.specs.Told.{IsCircuitText, IsTraceText, most_gates, most_removals}

-- the empty row, as an input
abbrev pub given : Inference
given = record { row = []; reason = Input }

-- the formula of no clause is true by the empty cube
abbrev pub fits : VerdictState
fits = verdict_with true [] (given ∷ []) []

-- a formula with the empty clause is false by it; the same with other proofs
abbrev pub fails_by : List Inference → VerdictState
fails_by proof = verdict_with false [] proof []

-- the texts of a circuit without gates, inputs and outputs
abbrev pub bare_text : List ℕ
bare_text = codes "aag 0 0 0 0 0\nc\nskolem\n"

abbrev pub bare_bytes : List ℕ
bare_bytes = codes "aig 0 0 0 0 0\nc\nskolem\n"

-- the check formula of that circuit: one of no selectors is true
abbrev pub bare_check : Formula
bare_check = record { prefix = []; clauses = [] ∷ []; declared_vars = 0; declared_clauses = 1 }

pub record WorkedTold : Type 0 where
  -- where nothing was counted one removal is allowed, and no gate; a solve has as many as its budget, or as steps that
  -- suffice
  pub one_removal : most_removals no_counts ≡ 1
  pub removals : most_removals some_counts ≡ 207
  pub enough_steps : most_removals (record some_counts { budget = 1000 }) ≡ 391
  pub no_gate : most_gates no_counts ≡ 0
  pub gates : most_gates some_counts ≡ 1242
  -- a circuit in both forms, whole and trimmed, and not in the other form
  pub circuit : IsCircuitText false false new_engine fits bare_text
  pub trimmed_circuit : IsCircuitText true true new_engine fits bare_bytes
  pub other_form : IsCircuitText true false new_engine fits bare_text → ⊥
  -- nothing that was counted allows one gate, and there is no input without a variable
  pub one_gate : (v : VerdictState) (text : List ℕ) (is : IsCircuitText false false new_engine v text)
      → length is.circuit.aig.gates ≡ 1 → ⊥
  pub one_input : (v : VerdictState) (text : List ℕ) (is : IsCircuitText false false new_engine v text)
      → is.circuit.aig.inputs ≡ 1 → ⊥
  -- a trace, and none of another proof
  pub trace : IsTraceText new_engine (fails_by (given ∷ [])) (codes "p qrp 0 1\n1 0 0\nr UNSAT\n")
  pub other_proof : IsTraceText new_engine (fails_by []) (codes "p qrp 0 1\n1 0 0\nr UNSAT\n") → ⊥
  -- nor one with a step before the last that no other rests on, with an input behind another step, or with two removals
  -- where nothing was counted
  pub unused_step : (text : List ℕ) → IsTraceText new_engine (fails_by (given ∷ given ∷ [])) text → ⊥
  pub input_behind : (text : List ℕ) → IsTraceText new_engine
      (fails_by (record { row = []; reason = One (plus 4 ∷ []) } ∷ record { row = plus 4 ∷ []; reason = Input } ∷ []))
      text → ⊥
  pub two_removals : (v : VerdictState) (text : List ℕ) → removals_of v.proof ≡ 2 → IsTraceText new_engine v text → ⊥
  -- a check formula, and none whose clause doesn't ascend
  pub check : IsChecked false new_engine fits bare_check
  pub falling : (v : VerdictState) (f : Formula) → f.clauses ≡ (plus 2 ∷ minus 1 ∷ []) ∷ []
      → IsChecked false new_engine v f → ⊥

pub record WorkedWrites : Type 0 where
  pub most : most_declared ≡ 4294967295
  -- the formula of no scope and no clause in a buffer with room for it, and in one with less
  pub written : WriteSays empty_formula (codes "0123456789ab") (codes "p cnf 0 0\nab") 4 10 0
  pub short : WriteSays empty_formula (codes "012345678") (codes "012345678") 4 10 62
  pub other_text : WriteSays empty_formula (codes "0123456789ab") (codes "p cnf 1 0\nab") 4 10 0 → ⊥
  -- it hasn't too many clauses, and a formula that has isn't written
  pub not_many : WriteSays empty_formula [] [] 4 4 122 → ⊥
  pub many : (f : OpenFormula) → most_declared < length (open_clauses f) → WriteSays f (7 ∷ []) (7 ∷ []) 4 4 122
  pub many_written : (f : OpenFormula) (new : List ℕ) (count : ℕ) → most_declared < length (open_clauses f)
      → WriteSays f (7 ∷ []) new 4 count 0 → ⊥
  -- want of memory leaves buffer and count
  pub wanting : (f : OpenFormula) → WriteSays f (7 ∷ []) (7 ∷ []) 4 4 60
  pub wrote : (f : OpenFormula) → WriteSays f (7 ∷ []) (1 ∷ []) 4 4 60 → ⊥
