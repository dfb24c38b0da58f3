-- Worked values: verdicts that are kept with a proof, stops, values of the first scope, and what is no certificate.
use Rattle.std.specs.Prelude.{◌≡◌, ℕ, Bool, true, false, [], ◌∷◌, length, Contains, Some}
use Rattle.steps.specs.Counter.{Counter}
use Rattle.calculus.specs.Worked.{differ, existential_first, minus, plus, refutation}
use Rattle.aig.specs.declared.edge.Node.TheVariants.{Constant}
use Rattle.aig.specs.declared.strategy.Strategy.{Strategy}
use Rattle.aig.specs.Strategies.{output_of, values_of as circuit_values}
use Rattle.derive.specs.State.{open_clauses as clauses_in}
use Rattle.frames.specs.State.{OpenFormula}
use Rattle.search.specs.declared.outcome.SolveStop.{SolveStop}
use Rattle.search.specs.declared.outcome.SolveStop.TheVariants.{Spent, NoMemory}
use Rattle.engine.specs.declared.verdict.Verdict.{Verdict}
use Rattle.engine.specs.Asks.{AreFirstValues, IsCertificateOf, PlaysFirst}
use Rattle.engine.specs.Verdicts.{HasProof, IsStopFor}
use Rattle.engine.specs.WorkedAsks.{either, formula_of, opposing, refuted, refuted_under, satisfied, verdict_with}

-- under e 2, a 1 the two variables differ, which is false
abbrev pub differing : OpenFormula
differing = formula_of existential_first differ

-- a verdict that ends in the step 0
abbrev pub told_as : Bool → Verdict
told_as truth = record { truth = truth; end = 0 }

-- a counter of nine steps, of which so many were taken
abbrev pub taken : ℕ → Counter
taken n = record { spent = n; budget = 9 }

-- a stop that tells of this budget, so many variables and one assignment
abbrev pub spent_at : ℕ → ℕ → SolveStop
spent_at budget vars = Spent (record { budget = budget; vars = vars; assigned = 1; restarts = 0 })

pub record WorkedProofs : Type 0 where
  -- a verdict is kept with its proof; not one of the other truth, of another end, under other assumptions, of another
  -- last row, or without the proof
  pub with_proof : HasProof differing (told_as false) (Some (verdict_with false [] refutation []))
  pub other_truth : HasProof differing (told_as false) (Some (verdict_with true [] refutation [])) → ⊥
  pub other_end : HasProof differing (record { truth = false; end = 4 })
      (Some (verdict_with false [] refutation [])) → ⊥
  pub other_assumptions : HasProof differing (told_as false) (Some (verdict_with false (plus 2 ∷ []) refutation [])) → ⊥
  pub other_row : HasProof differing (told_as false) (Some (verdict_with false [] refutation (plus 1 ∷ []))) → ⊥
  pub without_proof : HasProof differing (told_as false) (Some (verdict_with false [] [] [])) → ⊥

pub record WorkedStops : Type 0 where
  -- want of memory stops a solve at any time; steps that are left, another budget, or other variables don't
  pub memory : (before now : Counter) → IsStopFor 0 opposing before now NoMemory
  pub steps_left : (before : Counter) → IsStopFor 0 opposing before (taken 8) (spent_at 9 2) → ⊥
  pub other_budget : (now : Counter) → IsStopFor 0 opposing (taken 0) now (spent_at 8 2) → ⊥
  pub other_variables : (before now : Counter) → IsStopFor 0 opposing before now (spent_at 9 3) → ⊥
  -- nor does a spent budget that suffices for two variables
  pub enough : (now : Counter) → IsStopFor 0 opposing (record { spent = 0; budget = 192 }) now
      (spent_at 192 2) → ⊥
  -- the search that stops is one of the formula's clauses, and of no others
  pub of_all_clauses : (before now : Counter) (stop : SolveStop) → (h : IsStopFor 0 opposing before now stop)
      → Contains (clauses_in h.derivation) (minus 1 ∷ plus 2 ∷ [])
  pub of_no_others : (before now : Counter) (stop : SolveStop) → (h : IsStopFor 0 opposing before now stop)
      → Contains (clauses_in h.derivation) (plus 1 ∷ []) → ⊥

pub record WorkedFirst : Type 0 where
  -- the values of 1 and 2 decide; not so where they are told by another proof, in another order, not of both, or
  -- against an assumption
  pub plays : PlaysFirst either satisfied
  pub without_proof : PlaysFirst either (verdict_with true [] [] []) → ⊥
  pub values : AreFirstValues either true [] (minus 1 ∷ plus 2 ∷ [])
  pub not_true : AreFirstValues either true [] (minus 1 ∷ minus 2 ∷ []) → ⊥
  pub not_in_order : AreFirstValues either true [] (plus 2 ∷ minus 1 ∷ []) → ⊥
  pub not_both : AreFirstValues either true [] (plus 2 ∷ []) → ⊥
  pub not_as_assumed : AreFirstValues either true (plus 1 ∷ []) (minus 1 ∷ plus 2 ∷ []) → ⊥
  -- where the first scope is the loser's nothing is said
  pub losers : PlaysFirst opposing satisfied

-- what is no certificate: of 1 alone, whose circuit changes the input 2, which has more gates than the proof allows, or
-- in which an assumed output is the other constant
pub record WorkedCertificates : Type 0 where
  pub changes_input : (s : Strategy) → circuit_values s (λ _. true) 2 ≡ false → IsCertificateOf opposing refuted s → ⊥
  pub too_large : (s : Strategy) → length s.aig.gates ≡ 2 → IsCertificateOf opposing refuted s → ⊥
  pub other_constant : (s : Strategy) → output_of s.outputs 1 ≡ Some (record { node = Constant; negated = false })
      → IsCertificateOf opposing refuted_under s → ⊥
