-- Worked values: what verdicts of both sides are asked, what is refused, and which finishes may stand.
use Rattle.std.specs.Prelude.{◌≡◌, ℕ, Bool, true, false, List, [], ◌∷◌, Option, Some, None}
use Rattle.prefix.specs.declared.quant.Quant.TheVariants.{Exists, Forall}
use Rattle.prefix.specs.Literal.{Literal}
use Rattle.prefix.specs.Scopes.{Scope}
use Rattle.calculus.specs.Derivations.{Inference}
use Rattle.calculus.specs.Derivations.Reason.{Input, One, Two}
use Rattle.calculus.specs.Derivations.Why.{FinishedFrom, Given}
use Rattle.calculus.specs.Rows.{Row}
use Rattle.calculus.specs.Verdicts.{relevant_of}
use Rattle.calculus.specs.Worked.{differ, existential, existential_first, minus, plus, refutation, universal_first}
use Rattle.frames.specs.State.{OpenFormula, empty_formula, empty_frame}
use Rattle.step_core.specs.Worked.{clause}
use Rattle.aig.specs.declared.strategy.Strategy.{Strategy}
use Rattle.engine.specs.declared.refusal.AskRefusal.TheVariants.{NoVerdict, NotOutermost, NotWinner, NoMemory}
use Rattle.engine.specs.declared.verdict.Held.{Held}
use Rattle.engine.specs.Asks.{Decides, IsCertificateOf, IsVerdictOf, end_row_of, first_value, first_values, removed_value, values_of}
use Rattle.engine.specs.Kept.{HasFinishesOf}
use Rattle.engine.specs.Refusals.{ask_number, ask_refusal, is_outermost, value_refusal, winner_of}
use Rattle.engine.specs.State.{EngineState, VerdictState}
use Rattle.engine.specs.Worked.{cube, finished_with, some_counts}

-- a formula of one frame, without assumptions, in version 1
abbrev pub formula_of : List Scope → List Row → OpenFormula
formula_of scopes clauses =
    record empty_formula { scopes = scopes; frames = record empty_frame { clauses = clauses } ∷ [] }

-- a verdict with its assumptions, its proof and its last row
abbrev pub verdict_with : Bool → List Literal → List Inference → Row → VerdictState
verdict_with truth assumptions proof row =
    record { truth = truth; assumptions = assumptions; proof = proof; end = 0; row = row; kept = 512 }

-- under a 1, e 2 the clauses -1 2 and -1 -2
abbrev pub opposing : OpenFormula
opposing = formula_of universal_first ((minus 1 ∷ plus 2 ∷ []) ∷ (minus 1 ∷ minus 2 ∷ []) ∷ [])

-- from them -1 follows
abbrev pub resolved : List Inference → List Inference
resolved rest =
    record { row = minus 1 ∷ plus 2 ∷ []; reason = Input }
    ∷ record { row = minus 1 ∷ minus 2 ∷ []; reason = Input }
    ∷ record { row = minus 1 ∷ []; reason = Two (minus 1 ∷ plus 2 ∷ []) (minus 1 ∷ minus 2 ∷ []) 2 }
    ∷ rest

-- so the formula is false: by the finish of -1, or by -1 itself where 1 is assumed
abbrev pub refuted : VerdictState
refuted = verdict_with false [] (resolved (record { row = []; reason = One (minus 1 ∷ []) } ∷ [])) []

abbrev pub refuted_under : VerdictState
refuted_under = verdict_with false (plus 1 ∷ []) (resolved []) (minus 1 ∷ [])

-- under e 1 2 the clause 1 2
abbrev pub either : OpenFormula
either = formula_of (existential (1 ∷ 2 ∷ []) ∷ []) ((plus 1 ∷ plus 2 ∷ []) ∷ [])

-- it is true by the cube 2: by its finish, or by the cube itself where -1 and 2 are assumed
abbrev pub satisfied : VerdictState
satisfied = verdict_with true [] (record { row = plus 2 ∷ []; reason = Input }
    ∷ record { row = []; reason = One (plus 2 ∷ []) } ∷ []) []

abbrev pub satisfied_under : VerdictState
satisfied_under = verdict_with true (minus 1 ∷ plus 2 ∷ []) (record { row = plus 2 ∷ []; reason = Input } ∷ [])
    (plus 2 ∷ [])

-- an engine with a formula, and with a verdict or none
abbrev pub engine_of : OpenFormula → Option VerdictState → EngineState
engine_of formula verdict =
    record {
      formula = formula;
      verdict = verdict;
      counts = some_counts;
      restarts = 0;
      kept_rows = 512;
      kept_long = 0;
    }

-- a verdict that is held with its assumptions, none of which matters
abbrev pub held_under : Bool → List Literal → ℕ → Held
held_under truth assumptions end =
    record { verdict = record { truth = truth; end = end }; assumed = assumptions; relevant = []; kept = 512 }

pub record WorkedRefusals : Type 0 where
  pub no_verdict : ask_number NoVerdict ≡ Some 50
  pub not_outermost : ask_number NotOutermost ≡ Some 51
  pub not_winner : ask_number NotWinner ≡ Some 52
  pub no_memory : ask_number NoMemory ≡ None
  -- the side that wins
  pub exists : winner_of true ≡ Exists
  pub forall : winner_of false ≡ Forall
  -- 2 is of the second scope, 3 and 0 are of none
  pub first : is_outermost universal_first 1 ≡ true
  pub second : is_outermost universal_first 2 ≡ false
  pub unknown : is_outermost universal_first 3 ≡ false
  pub zero : is_outermost universal_first 0 ≡ false
  -- there is a verdict, or none
  pub asked : ask_refusal (engine_of opposing (Some refuted)) ≡ None
  pub unasked : ask_refusal (engine_of opposing None) ≡ Some NoVerdict
  -- values: with no verdict; of a variable of no scope, of the second one, and of the first; where that is the
  -- loser's; and of the second one also then
  pub no_value : value_refusal (engine_of opposing None) 9 ≡ Some NoVerdict
  pub unknown_value : value_refusal (engine_of opposing (Some refuted)) 9 ≡ Some NotOutermost
  pub inner_value : value_refusal (engine_of opposing (Some refuted)) 2 ≡ Some NotOutermost
  pub value : value_refusal (engine_of opposing (Some refuted)) 1 ≡ None
  pub losers_value : value_refusal (engine_of opposing (Some satisfied)) 1 ≡ Some NotWinner
  pub inner_first : value_refusal (engine_of opposing (Some satisfied)) 2 ≡ Some NotOutermost
  pub existential_value : value_refusal (engine_of either (Some satisfied)) 2 ≡ None
  pub other_value : value_refusal (engine_of either (Some refuted)) 2 ≡ Some NotWinner

pub record WorkedAsks : Type 0 where
  -- 1 is true, since the finish removes -1, and so it is where it is assumed; with 1 alone the formula is false, with
  -- -1 it isn't
  pub universal_values : first_values opposing refuted ≡ plus 1 ∷ []
  pub universal_decide : Decides opposing refuted (plus 1 ∷ [])
  pub universal_other : Decides opposing refuted (minus 1 ∷ []) → ⊥
  pub universal_assumed : first_values opposing refuted_under ≡ plus 1 ∷ []
  -- 2 is true, since the finish removes it, and 1 is false, since nothing is said of it
  pub existential_values : first_values either satisfied ≡ minus 1 ∷ plus 2 ∷ []
  pub existential_decide : Decides either satisfied (minus 1 ∷ plus 2 ∷ [])
  pub existential_other : Decides either satisfied (minus 1 ∷ minus 2 ∷ []) → ⊥
  pub existential_assumed : values_of either satisfied_under 1 ≡ false
  -- 2 alone is relevant, and it gives the same verdict
  pub relevant : relevant_of satisfied_under.assumptions satisfied_under.row ≡ plus 2 ∷ []
  pub relevant_decide : Decides either satisfied_under (plus 2 ∷ [])
  -- what a finish of the row 1 2 forces on 2, on 3, which isn't there, and what another step does
  pub removed : removed_value (finished_with clause) false (FinishedFrom 0) 2 ≡ Some false
  pub removed_cube : removed_value (finished_with cube) true (FinishedFrom 0) 2 ≡ Some true
  pub not_removed : removed_value (finished_with cube) true (FinishedFrom 0) 3 ≡ None
  pub given : removed_value (finished_with cube) true Given 2 ≡ None
  pub end_row : end_row_of (finished_with clause) 1 ≡ plus 1 ∷ plus 2 ∷ []
  pub own_row : end_row_of (finished_with clause) 0 ≡ plus 1 ∷ plus 2 ∷ []
  -- so the values are the assumed one, the forced one, and false
  pub assumed_value : first_value (finished_with cube) (held_under true (plus 1 ∷ []) 1) 1 ≡ true
  pub forced_value : first_value (finished_with cube) (held_under true (plus 1 ∷ []) 1) 2 ≡ true
  pub other_value : first_value (finished_with cube) (held_under true (plus 1 ∷ []) 1) 3 ≡ false
  pub whole_value : first_value (finished_with cube) (held_under true (plus 1 ∷ minus 2 ∷ []) 0) 2 ≡ false
  -- a verdict of a formula: with its proof; not with the other truth, nor without a proof
  pub verdict : IsVerdictOf (formula_of existential_first differ) (verdict_with false [] refutation [])
  pub other_truth : IsVerdictOf (formula_of existential_first differ) (verdict_with true [] refutation []) → ⊥
  pub no_proof : IsVerdictOf (formula_of existential_first differ) (verdict_with false [] [] []) → ⊥
  -- no certificate for a verdict of the other side
  pub other_side : (s : Strategy) → s.winner ≡ Exists → IsCertificateOf opposing refuted s → ⊥
  -- the finish of a verdict may be live, that of another one may not, nor any where there is no verdict
  pub its_finish : HasFinishesOf (Some (held_under false [] 1)) (finished_with clause)
  pub another_finish : HasFinishesOf (Some (held_under false [] 0)) (finished_with clause) → ⊥
  pub left_finish : HasFinishesOf None (finished_with clause) → ⊥
  pub no_finish : HasFinishesOf None (record { notes = []; rows = Some [] })
