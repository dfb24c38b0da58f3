-- What a solve of the open formula comes to.
use Rattle.std.specs.Prelude.{◌≡◌, ◌⊎◌, ◌<◌, length, true, false, Bool, List, ◌∷◌, codes, Some, ⊤, []}
use Rattle.steps.specs.Counter.{step_limit}
use Rattle.truth.specs.Truth.{truth_under}
use Rattle.calculus.specs.Limits.{propagation_limit}
use Rattle.calculus.specs.Search.{IsRefuted}
use Rattle.trail.specs.State.{Account}
use Rattle.frames.specs.Commands.{Solve as Decide, Stop, Verdict}
use Rattle.frames.specs.Fold.{Given, state_after}
use Rattle.frames.specs.State.{OpenFormula, open_clauses}
use Rattle.search.specs.Counting.{size_of}
use Rattle.solve.specs.Standing.{IsWitness, Standing}
use Rattle.solve.specs.Entries.{IsStopAt}
use Rattle.solve.specs.Terms.{Terms}
use Rattle.engine.specs.State.{EngineState}
use Rattle.solve.specs.declared.answer.Answer.{Answer}
use Rattle.solve.specs.declared.answer.Answer.TheVariants.{Sat, Unsat, Unknown}
use Rattle.solve.specs.Outputs.{Output, verdict_text, says}
use Rattle.solve.specs.Answers.{answer_line}
use Rattle.solve.specs.Holding.{Holds}
use Rattle.truth.specs.declared.formula.Formula.{Formula}
use Rattle.solve.specs.Feeding.{opened}
use Rattle.solve.specs.declared.decision.Decision.{Decision}
use Rattle.solve.specs.declared.decision.Decision.TheVariants.{Sat as is_sat, Unsat as is_unsat, Unknown as is_unknown}

-- what it tells of a search that stopped
abbrev pub told_by : Decision → List Account
told_by is_sat = []
told_by is_unsat = []
told_by (is_unknown stopped) = stopped ∷ []

-- its answer
abbrev pub answered : Decision → Answer
answered is_sat = Sat
answered is_unsat = Unsat
answered (is_unknown stopped) = Unknown

-- that of a verdict
abbrev pub decision_of : Bool → Decision
decision_of true = is_sat
decision_of false = is_unsat

-- It is right of a formula with this truth: it says the truth, or that the budget was spent first.
abbrev pub IsRight : Bool → Decision → Type 0
IsRight truth is_sat = truth ≡ true
IsRight truth is_unsat = truth ≡ false
IsRight truth (is_unknown stopped) = ⊤

-- the truth of a formula under its assumptions
abbrev pub truth_of : OpenFormula → Bool
truth_of f = truth_under f.assumptions f.scopes (open_clauses f)

-- A verdict is the truth of the open formula under the assumptions, and is kept with a witness.
pub record Decides (s : Standing) (out : Output) (after : Standing) : Type 0 where
  pub truth : Bool
  pub right : truth_under s.script.formula.assumptions s.script.formula.scopes
      (open_clauses s.script.formula) ≡ truth
  pub witness : IsWitness s.script.formula (record {
    truth = truth;
    assumptions = s.script.formula.assumptions;
  }) after.witness
  pub says_truth : out ≡ says (verdict_text truth)
  pub state : after.script ≡ state_after s.script (Decide (Verdict truth))

-- Without a verdict the budget is below the step limit of the formula's variables, for a search that may begin anew so
-- often, and a search over these stopped at it. At the first solve, where propagation refutes the clauses from the
-- assumptions, the budget is below the limit of propagation.
pub record GivesUp (terms : Terms) (s : Standing) (out : Output) (after : Standing) : Type 0 where
  pub stopped : Account
  pub short : terms.budget < step_limit terms.restarts (size_of s.script.formula.scopes)
  pub slow : s.script.solves ≡ 0 → IsRefuted s.script.formula.scopes (open_clauses s.script.formula)
      s.script.formula.assumptions → terms.budget < propagation_limit (size_of s.script.formula.scopes)
  pub stop : IsStopAt terms (size_of s.script.formula.scopes) stopped
  pub says_unknown : out ≡ record { text = codes "UNKNOWN\n"; stops = stopped ∷ [] }
  pub state : after ≡ record s { script = state_after s.script (Decide Stop) }

-- What a solve may come to: a verdict, or none.
abbrev pub IsSolved : Terms → Standing → Output → Standing → Type 0
IsSolved terms s out after = Decides s out after ⊎ GivesUp terms s out after

-- without a verdict
abbrev pub stopped_at : Standing → Standing
stopped_at s = record s { script = state_after s.script (Decide Stop) }

-- A decision of the open formula is what a solve may come to, with the line of its answer; it says the truth, or that
-- the budget was spent; and the engine holds what it comes to.
pub record IsDecided (terms : Terms) (s : Standing) (decision : Decision) (e : EngineState) : Type 0 where
  pub after : Standing
  pub solved : IsSolved terms s (record { text = answer_line (answered decision); stops = told_by decision }) after
  pub right : IsRight (truth_of s.script.formula) decision
  pub holds : Holds terms e after

-- a verdict under no assumption
abbrev pub unassumed : Bool → Given
unassumed truth = record { truth = truth; assumptions = [] }

-- the answer with this truth
abbrev pub answer_with : Bool → Answer
answer_with true = Sat
answer_with false = Unsat

-- the verdict of an answer to a formula, with its witness; an unknown one has none
abbrev pub HasVerdictFor : Formula → Answer → Standing → Type 0
HasVerdictFor f Sat s = (s.script.verdict ≡ Some (unassumed true)) × IsWitness (opened f) (unassumed true) s.witness
HasVerdictFor f Unsat s = (s.script.verdict ≡ Some (unassumed false)) × IsWitness (opened f) (unassumed false) s.witness
HasVerdictFor f Unknown s = ⊤

-- commands came to this formula by as many clauses, and to its answer by one solve
pub record IsAnsweredBy (f : Formula) (answer : Answer) (s : Standing) : Type 0 where
  pub formula : s.script.formula ≡ opened f
  pub clauses : s.script.clauses ≡ length f.clauses
  pub solves : s.script.solves ≡ 1
  pub greatest : s.script.greatest ≡ size_of f.prefix
  pub verdict : HasVerdictFor f answer s
