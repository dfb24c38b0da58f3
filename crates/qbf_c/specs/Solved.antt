-- What a solve's code says.
use Rattle.std.specs.Prelude.{◌≡◌, ◌≢◌, ℕ, ◌<◌, ◌≤◌, Bool, true, false, [], Some, None}
use Rattle.steps.specs.Counter.{Counter, step_limit}
use Rattle.truth.specs.Truth.{truth_under}
use Rattle.calculus.specs.Limits.{propagation_limit}
use Rattle.calculus.specs.Search.{IsRefuted}
use Rattle.calculus.specs.Verdicts.{IsProof}
use Rattle.trail.specs.State.{Account}
use Rattle.frames.specs.State.{open_clauses}
use Rattle.search.specs.Counting.{size_of}
use Rattle.search.specs.declared.outcome.SolveStop.TheVariants.{Spent}
use Rattle.engine.specs.Counting.{with_solve}
use Rattle.engine.specs.State.{EngineState, VerdictState}
use Rattle.engine.specs.Verdicts.{IsStopFor, loser_of}
use Rattle.qbf_c.specs.Codes.{no_memory}

-- a counter of this budget after so many steps
abbrev pub counter : ℕ → ℕ → Counter
counter budget spent = record { spent = spent; budget = budget }

-- The formula has this truth under its assumptions, which are gone. The verdict is kept, with those assumptions, with a
-- proof, and with how many long learned rows its solve might keep.
pub record Solved (b : Bool) (before now : EngineState) : Type 0 where
  pub truth : truth_under before.formula.assumptions before.formula.scopes (open_clauses before.formula) ≡ b
  pub emptied : now.formula ≡ record before.formula { assumptions = [] }
  pub state : VerdictState
  pub there : now.verdict ≡ Some state
  pub same_truth : state.truth ≡ b
  pub same_assumptions : state.assumptions ≡ before.formula.assumptions
  pub proof : IsProof (loser_of b) before.formula.scopes (open_clauses before.formula) before.formula.assumptions
      state.proof
  pub last_row : proof.last.row ≡ state.row
  pub obeyed : state.kept ≡ before.kept_rows

-- The solve stopped: the formula is as before, and there is no verdict.
pub record Stopped (before now : EngineState) : Type 0 where
  pub formula : now.formula ≡ before.formula
  pub none : now.verdict ≡ None

-- What makes 0 the answer: the budget is spent, and a step was due in a search of this formula. That is never so where
-- it suffices for the variables and the restarts; at the first solve, where propagation refutes the clauses, only with
-- few steps.
pub record RanOut (budget : ℕ) (before : EngineState) (spent : ℕ) : Type 0 where
  pub account : Account
  pub stop : IsStopFor before.restarts before.formula (counter budget 0) (counter budget spent) (Spent account)
  pub all : spent ≡ budget
  pub short : budget < step_limit before.restarts (size_of before.formula.scopes)
  pub quick : before.counts.solves ≡ 0
      → IsRefuted before.formula.scopes (open_clauses before.formula) before.formula.assumptions
      → budget < propagation_limit (size_of before.formula.scopes)

-- 10 and 20 are verdicts, 0 comes where the budget is spent, and 60 for want of memory. However it ends, the solve is
-- counted, and takes no more steps than its budget; what was set stays.
pub record SolveSays (budget : ℕ) (before now : EngineState) (spent code : ℕ) : Type 0 where
  pub yes : code ≡ 10 → Solved true before now
  pub no : code ≡ 20 → Solved false before now
  pub stopped : code ≢ 10 → code ≢ 20 → Stopped before now
  pub ran_out : code ≡ 0 → RanOut budget before spent
  pub codes : code ≢ 10 → code ≢ 20 → code ≢ 0 → code ≡ no_memory
  pub within : spent ≤ budget
  pub counts : now.counts ≡ with_solve budget before.restarts (size_of before.formula.scopes) before.counts
  pub restarts : now.restarts ≡ before.restarts
  pub kept_rows : now.kept_rows ≡ before.kept_rows
