-- Worked values: how a trial stops, and what is tried.
use Rattle.std.specs.Prelude.{◌≡◌, ℕ, [], ◌∷◌, Contains}
use Rattle.calculus.specs.Rows.{Row}
use Rattle.calculus.specs.Worked.{plus}
use Rattle.trail.specs.State.{Account}
use Rattle.derive.specs.State.{open_clauses}
use Rattle.search.specs.declared.outcome.SolveStop.TheVariants.{NoMemory, Spent}
use Rattle.cores.specs.Cores.{Group}
use Rattle.cores.specs.Trials.{IsSpentOn, IsSpentTrial, IsTrialStop}
use Rattle.cores.specs.Worked.{doubled, first_one, two_variables}

-- what is told of a search over 1 and 2 that stopped with this budget, before any assignment
abbrev pub stopped_at : ℕ → Account
stopped_at budget = record { budget = budget; vars = 2; assigned = 0; restarts = 0 }

pub record WorkedTrials : Type 0 where
  -- want of memory stops a trial at any time
  pub memory : IsTrialStop 0 100 two_variables [] doubled [] NoMemory
  -- without a step left, 1 can't be assumed; of 100 steps few are taken without an assignment
  pub at_once : IsTrialStop 0 0 two_variables [] doubled (plus 1 ∷ []) (Spent (stopped_at 0))
  pub never_spent : IsTrialStop 0 100 two_variables [] doubled [] (Spent (stopped_at 100)) → ⊥
  pub other_budget : IsTrialStop 0 1 two_variables [] doubled [] (Spent (stopped_at 0)) → ⊥
  -- the search that stopped was one of exactly these clauses
  pub of_these : (stopped : Account) → (h : IsSpentOn 0 9 two_variables ((plus 1 ∷ []) ∷ []) [] stopped)
      → (row : Row) → Contains (open_clauses h.derivation) row → row ≡ plus 1 ∷ []
  pub of_all_these : (stopped : Account) → (h : IsSpentOn 0 9 two_variables ((plus 1 ∷ []) ∷ []) [] stopped)
      → Contains (open_clauses h.derivation) (plus 1 ∷ [])
  -- and those tried are among the groups
  pub among : (stopped : Account) → (h : IsSpentTrial 0 9 two_variables [] (first_one ∷ []) [] stopped) → (g : Group)
      → Contains h.some g → g ≡ first_one
