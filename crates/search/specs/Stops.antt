-- When a solve may stop without an outcome, and what an outcome is.
use Rattle.std.specs.Prelude.{◌≡◌, ℕ, ◌-◌, ◌<◌, ◌≤◌, ⊤, IsTrue, List, length}
use Rattle.prefix.specs.Literal.{Literal}
use Rattle.prefix.specs.Scopes.{Scope}
use Rattle.prefix.specs.Sides.{bad_of}
use Rattle.steps.specs.Counter.{Counter, left, step_limit}
use Rattle.truth.specs.Truth.{truth_under}
use Rattle.calculus.specs.Limits.{propagation_limit, steps_for}
use Rattle.calculus.specs.Rows.{Row}
use Rattle.calculus.specs.Search.{AreTheAssumptions}
use Rattle.trail.specs.State.{Account}
use Rattle.derive.specs.State.{State, clauses_of, is_live, side_at}
use Rattle.step_core.specs.Cores.{IsFinishAt}
use Rattle.search.specs.Counting.{size_of}
use Rattle.search.specs.Moves.{IsDue}
use Rattle.search.specs.State.{IsSearching, SearchState}
use Rattle.search.specs.declared.outcome.Outcome.{Outcome}
use Rattle.search.specs.declared.outcome.SolveStop.{SolveStop}
use Rattle.search.specs.declared.outcome.SolveStop.TheVariants.{Spent, NoMemory}

-- A step was due where no more were left: a literal was to be assumed, after as many assignments as there were steps
-- left at first; or one was due in a search of these clauses under these assumptions, after this many assignments.
pub data WasSpentWhenDue (scopes : List Scope) (d : State) (assumptions : List Literal) (before : Counter)
    (assigned : ℕ) : Type 0 where
  assuming : left before < length assumptions → assigned ≡ left before
      → WasSpentWhenDue scopes d assumptions before assigned
  searching : (at : SearchState) → IsSearching scopes at → clauses_of at.derivation ≡ clauses_of d
      → AreTheAssumptions at.trail.placed assumptions → assigned ≡ at.trail.assigned → IsDue scopes at
      → WasSpentWhenDue scopes d assumptions before assigned

-- The budget is spent, and a step was due. What is told is told of the budget and of the prefix's variables; the steps
-- of the call are few for its assignments; the search began anew at most so often; and fewer steps were left than
-- suffice for so many variables.
pub record IsSpent (most : ℕ) (scopes : List Scope) (d : State) (assumptions : List Literal) (before now : Counter)
    (stopped : Account) : Type 0 where
  pub spent : now.spent ≡ now.budget
  pub budget : stopped.budget ≡ before.budget
  pub vars : stopped.vars ≡ size_of scopes
  pub due : WasSpentWhenDue scopes d assumptions before stopped.assigned
  pub few : now.spent - before.spent < steps_for (size_of scopes) stopped.assigned
  pub restarts : stopped.restarts ≤ most
  pub short : left before < step_limit most (size_of scopes)

-- a stop comes for want of memory at any time, else only where the budget is spent
abbrev pub IsStop : ℕ → List Scope → State → List Literal → Counter → Counter → SolveStop → Type 0
IsStop restarts scopes d assumptions before now (Spent stopped) =
    IsSpent restarts scopes d assumptions before now stopped
IsStop restarts scopes d assumptions before now NoMemory = ⊤

-- where propagation refutes the clauses, and there is no cube, it comes only with fewer steps left than these
abbrev pub IsQuickStop : ℕ → Counter → SolveStop → Type 0
IsQuickStop n before (Spent stopped) = left before < propagation_limit n
IsQuickStop n before NoMemory = ⊤

-- an outcome: the formula's truth under the assumptions is the value for which the loser stands not, and the end is the
-- finish of an end row of the loser's side
pub record IsOutcome (scopes : List Scope) (clauses : List Row) (assumptions : List Literal) (d : State)
    (outcome : Outcome) : Type 0 where
  pub truth : truth_under assumptions scopes clauses ≡ bad_of outcome.loser
  pub live : IsTrue (is_live d outcome.end)
  pub of_side : side_at d outcome.end ≡ outcome.loser
  pub finish : IsFinishAt scopes assumptions d outcome.end
