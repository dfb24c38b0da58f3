-- How the steps of a search are counted, and the reductions that come in.
use Rattle.std.specs.Prelude.{ℕ, ◌+◌, ◌-◌, ◌*◌, ◌^◌, ◌<◌, ◌≤◌, List, length}
use Rattle.prefix.specs.Scopes.{Scope, all_variables}
use Rattle.steps.specs.Counter.{Counter}
use Rattle.calculus.specs.Limits.{steps_for}
use Rattle.trail.specs.State.{TrailState}
use Rattle.derive.specs.State.{State}
use Rattle.clean.specs.Marks.{marks_left}
use Rattle.clean.specs.Turns.{reductions_in}

-- the number of variables
abbrev pub size_of : List Scope → ℕ
size_of scopes = length (all_variables scopes)

-- what a lesson costs at most: 2 n resolutions with as many reductions, and the reduction of an initial cube
abbrev pub lesson_cost : ℕ → ℕ
lesson_cost n = 4 * n + 1

-- The steps since a start are few: each assignment pays for its own step, for making its reason clean once, and, while
-- it stands, for the lesson that undoes it. A slack stands for what a lesson has cost that isn't undone yet.
pub record IsCounted (n slack start : ℕ) (t : TrailState) (steps : Counter) : Type 0 where
  pub later : start ≤ steps.spent
  pub few : (steps.spent - start) + (lesson_cost n * length t.placed + 2 * n * marks_left t)
      ≤ (6 * n + 2) * t.assigned + slack
  pub less : t.assigned ≤ steps.spent - start
  pub within : steps.spent ≤ steps.budget
  pub fits : steps.budget < 2 ^ 64

-- the same where a solve stops
pub record IsBounded (n start : ℕ) (t : TrailState) (steps : Counter) : Type 0 where
  pub later : start ≤ steps.spent
  pub few : steps.spent - start < steps_for n t.assigned

-- at most one reduction came in for each step that was taken
abbrev pub ReducesFew : State → State → Counter → Counter → Type 0
ReducesFew old new before now = reductions_in new ≤ reductions_in old + (now.spent - before.spent)
