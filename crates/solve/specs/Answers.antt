-- What the answer to a formula is, and its line and status.
use Rattle.std.specs.Prelude.{◌≡◌, ℕ, ◌<◌, true, false, List, codes, []}
use Rattle.truth.specs.declared.formula.Formula.{Formula}
use Rattle.truth.specs.Truth.{truth}
use Rattle.steps.specs.Counter.{step_limit}
use Rattle.calculus.specs.Limits.{propagation_limit}
use Rattle.calculus.specs.Search.{IsRefuted}
use Rattle.search.specs.Counting.{size_of}
use Rattle.solve.specs.Terms.{Terms}
use Rattle.solve.specs.declared.answer.Answer.{Answer}
use Rattle.solve.specs.declared.answer.Answer.TheVariants.{Sat, Unsat, Unknown}

-- The budget is short for a formula: below the step limit of its variables, for a search that may begin anew so often,
-- and where propagation alone refutes the clauses below the limit of propagation.
pub record IsShort (terms : Terms) (f : Formula) : Type 0 where
  pub limit : terms.budget < step_limit terms.restarts (size_of f.prefix)
  pub propagation : IsRefuted f.prefix f.clauses [] → terms.budget < propagation_limit (size_of f.prefix)

-- An answer to a formula: that it is true, that it is false, or unknown, for which the budget must be short.
abbrev pub IsAnswerTo : Terms → Formula → Answer → Type 0
IsAnswerTo terms f Sat = truth f.prefix f.clauses ≡ true
IsAnswerTo terms f Unsat = truth f.prefix f.clauses ≡ false
IsAnswerTo terms f Unknown = IsShort terms f

-- The exit status of an answer.
abbrev pub answer_status : Answer → ℕ
answer_status Sat = 10
answer_status Unsat = 20
answer_status Unknown = 0

-- The line of an answer.
abbrev pub answer_line : Answer → List ℕ
answer_line Sat = codes "SAT\n"
answer_line Unsat = codes "UNSAT\n"
answer_line Unknown = codes "UNKNOWN\n"
