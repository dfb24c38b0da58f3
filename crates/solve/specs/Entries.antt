-- What is told of a search that stopped.
use Rattle.std.specs.Prelude.{◌≡◌, ℕ, ◌<◌, ◌≤◌, List, ◌∷◌, ◌++◌, Option, None, Some, []}
use Rattle.calculus.specs.Limits.{steps_for}
use Rattle.trail.specs.State.{Account}
use Rattle.solve.specs.declared.answer.Answer.{Answer}
use Rattle.solve.specs.Terms.{Terms}
use Rattle.solve.specs.declared.answer.Answer.TheVariants.{Sat, Unsat, Unknown}

-- A search over n variables stopped where its budget was spent. It made so many assignments that the budget is few
-- steps for them, and began anew no more often than it may.
pub record IsStopAt (terms : Terms) (n : ℕ) (stopped : Account) : Type 0 where
  pub budget : stopped.budget ≡ terms.budget
  pub vars : stopped.vars ≡ n
  pub few : terms.budget < steps_for n stopped.assigned
  pub restarts : stopped.restarts ≤ terms.restarts

-- One more entry, of which this is so, where the answer is unknown, and else none.
abbrev pub AddsEntry : (Account → Type 0) → List Account → List Account → Answer → Type 0
AddsEntry P old new Sat = new ≡ old
AddsEntry P old new Unsat = new ≡ old
AddsEntry P old new Unknown = (stopped : Account) × (new ≡ old ++ stopped ∷ []) × P stopped

-- what is told, if anything is
abbrev pub listed : Option Account → List Account
listed None = []
listed (Some stopped) = stopped ∷ []
