-- How an engine holds what commands came to.
use Rattle.std.specs.Prelude.{◌≡◌, ◌≤◌, ◌-◌, ◌^◌, max, min, Some, option_map}
use Rattle.frames.specs.Fold.{Given}
use Rattle.engine.specs.Asks.{first_values}
use Rattle.engine.specs.State.{EngineState, VerdictState}
use Rattle.solve.specs.Standing.{Standing}
use Rattle.solve.specs.Terms.{Terms}

abbrev pub given_of : VerdictState → Given
given_of v = record { truth = v.truth; assumptions = v.assumptions }

-- An engine has the formula and the verdict that commands came to, with its proof and its play's values. It counted no
-- more clauses and variables than they have, and no solve of a greater budget or of more restarts; its count of solves
-- is theirs, up to its last value. Its next solve may begin anew as often, and keep as many long learned rows, as the
-- terms say.
pub record Holds (terms : Terms) (e : EngineState) (s : Standing) : Type 0 where
  pub formula : s.script.formula ≡ e.formula
  pub verdict : s.script.verdict ≡ option_map given_of e.verdict
  pub proof : (v : VerdictState) → e.verdict ≡ Some v → s.witness.proof ≡ v.proof
  pub values : (v : VerdictState) → e.verdict ≡ Some v → s.witness.values ≡ first_values e.formula v
  pub clauses : e.counts.clauses ≤ s.script.clauses
  pub solves : e.counts.solves ≡ min s.script.solves (2 ^ 64 - 1)
  pub budgets : e.counts.budget ≤ terms.budget
  pub restarts : e.restarts ≡ terms.restarts
  pub most_restarts : max e.counts.restarts e.restarts ≤ terms.greatest
  pub kept : e.kept_rows ≡ terms.kept
  pub variables : e.counts.vars ≤ s.script.greatest
