-- What a part of a turn gives.
use Rattle.std.specs.Prelude.{◌≡◌, ℕ, ◌≤◌, IfOk, IfSome, OnErr, OnOk, List, Option, None, Ok, Err, Result}
use Rattle.prefix.specs.Scopes.{Scope}
use Rattle.steps.specs.Counter.{Counter}
use Rattle.steps.specs.declared.stop.Stop.{Stop}
use Rattle.steps.specs.declared.stop.Stop.TheVariants.{Spent}
use Rattle.search.specs.Counting.{ReducesFew}
use Rattle.search.specs.Forgetting.{HasFewLong}
use Rattle.search.specs.Moves.{Advances, Ends, Halts, WasDue}
use Rattle.search.specs.State.{SearchState}
use Rattle.search.specs.declared.outcome.EndRow.{EndRow}

-- A part of a turn stops only for want of memory, or where the budget is spent and a step was due; what it leaves then
-- is a search that halts. Whatever it answers, at most one reduction came in for each step.
pub record StopsWhenDue {A : Type 0} (scopes : List Scope) (slack : ℕ) (old new : SearchState)
    (before now : Counter) (result : Result A Stop) : Type 0 where
  pub err : OnErr result (Halts scopes slack old new before now)
  pub spent : result ≡ Err Spent → now.spent ≡ now.budget
  pub due : result ≡ Err Spent → WasDue scopes old new
  pub reductions : ReducesFew old.derivation new.derivation before now

-- A part of a turn that is its last goes on, with more assignments or restarts, or ends with an end row. There are no
-- more restarts than that many, and long learned rows stay few beside those that may be kept.
pub record GoesOn (scopes : List Scope) (slack most kept : ℕ) (old new : SearchState) (before now : Counter)
    (result : Result (Option EndRow) Stop) : Type 0 where
  pub go : result ≡ Ok None → Advances scopes slack old new before now
  pub end : IfOk result (λ end. IfSome end (λ e. Ends scopes slack old new before now e.side e.row))
  pub restarts : old.trail.restarts ≤ most → new.trail.restarts ≤ most
  pub long : HasFewLong kept scopes old → OnOk result (HasFewLong kept scopes new)
