-- What may be decided.
use Rattle.std.specs.Prelude.{◌≡◌, ℕ, List, Contains, None}
use Rattle.prefix.specs.Scopes.{Scope, all_variables}
use Rattle.calculus.specs.Rows.{depth_of}
use Rattle.calculus.specs.Search.{Trail, MayStand, value_on}
use Rattle.calculus.specs.Search.Cause.{Decided}

-- a variable to decide: of the prefix, unassigned, and of the first scope that has an unassigned one
pub record IsDecision (scopes : List Scope) (trail : Trail) (x : ℕ) : Type 0 where
  pub known : Contains (all_variables scopes) x
  pub unassigned : value_on trail x ≡ None
  pub order : MayStand scopes trail x Decided

-- an unassigned variable of the scope with this number
pub record IsOpenIn (scopes : List Scope) (trail : Trail) (scope x : ℕ) : Type 0 where
  pub known : Contains (all_variables scopes) x
  pub unassigned : value_on trail x ≡ None
  pub depth : depth_of scopes x ≡ scope
