-- What stands before a cleaning, and after it.
use Rattle.std.specs.Prelude.{List, IsTrue}
use Rattle.prefix.specs.declared.quant.Quant.{Quant}
use Rattle.prefix.specs.Scopes.{Scope}
use Rattle.trail.specs.State.{TrailState, IsTrailFor}
use Rattle.derive.specs.State.{State, IsLegalFor, has_rows}
use Rattle.clean.specs.Reasons.{HaveReasons}
use Rattle.clean.specs.Marks.{KeepsReasons}

-- before a cleaning: each live step is legal, the trail is in order, and it has its reasons of a side
pub record IsCleanable (pivot : Quant) (scopes : List Scope) (d : State) (t : TrailState) : Type 0 where
  pub rows : IsTrue (has_rows d)
  pub legal : IsLegalFor scopes d
  pub trail : IsTrailFor scopes t
  pub reasons : HaveReasons pivot scopes d t

-- after it, whatever it answers: that is so still, with the reasons of both sides
pub record StaysCleanable (scopes : List Scope) (old new : State) (t now : TrailState) : Type 0 where
  pub rows : IsTrue (has_rows new)
  pub legal : IsLegalFor scopes new
  pub trail : IsTrailFor scopes now
  pub reasons : KeepsReasons scopes old new t now
