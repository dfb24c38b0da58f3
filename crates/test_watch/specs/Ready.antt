-- What a desk keeps between calls.
use Rattle.std.specs.Prelude.{◌≢◌, List}
use Rattle.prefix.specs.declared.quant.Quant.{Quant}
use Rattle.prefix.specs.Scopes.{Scope}
use Rattle.calculus.specs.Search.{literals_on}
use Rattle.rows.specs.Arena.{Arena}
use Rattle.trail.specs.State.{IsTrailFor, TrailState}
use Rattle.trail.specs.declared.allowed.Allowed.TheVariants.{Nothing}
use Rattle.watch.specs.State.{Holds, IsFront, WatchState, looked}

-- a watch that holds the rows of an arena and looked at a front of a trail, on which literals may be assigned
pub record IsReady (pivot : Quant) (scopes : List Scope) (arena : Arena) (t : TrailState)
    (w : WatchState) : Type 0 where
  pub holds : Holds pivot scopes w arena
  pub front : IsFront (looked w) (literals_on t.placed)
  pub order : IsTrailFor scopes t
  pub allowed : t.allowed ≢ Nothing
