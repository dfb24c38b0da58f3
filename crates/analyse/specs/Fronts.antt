-- A row that is bad on a front of the trail.
use Rattle.std.specs.Prelude.{◌≡◌, ℕ, ◌<◌, List, take, Some}
use Rattle.prefix.specs.declared.quant.Quant.{Quant}
use Rattle.prefix.specs.Scopes.{Scope}
use Rattle.calculus.specs.Rows.{Row}
use Rattle.calculus.specs.Search.{Trail, IsBadRow, cause_on, place_on, value_on}
use Rattle.calculus.specs.Search.Cause.{Assumed}

-- a row is bad on a front of the trail, on which all assumed literals stand; its literals that aren't pivot-type may be
-- assigned behind it, whatever their values are
pub record IsBadOnFront (pivot : Quant) (scopes : List Scope) (trail : Trail) (row : Row) : Type 0 where
  pub end : ℕ
  pub bad : IsBadRow pivot scopes (value_on (take end trail)) row
  pub assumed : (x : ℕ) → cause_on trail x ≡ Some Assumed → place_on trail x < end
