-- The level at which a row is to be unit.
use Rattle.std.specs.Prelude.{◌≡◌, ℕ, ◌≤◌, ◌⊎◌, IsTrue, List, Contains}
use Rattle.prefix.specs.declared.quant.Quant.{Quant}
use Rattle.prefix.specs.Literal.{Literal}
use Rattle.prefix.specs.Scopes.{Scope}
use Rattle.calculus.specs.Rows.{Row}
use Rattle.calculus.specs.Search.{Trail, MakesUnitAt, decision_level_on, must_stay}

-- the greatest decision level of a row's literals that must stay bad where one is to be unit; 0 where there are none
pub record IsLevelBelow (pivot : Quant) (scopes : List Scope) (trail : Trail) (unit : Literal) (row : Row)
    (level : ℕ) : Type 0 where
  pub bound : (l : Literal) → Contains row l → IsTrue (must_stay pivot scopes unit l)
      → decision_level_on trail l.variable ≤ level
  pub reached : (level ≡ 0)
      ⊎ ((l : Literal) × Contains row l × IsTrue (must_stay pivot scopes unit l)
      × (decision_level_on trail l.variable ≡ level))

-- a row makes a literal unit at a level, and at no lower one: an asserting row with its least level
pub record MakesUnitFirstAt (pivot : Quant) (scopes : List Scope) (trail : Trail) (row : Row) (literal : Literal)
    (level : ℕ) : Type 0 where
  pub makes : MakesUnitAt pivot scopes trail row literal level
  pub least : (b : ℕ) → MakesUnitAt pivot scopes trail row literal b → level ≤ b
