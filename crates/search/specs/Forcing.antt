-- Searches without decisions.
use Rattle.std.specs.Prelude.{◌≡◌, ℕ, ◌+◌, ◌⊎◌, IsTrue, IsFalse, is_some, Some, List, length, Contains}
use Rattle.prefix.specs.declared.quant.Quant.TheVariants.{Exists, Forall}
use Rattle.prefix.specs.Literal.{Literal}
use Rattle.prefix.specs.Scopes.{Scope, quantifier_of}
use Rattle.steps.specs.Counter.{Counter}
use Rattle.calculus.specs.Rows.{Row}
use Rattle.calculus.specs.Search.{AreTheAssumptions, IsRefuted, Placed, cause_on, is_decision, value_on}
use Rattle.calculus.specs.Search.Cause.{Assumed}
use Rattle.derive.specs.State.{is_live, side_at}
use Rattle.watch.specs.Links.{is_attached}
use Rattle.search.specs.State.{SearchState, rows_of}

-- no cube is attached
abbrev pub NoCubeAttached : SearchState → Type 0
NoCubeAttached s = (id : ℕ) → IsFalse (is_attached Forall (rows_of s) id)

-- no live row to watch is a cube
abbrev pub HasNoCubes : SearchState → Type 0
HasNoCubes s = (id : ℕ) → Contains s.watched id → IsTrue (is_live s.derivation id) → side_at s.derivation id ≡ Exists

-- no decision stands on the trail, no universal variable but assumed ones, no cube is attached, and since a start
-- there was one step for each literal on the trail
pub record IsForced (scopes : List Scope) (start : ℕ) (s : SearchState) (steps : Counter) : Type 0 where
  pub undecided : (p : Placed) → Contains s.trail.placed p → IsFalse (is_decision p.cause)
  pub others : (x : ℕ) → IsTrue (is_some (value_on s.trail.placed x))
      → (cause_on s.trail.placed x ≡ Some Assumed) ⊎ (quantifier_of scopes x ≡ Some Exists)
  pub no_cubes : NoCubeAttached s
  pub counted : steps.spent ≡ start + length s.trail.placed

-- propagation refutes the clauses under the assumptions of a trail, and the search did nothing else so far
pub record IsRefuting (scopes : List Scope) (matrix : List Row) (start : ℕ) (s : SearchState)
    (steps : Counter) : Type 0 where
  pub assumptions : List Literal
  pub assumed : AreTheAssumptions s.trail.placed assumptions
  pub refuted : IsRefuted scopes matrix assumptions
  pub forced : IsForced scopes start s steps
