-- What the tests keep, and what they look at before a call.
use Rattle.std.specs.Prelude.{◌≡◌, ℕ, Bool, true, false, IsTrue, IsFalse, List, [], Option, ◌⊎◌}
use Rattle.prefix.specs.declared.quant.Quant.{Quant}
use Rattle.prefix.specs.declared.quant.Quant.TheVariants.{Forall}
use Rattle.prefix.specs.Literal.{Literal}
use Rattle.prefix.specs.Scopes.{Scope}
use Rattle.calculus.specs.Rows.{is_pivot}
use Rattle.calculus.specs.Search.{Cause, IsKept, IsLater, IsUnitIn, Trail, is_bad_now, is_open, value_on}
use Rattle.calculus.specs.Search.Cause.{Propagated}
use Rattle.trail.specs.declared.allowed.Allowed.TheVariants.{Anything}
use Rattle.trail.specs.State.{TrailState, IsTrailFor}
use Rattle.derive.specs.State.{State, clauses_of, has_rows, row_of, IsLegalFor}
use Rattle.derive.specs.declared.step.Step.{Step}
use Rattle.derive.specs.declared.step.Step.TheVariants.{InputClause, InputCube, Reduced, Finished, Resolved}
use Rattle.clean.specs.Reasons.{HaveReasons, IsReducedStep}

-- a derivation with its rows, legal for its clauses, of which there are none where its rows are cubes
pub record IsStored (pivot : Quant) (scopes : List Scope) (d : State) : Type 0 where
  pub rows : IsTrue (has_rows d)
  pub legal : IsLegalFor scopes d
  pub bare : pivot ≡ Forall → clauses_of d ≡ []

-- and a trail with reasons of a side, on which anything may be assigned next
pub record IsReady (pivot : Quant) (scopes : List Scope) (d : State) (t : TrailState) : Type 0 where
  pub stored : IsStored pivot scopes d
  pub trail : IsTrailFor scopes t
  pub allowed : t.allowed ≡ Anything
  pub reasons : HaveReasons pivot scopes d t

-- whether a step is a finish
abbrev pub is_finished : Step → Bool
is_finished InputClause = false
is_finished InputCube = false
is_finished (Reduced a) = false
is_finished (Finished a) = true
is_finished (Resolved a b x) = false

-- what a pending row asks of a literal
abbrev pub MayPend : Quant → List Scope → Trail → Option Literal → Literal → Type 0
MayPend pivot scopes trail kept literal =
    IsKept kept literal
    ⊎ (IsTrue (is_bad_now pivot (value_on trail) literal)
    ⊎ (IsTrue (is_open (value_on trail) literal) × IsFalse (is_pivot pivot scopes literal)
    × IsLater scopes kept literal))

-- where a literal of a row is to be made good by propagation, the row of the reduced step is unit in it
abbrev pub HasUnitRow : Quant → List Scope → State → Trail → Literal → Cause → Type 0
HasUnitRow pivot scopes d trail literal cause = (id : ℕ) → cause ≡ Propagated id
    → IsReducedStep pivot scopes d id × IsUnitIn pivot scopes (value_on trail) (row_of d id) literal
