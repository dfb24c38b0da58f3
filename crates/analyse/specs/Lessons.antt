-- What analysis gives.
use Rattle.std.specs.Prelude.{ℕ, ◌<◌, IsTrue, List, Contains, is_some}
use Rattle.prefix.specs.declared.quant.Quant.{Quant}
use Rattle.prefix.specs.Literal.{Literal}
use Rattle.prefix.specs.Scopes.{Scope}
use Rattle.steps.specs.Counter.{Counter}
use Rattle.calculus.specs.Rows.{Row}
use Rattle.calculus.specs.Search.{Trail, AreTheAssumptions, IsLast, MakesUnitAt, decision_level_on, must_stay, value_on}
use Rattle.calculus.specs.Verdicts.{IsEndRow}
use Rattle.trail.specs.State.{TrailState, IsPropagated}
use Rattle.derive.specs.State.{State, row_of}
use Rattle.clean.specs.Reasons.{IsReducedStep}
use Rattle.clean.specs.Marks.{CleansReasons}
use Rattle.analyse.specs.Fronts.{IsBadOnFront}
use Rattle.analyse.specs.Levels.{MakesUnitFirstAt}
use Rattle.analyse.specs.declared.lesson.Lesson.{Lesson}
use Rattle.analyse.specs.declared.lesson.Lesson.TheVariants.{Learn, End}
use Rattle.analyse.specs.declared.lesson.Next.{Next}
use Rattle.analyse.specs.declared.lesson.Next.TheVariants.{Ends, Asserts, Resolves as resolves_on}

-- a row is an end row under the assumptions of a trail
abbrev pub EndsOn : Quant → List Scope → Trail → Row → Type 0
EndsOn pivot scopes trail row =
    (assumptions : List Literal) → AreTheAssumptions trail assumptions → IsEndRow pivot scopes assumptions row

-- a lesson: a step whose row makes its literal unit at a level below that of the trail, the least one at which it does,
-- or a step with an end row
abbrev pub IsLesson : Quant → List Scope → Trail → State → Lesson → Type 0
IsLesson pivot scopes trail d (Learn row literal level from) =
    IsReducedStep pivot scopes d row × MakesUnitFirstAt pivot scopes trail (row_of d row) literal level
IsLesson pivot scopes trail d (End row) = IsReducedStep pivot scopes d row × EndsOn pivot scopes trail (row_of d row)

-- a resolution is due for a bad row, which teaches nothing yet: its last pivot-type literal was propagated, and no
-- level makes the row unit in it
pub record NeedsResolution (pivot : Quant) (scopes : List Scope) (trail : Trail) (row : Row) : Type 0 where
  pub literal : Literal
  pub last : IsLast pivot scopes trail row literal
  pub propagated : IsPropagated trail literal.variable
  pub no_level : (b : ℕ) → MakesUnitAt pivot scopes trail row literal b → ⊥

-- a row that is bad on a front makes its last pivot-type literal unit at a level below that literal's: what must stay
-- bad there is assigned, and of lower levels
pub record MakesLast (pivot : Quant) (scopes : List Scope) (trail : Trail) (row : Row)
    (literal : Literal) : Type 0 where
  pub on : IsBadOnFront pivot scopes trail row
  pub last : IsLast pivot scopes trail row literal
  pub above : 0 < decision_level_on trail literal.variable
  pub below : (l : Literal) → Contains row l → IsTrue (must_stay pivot scopes literal l)
      → IsTrue (is_some (value_on trail l.variable))
      × (decision_level_on trail l.variable < decision_level_on trail literal.variable)

-- what comes next for a bad row: it is an end row, or makes a literal unit, or its last pivot-type literal was
-- propagated and no level makes it unit in that
abbrev pub IsNext : Quant → List Scope → Trail → Row → Next → Type 0
IsNext pivot scopes trail row Ends = EndsOn pivot scopes trail row
IsNext pivot scopes trail row (Asserts literal) = MakesLast pivot scopes trail row literal
IsNext pivot scopes trail row (resolves_on literal) =
    IsLast pivot scopes trail row literal
    × IsPropagated trail literal.variable
    × ((b : ℕ) → MakesUnitAt pivot scopes trail row literal b → ⊥)

-- a lesson came in, on the trail as it is then, after at most that many resolutions beside those of reasons made clean
pub record Learns (pivot : Quant) (scopes : List Scope) (trail now : TrailState) (most : ℕ) (old new : State)
    (before later : Counter) (lesson : Lesson) : Type 0 where
  pub cleans : CleansReasons scopes old new trail now before later most
  pub is : IsLesson pivot scopes now.placed new lesson
