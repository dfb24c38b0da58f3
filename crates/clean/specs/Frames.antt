-- The list of reasons on the way to be cleaned.
use Rattle.std.specs.Prelude.{◌≡◌, ℕ, ◌+◌, ◌<◌, ◌≤◌, ⊤, IsTrue, IsFalse, List, [], ◌∷◌, ◌++◌, take, Some}
use Rattle.prefix.specs.declared.quant.Quant.{Quant}
use Rattle.prefix.specs.Literal.{Literal, negation}
use Rattle.prefix.specs.Scopes.{Scope}
use Rattle.steps.specs.Counter.{Counter, after}
use Rattle.calculus.specs.Rows.{Row, is_pivot}
use Rattle.calculus.specs.Search.{Blocks, IsLastBlocker, Trail, cause_on, is_bad_now, place_on, value_on}
use Rattle.calculus.specs.Search.Cause.{Propagated}
use Rattle.trail.specs.State.{TrailState, IsPropagated, is_marked, with_clean}
use Rattle.derive.specs.State.{State, row_of}
use Rattle.clean.specs.Blockers.{IsBlocked}
use Rattle.clean.specs.Reasons.{IsOnTheWay, IsReducedStep}
use Rattle.clean.specs.Turns.{Resolves}
use Rattle.clean.specs.declared.frame.Frame.{Frame}
use Rattle.clean.specs.declared.frame.Look.{Look}
use Rattle.clean.specs.declared.frame.Look.TheVariants.{Ends, Waits, Turns as turns_on}

-- the front of the trail before a variable
abbrev pub front_of : TrailState → ℕ → Trail
front_of t x = take (place_on t.placed x) t.placed

-- what comes next for a row: nothing keeps an open literal from reduction; or the reason of the last literal that does
-- isn't marked; or it is
abbrev pub IsLook : Quant → List Scope → TrailState → ℕ → Row → Look → Type 0
IsLook pivot scopes t end row Ends =
    (f u : Literal) → Blocks pivot scopes (value_on (take end t.placed)) row f u → ⊥
IsLook pivot scopes t end row (Waits x) =
    ((f : Literal) × IsLastBlocker pivot scopes (take end t.placed) row f × (f.variable ≡ x))
    × IsPropagated t.placed x × IsFalse (is_marked t x)
IsLook pivot scopes t end row (turns_on f id) =
    IsLastBlocker pivot scopes (take end t.placed) row f × IsTrue (is_marked t f.variable)
    × (cause_on t.placed f.variable ≡ Some (Propagated id))

-- a reason on the way: its variable is propagated and not marked, its row keeps the literal that it makes good, and
-- what the row may still be resolved on stands before a place
pub record IsFrame (pivot : Quant) (scopes : List Scope) (d : State) (t : TrailState) (f : Frame) : Type 0 where
  pub bad : Literal
  pub over : bad.variable ≡ f.var
  pub pivot_type : IsTrue (is_pivot pivot scopes bad)
  pub is_bad : IsTrue (is_bad_now pivot (value_on t.placed) bad)
  pub propagated : IsPropagated t.placed f.var
  pub unmarked : IsFalse (is_marked t f.var)
  pub step : IsReducedStep pivot scopes d f.row
  pub way : IsOnTheWay pivot scopes (front_of t f.var) (Some (negation bad)) (row_of d f.row)
  pub blockers : (g u : Literal) → Blocks pivot scopes (value_on (front_of t f.var)) (row_of d f.row) g u
      → place_on (front_of t f.var) g.variable < f.left
  pub within : f.left ≤ place_on t.placed f.var

-- such reasons, each of an earlier place than the one before it
abbrev pub AreFrames : Quant → List Scope → State → TrailState → ℕ → List Frame → Type 0
AreFrames pivot scopes d t above [] = ⊤
AreFrames pivot scopes d t above (f ∷ rest) =
    (place_on t.placed f.var < above) × IsFrame pivot scopes d t f
    × AreFrames pivot scopes d t (place_on t.placed f.var) rest

-- the row of a reason is still blocked: a resolution is due for it
abbrev pub IsFrameBlocked : Quant → List Scope → State → TrailState → Frame → Type 0
IsFrameBlocked pivot scopes d t f = IsBlocked pivot scopes (front_of t f.var) (row_of d f.row)

-- that of the last one on the list
pub record IsDue (pivot : Quant) (scopes : List Scope) (d : State) (t : TrailState) (stack : List Frame) : Type 0 where
  pub rest : List Frame
  pub top : Frame
  pub is : stack ≡ rest ++ top ∷ []
  pub blocked : IsFrameBlocked pivot scopes d t top

-- that of the first one
abbrev pub IsFirstBlocked : Quant → List Scope → State → TrailState → List Frame → Type 0
IsFirstBlocked pivot scopes d t [] = ⊥
IsFirstBlocked pivot scopes d t (f ∷ rest) = IsFrameBlocked pivot scopes d t f

-- the last one was taken off, and is now marked with its row
pub record Marks (old new : State) (t now : TrailState) (stack then : List Frame)
    (before after_it : Counter) : Type 0 where
  pub top : Frame
  pub taken_off : stack ≡ then ++ top ∷ []
  pub marked : now ≡ with_clean t top.var top.row
  pub same : new ≡ old
  pub uncounted : after_it ≡ before

-- a reason of an earlier place came onto the list
pub record WaitsFor (old new : State) (t now : TrailState) (stack then : List Frame)
    (before after_it : Counter) : Type 0 where
  pub rest : List Frame
  pub top : Frame
  pub next : Frame
  pub is : stack ≡ rest ++ top ∷ []
  pub more : then ≡ (rest ++ top ∷ []) ++ next ∷ []
  pub earlier : place_on t.placed next.var < place_on t.placed top.var
  pub whole : next.left ≡ place_on t.placed next.var
  pub same_trail : now ≡ t
  pub same : new ≡ old
  pub uncounted : after_it ≡ before

-- the last one's row was resolved once, and reduced
pub record TurnsTop (scopes : List Scope) (old new : State) (t now : TrailState) (stack then : List Frame)
    (before after_it : Counter) : Type 0 where
  pub rest : List Frame
  pub top : Frame
  pub next : Frame
  pub is : stack ≡ rest ++ top ∷ []
  pub turned : then ≡ rest ++ next ∷ []
  pub same_variable : next.var ≡ top.var
  pub fewer : next.left < top.left
  pub same_trail : now ≡ t
  pub reduced : ℕ
  pub resolves : Resolves scopes old new 1 reduced
  pub counted : after_it ≡ after before (1 + reduced)

-- one turn of the list: the last one isn't blocked and is marked, or it waits for another one, or is resolved
pub data IsTurn (pivot : Quant) (scopes : List Scope) (old new : State) (t now : TrailState) (stack then : List Frame)
    (before after_it : Counter) : Type 0 where
  marks : Marks old new t now stack then before after_it
      → IsTurn pivot scopes old new t now stack then before after_it
  waits : IsDue pivot scopes old t stack → WaitsFor old new t now stack then before after_it
      → IsTurn pivot scopes old new t now stack then before after_it
  turns : IsDue pivot scopes old t stack → TurnsTop scopes old new t now stack then before after_it
      → IsTurn pivot scopes old new t now stack then before after_it

-- the variables of these are marked
abbrev pub AreMarkedOn : TrailState → List Frame → Type 0
AreMarkedOn t [] = ⊤
AreMarkedOn t (f ∷ rest) = IsTrue (is_marked t f.var) × AreMarkedOn t rest
