-- What stood when a frame was pushed.
use Rattle.std.specs.Prelude.{◌≡◌, ℕ, ◌<◌, ◌≤◌, Bool, false, ◌||◌, IsTrue, List, [], ◌∷◌, ⊤}
use Rattle.prefix.specs.Scopes.{Scope, is_among}
use Rattle.derive.specs.Dropping.{is_outside, mentions}
use Rattle.derive.specs.State.{State, is_live, next_id, row_of}
use Rattle.frames.specs.Leaving.{leaving}
use Rattle.frames.specs.State.{Frame}

-- whether a variable leaves with one of these frames, or isn't in the prefix
abbrev pub is_late : List Frame → List Scope → ℕ → Bool
is_late frames scopes x = is_among x (leaving frames) || is_outside scopes x

-- no live step under an id below this one names such a variable
abbrev pub NoneLateBelow : List Frame → List Scope → ℕ → State → Type 0
NoneLateBelow frames scopes from d = (id : ℕ) → id < from → IsTrue (is_live d id)
    → mentions (is_late frames scopes) (row_of d id) ≡ false

-- each of these frames has a mark: an id below which no step names a variable that leaves with it or with a later one
abbrev pub HaveMarks : List Frame → List ℕ → List Scope → State → Type 0
HaveMarks [] [] scopes d = ⊤
HaveMarks [] (m ∷ ms) scopes d = ⊥
HaveMarks (f ∷ fs) [] scopes d = ⊥
HaveMarks (f ∷ fs) (m ∷ ms) scopes d = (m ≤ next_id d) × NoneLateBelow (f ∷ fs) scopes m d × HaveMarks fs ms scopes d

-- each pushed frame has one, the id that came next when it was pushed
abbrev pub AreMarked : List Frame → List ℕ → List Scope → State → Type 0
AreMarked [] marks scopes d = ⊥
AreMarked (f ∷ fs) marks scopes d = HaveMarks fs marks scopes d
