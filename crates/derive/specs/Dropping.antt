-- What goes where steps are dropped: some steps, the roots, with all that rests on them.
use Rattle.std.specs.Prelude.{◌≡◌, ℕ, Bool, true, false, ◌<◌, ◌==◌, nat_le, ◌⊎◌, if◌then◌else◌, length, List, Option, Some, None, is_none, is_some, filter, IsTrue}
use Rattle.prefix.specs.declared.quant.Quant.{Quant}
use Rattle.prefix.specs.declared.quant.Quant.TheVariants.{Exists, Forall}
use Rattle.std.specs.List.{list_any}
use Rattle.prefix.specs.Literal.{Literal}
use Rattle.prefix.specs.Scopes.{Scope, level_of}
use Rattle.calculus.specs.Rows.{Row}
use Rattle.rows.specs.Arena.{Arena, literals_at, next_id as next_row, row_at as stored_at}
use Rattle.calculus.specs.Derivations.{Step, Why, RestsOn}
use Rattle.calculus.specs.Derivations.Why.{Given, ReducedFrom, ResolvedFrom, FinishedFrom}
use Rattle.derive.specs.State.{Note, Notes, State, SameStep, note_in, is_finish, is_live, steps_of, arena_of, has_rows}

-- a test of steps, by id and note
abbrev pub StepTest : Type 0
StepTest = ℕ → Note → Bool

-- what a test says of a step that may not be live
abbrev pub holds_in : StepTest → ℕ → Option Note → Bool
holds_in test id None = false
holds_in test id (Some note) = test id note

-- whether a step has this tag
abbrev pub has_tag : ℕ → StepTest
has_tag frame id note = note.tag == frame

-- whether a step of this side is an initial cube
abbrev pub is_cube : Quant → Why → Bool
is_cube Exists why = false
is_cube Forall Given = true
is_cube Forall (ReducedFrom a) = false
is_cube Forall (ResolvedFrom a b x) = false
is_cube Forall (FinishedFrom a) = false

-- whether a step is a finish
abbrev pub finishes : StepTest
finishes id note = is_finish note.why

-- the note under an id once the finishes are dropped
abbrev pub unless_finish : Option Note → Option Note
unless_finish None = None
unless_finish (Some note) = if is_finish note.why then None else Some note

-- whether a step has this id or a later one
abbrev pub is_from : ℕ → StepTest
is_from first id note = nat_le first id

-- a step that goes with the roots: a root itself, or a step that rests on one that goes
pub data Falls (is_root : StepTest) (notes : Notes) : ℕ → Type 0 where
  root : (id : ℕ) (note : Note) → note_in notes id ≡ Some note → is_root id note ≡ true → Falls is_root notes id
  rests : (id on : ℕ) (note : Note) → note_in notes id ≡ Some note → RestsOn note.why on → Falls is_root notes on →
      Falls is_root notes id

-- the roots go, with all that rests on them, and their rows; every other step stays as it was, with its row and the
-- links of that row
pub record DropsFrom (is_root : StepTest) (old new : Notes) (old_rows new_rows : Arena) : Type 0 where
  pub same_next : length new ≡ length old
  pub steps : (id : ℕ) → (Falls is_root old id × (note_in new id ≡ None))
      ⊎ ((Falls is_root old id → ⊥) × (note_in new id ≡ note_in old id))
  pub same_next_row : next_row new_rows ≡ next_row old_rows
  pub rows : (id : ℕ) → stored_at new_rows id ≡ (if is_some (note_in new id) then stored_at old_rows id else None)

-- the same of derivations
pub record Drops (is_root : StepTest) (old new : State) : Type 0 where
  pub has_rows : has_rows new ≡ true
  pub exactly : DropsFrom is_root old.notes new.notes (arena_of old) (arena_of new)
  pub others : (id : ℕ) → IsTrue (is_live new id) → SameStep old new id
  pub left : steps_of new ≡ filter (λ (s : Step). is_live new s.id) (steps_of old)

-- whether a row is over a variable for which this holds
abbrev pub mentions : (ℕ → Bool) → Row → Bool
mentions test row = list_any (λ (l : Literal). test l.variable) row

-- whether the row of a step is so
abbrev pub names : (ℕ → Bool) → Arena → StepTest
names test rows id note = mentions test (literals_at rows id)

-- whether a variable isn't in a prefix
abbrev pub is_outside : List Scope → ℕ → Bool
is_outside scopes x = is_none (level_of scopes x)

-- no live step under an id below this one names a variable outside a prefix
abbrev pub NoneOutsideBelow : List Scope → ℕ → State → Type 0
NoneOutsideBelow scopes from d = (id : ℕ) → id < from → IsTrue (is_live d id)
    → mentions (is_outside scopes) (literals_at (arena_of d) id) ≡ false
