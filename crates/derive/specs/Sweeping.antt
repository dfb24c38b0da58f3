-- What stays where a derivation is swept: the input clauses, some steps that are named, and all that these rest on.
use Rattle.std.specs.Prelude.{◌≡◌, ℕ, ◌≤◌, ◌⊎◌, Bool, true, false, not, ◌&&◌, if◌then◌else◌, List, Option, Some, None, IsTrue, Contains, filter, slice_index_or}
use Rattle.prefix.specs.declared.quant.Quant.{Quant}
use Rattle.prefix.specs.declared.quant.Quant.TheVariants.{Exists, Forall}
use Rattle.rows.specs.Arena.{row_at as stored_at}
use Rattle.calculus.specs.Derivations.{Step, Why, RestsOn, rests_on}
use Rattle.calculus.specs.Derivations.Why.{Given, ReducedFrom, ResolvedFrom, FinishedFrom}
use Rattle.derive.specs.State.{Note, Notes, State, SameStep, arena_of, has_rows, is_live, next_id, note_at, note_in, steps_of}
use Rattle.derive.specs.Dropping.{StepTest}

-- whether a step of this side is an input clause
abbrev pub is_input_clause : Quant → Why → Bool
is_input_clause Exists Given = true
is_input_clause Exists (ReducedFrom a) = false
is_input_clause Exists (ResolvedFrom a b x) = false
is_input_clause Exists (FinishedFrom a) = false
is_input_clause Forall why = false

-- a step that stays: an input clause, one that is named, or one that a step rests on that stays
pub data Stays (keep : List ℕ) (notes : Notes) : ℕ → Type 0 where
  clause : (id : ℕ) (note : Note) → note_in notes id ≡ Some note → is_input_clause note.side note.why ≡ true
      → Stays keep notes id
  named : (id : ℕ) → Contains keep id → Stays keep notes id
  under : (id on : ℕ) (note : Note) → note_in notes id ≡ Some note → RestsOn note.why on → Stays keep notes id
      → Stays keep notes on

-- exactly these steps stay, as they were, with their rows and the links of these
pub record Sweeps (keep : List ℕ) (old new : State) : Type 0 where
  pub has_rows : has_rows new ≡ true
  pub same_next : next_id new ≡ next_id old
  pub exactly : (id : ℕ) → (Stays keep old.notes id × (note_at new id ≡ note_at old id))
      ⊎ ((Stays keep old.notes id → ⊥) × (note_at new id ≡ None))
  pub rows : (id : ℕ) → stored_at (arena_of new) id ≡ (if is_live new id then stored_at (arena_of old) id else None)
  pub others : (id : ℕ) → IsTrue (is_live new id) → SameStep old new id
  pub left : steps_of new ≡ filter (λ (s : Step). is_live new s.id) (steps_of old)

-- marks, by id

-- whether an id is marked
abbrev pub is_marked : List Bool → ℕ → Bool
is_marked marks id = slice_index_or marks id false

-- whether a step, if it is live, rests on one with this id
abbrev pub rests_in : Option Note → ℕ → Bool
rests_in None x = false
rests_in (Some note) x = rests_on note.why x

-- whether a step is no input clause and isn't marked
abbrev pub is_unmarked : List Bool → StepTest
is_unmarked marks id note = not (is_input_clause note.side note.why) && not (is_marked marks id)

-- the same of a step that may not be live
abbrev pub goes : List Bool → ℕ → Option Note → Bool
goes marks id None = false
goes marks id (Some note) = is_unmarked marks id note

-- what a marked step with this id or a later one rests on is marked
abbrev pub AreClosed : Notes → List Bool → ℕ → Type 0
AreClosed notes marks from = (i on : ℕ) (note : Note) → from ≤ i → is_marked marks i ≡ true
    → note_in notes i ≡ Some note → RestsOn note.why on → is_marked marks on ≡ true

-- named steps are marked, with what those rest on that have this id or a later one, and none that doesn't stay
pub record AreMarked (keep : List ℕ) (notes : Notes) (marks : List Bool) (from : ℕ) : Type 0 where
  pub sound : (i : ℕ) → is_marked marks i ≡ true → Stays keep notes i
  pub names : (i : ℕ) → Contains keep i → is_marked marks i ≡ true
  pub closed : AreClosed notes marks from

-- the named ids are marked beside those that were
pub record MarksNamed (keep : List ℕ) (old new : List Bool) : Type 0 where
  pub stays : (i : ℕ) → is_marked old i ≡ true → is_marked new i ≡ true
  pub names : (i : ℕ) → Contains keep i → is_marked new i ≡ true
  pub only : (i : ℕ) → is_marked new i ≡ true → (is_marked old i ≡ true) ⊎ Contains keep i

-- what a marked step rests on is marked beside those that were
pub record MarksUnder (notes : Notes) (id : ℕ) (old new : List Bool) : Type 0 where
  pub stays : (i : ℕ) → is_marked old i ≡ true → is_marked new i ≡ true
  pub under : (on : ℕ) (note : Note) → is_marked old id ≡ true → note_in notes id ≡ Some note → RestsOn note.why on
      → is_marked new on ≡ true
  pub only : (i : ℕ) → is_marked new i ≡ true → (is_marked old i ≡ true)
      ⊎ ((is_marked old id ≡ true) × ((note : Note) × (note_in notes id ≡ Some note) × RestsOn note.why i))
