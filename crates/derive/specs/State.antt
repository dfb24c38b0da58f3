-- A derivation, as contracts see it.
use Rattle.std.specs.Prelude.{◌≡◌, ℕ, Bool, true, false, not, IsTrue, List, [], ◌∷◌, ◌++◌, map, length, Option, Some, None, is_some, unwrap_or, slice_index_or}
use Rattle.std.specs.List.{filter_map, range_with_len}
use Rattle.std.specs.Option.{option_map, option_and_then}
use Rattle.prefix.specs.declared.quant.Quant.{Quant}
use Rattle.prefix.specs.declared.quant.Quant.TheVariants.{Exists, Forall}
use Rattle.prefix.specs.Scopes.{Scope}
use Rattle.rows.specs.Arena.{Arena, literals_at, row_at as stored_at, with_row}
use Rattle.calculus.specs.Rows.{Row}
use Rattle.calculus.specs.Derivations.{Step, Why, IsDerivation}
use Rattle.calculus.specs.Derivations.Why.{Given, ReducedFrom, ResolvedFrom, FinishedFrom}

-- what is kept of a step beside its row: its side, why it stands, and its tag
pub record Note : Type 0 where
  pub side : Quant
  pub why : Why
  pub tag : ℕ

-- the notes: for each id given so far, in ascending order from 0, that of the step that is live under it, or none
-- once it was dropped
abbrev pub Notes : Type 0
Notes = List (Option Note)

-- a derivation: its notes, and its rows under the same ids, where they are not taken
pub record State : Type 0 where
  pub notes : Notes
  pub rows : Option Arena

-- the note under an id, if a step is live there
abbrev pub note_in : Notes → ℕ → Option Note
note_in notes id = slice_index_or notes id None

-- the same of a derivation
abbrev pub note_at : State → ℕ → Option Note
note_at d id = note_in d.notes id

-- the id that comes next, greater than every id given
abbrev pub next_id : State → ℕ
next_id d = length d.notes

-- whether a step is live under an id
abbrev pub is_live : State → ℕ → Bool
is_live d id = is_some (note_at d id)

-- whether the rows are here, and not taken
abbrev pub has_rows : State → Bool
has_rows d = is_some d.rows

-- the rows; no rows while they are taken
abbrev pub arena_of : State → Arena
arena_of d = unwrap_or d.rows []

-- the literals of the step under an id
abbrev pub row_of : State → ℕ → Row
row_of d id = literals_at (arena_of d) id

-- the side of a step, clauses for none
abbrev pub side_in : Option Note → Quant
side_in None = Exists
side_in (Some note) = note.side

-- why a step stands, as an input for none
abbrev pub why_in : Option Note → Why
why_in None = Given
why_in (Some note) = note.why

-- the tag of a step, 0 for none
abbrev pub tag_in : Option Note → ℕ
tag_in None = 0
tag_in (Some note) = note.tag

-- the side of the step under an id
abbrev pub side_at : State → ℕ → Quant
side_at d id = side_in (note_at d id)

-- why the step under an id stands
abbrev pub why_at : State → ℕ → Why
why_at d id = why_in (note_at d id)

-- the tag of the step under an id
abbrev pub tag_at : State → ℕ → ℕ
tag_at d id = tag_in (note_at d id)

-- whether a step is a finish
abbrev pub is_finish : Why → Bool
is_finish Given = false
is_finish (ReducedFrom a) = false
is_finish (ResolvedFrom a b x) = false
is_finish (FinishedFrom a) = true

-- the step with this note and row, in the words of the calculus; none for a finish
abbrev pub step_with : ℕ → Quant → Row → Why → Option Step
step_with id side row Given = Some (record { id = id; side = side; row = row; why = Given })
step_with id side row (ReducedFrom a) = Some (record { id = id; side = side; row = row; why = ReducedFrom a })
step_with id side row (ResolvedFrom a b x) = Some (record { id = id; side = side; row = row; why = ResolvedFrom a b x })
step_with id side row (FinishedFrom a) = None

-- the same by the note
abbrev pub step_from : ℕ → Row → Note → Option Step
step_from id row note = step_with id note.side row note.why

-- the live step under an id, if there is one and it is no finish
abbrev pub step_at : State → ℕ → Option Step
step_at d id = option_and_then (step_from id (row_of d id)) (note_at d id)

-- the ids given so far, ascending
abbrev pub ids_of : State → List ℕ
ids_of d = range_with_len 0 (next_id d)

-- the live steps but finishes, by ascending ids
abbrev pub steps_of : State → List Step
steps_of d = filter_map (step_at d) (ids_of d)

-- whether there is a step that may be an antecedent: any but a finish
abbrev pub may_be_antecedent : Option Note → Bool
may_be_antecedent None = false
may_be_antecedent (Some note) = not (is_finish note.why)

-- whether a live step stands under an id that is no finish
abbrev pub is_step : State → ℕ → Bool
is_step d id = may_be_antecedent (note_at d id)

-- a live step that is no finish, with this side, these literals and this tag
pub record IsStepOf (d : State) (id : ℕ) (side : Quant) (row : Row) (tag : ℕ) : Type 0 where
  pub step : IsTrue (is_step d id)
  pub has_side : side_at d id ≡ side
  pub has_row : row_of d id ≡ row
  pub has_tag : tag_at d id ≡ tag

-- an open clause: the literals of a live input step of the side of clauses, with its id and its frame
pub record OpenClause : Type 0 where
  pub id : ℕ
  pub frame : ℕ
  pub row : Row

-- the open clause with this note and row, none for another step
abbrev pub clause_with : ℕ → Row → ℕ → Quant → Why → Option OpenClause
clause_with id row tag Exists Given = Some (record { id = id; frame = tag; row = row })
clause_with id row tag Exists (ReducedFrom a) = None
clause_with id row tag Exists (ResolvedFrom a b x) = None
clause_with id row tag Exists (FinishedFrom a) = None
clause_with id row tag Forall why = None

-- the same by the note
abbrev pub clause_from : ℕ → Row → Note → Option OpenClause
clause_from id row note = clause_with id row note.tag note.side note.why

-- the open clause under an id, if there is one
abbrev pub clause_at : State → ℕ → Option OpenClause
clause_at d id = option_and_then (clause_from id (row_of d id)) (note_at d id)

-- the open clauses, in the order in which they came
abbrev pub clauses_of : State → List OpenClause
clauses_of d = filter_map (clause_at d) (ids_of d)

-- the same, as the formula has them
abbrev pub open_clauses : State → List Row
open_clauses d = map (λ (c : OpenClause). c.row) (clauses_of d)

-- each live step but a finish is legal for the open clauses, under this prefix
abbrev pub IsLegalFor : List Scope → State → Type 0
IsLegalFor scopes d = IsDerivation scopes (open_clauses d) (steps_of d)

-- a step stays as it was, with its row and the links of that row
pub record SameStep (old new : State) (id : ℕ) : Type 0 where
  pub note : note_at new id ≡ note_at old id
  pub row : stored_at (arena_of new) id ≡ stored_at (arena_of old) id

-- the derivation with one more step, under the id that comes next
abbrev pub with_step : State → Note → Row → State
with_step d note row = record { notes = d.notes ++ Some note ∷ []; rows = option_map (λ a. with_row a row) d.rows }
