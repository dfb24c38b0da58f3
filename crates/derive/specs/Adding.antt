-- What goes in where steps are added.
use Rattle.std.specs.Prelude.{◌≡◌, ◌≢◌, ℕ, ◌<◌, ◌⊎◌, true, false, IsTrue, IsFalse, List, [], ◌++◌, Contains, Some, max}
use Rattle.std.specs.List.{cons_option}
use Rattle.prefix.specs.declared.quant.Quant.TheVariants.{Exists, Forall}
use Rattle.prefix.specs.Scopes.{Scope, quantifier_of}
use Rattle.rows.specs.Arena.{new_row, row_at as stored_at}
use Rattle.prefix.specs.Literal.{Literal}
use Rattle.calculus.specs.Rows.{Row, clashes, reduce, resolve}
use Rattle.calculus.specs.Derivations.{Why}
use Rattle.calculus.specs.Derivations.Why.{Given, ReducedFrom, ResolvedFrom, FinishedFrom}
use Rattle.calculus.specs.Verdicts.{finished}
use Rattle.steps.specs.Counter.{Counter, after}
use Rattle.derive.specs.State.{Note, State, SameStep, IsStepOf, OpenClause, arena_of, next_id, note_at, is_live, is_step, has_rows, row_of, side_at, why_at, tag_at, with_step, steps_of, clauses_of, step_from, clause_from}
use Rattle.derive.specs.Dropping.{Drops}
use Rattle.derive.specs.Cubes.{misses}

-- one step comes in, under the id that comes next, with a row that has no links; the others stay, with their rows and
-- the links of these
pub record Adds (old new : State) (id : ℕ) (note : Note) (row : Row) : Type 0 where
  pub is_next : id ≡ next_id old
  pub state : new ≡ with_step old note row
  pub has_rows : has_rows new ≡ true
  pub there : note_at new id ≡ Some note
  pub has_row : row_of new id ≡ row
  pub fresh : stored_at (arena_of new) id ≡ Some (new_row row)
  pub others : (other : ℕ) → IsTrue (is_live old other) → SameStep old new other
  pub given : (other : ℕ) → other < next_id old → is_live new other ≡ is_live old other
  pub steps : steps_of new ≡ steps_of old ++ cons_option (step_from id row note) []
  pub clauses : clauses_of new ≡ clauses_of old ++ cons_option (clause_from id row note) []

-- a step that rests on one other with its side and tag
abbrev pub note_over : State → ℕ → Why → Note
note_over d on why = record { side = side_at d on; why = why; tag = tag_at d on }

-- a row with literals removed from that of a step: a step comes in where something goes, and else the step itself is
-- the answer
pub record Removes (old new : State) (id on : ℕ) (why : Why) (row : Row) : Type 0 where
  pub cases : ((row ≡ row_of old on) × (id ≡ on) × (new ≡ old))
      ⊎ ((row ≢ row_of old on) × Adds old new id (note_over old on why) row)
  pub has_rows : has_rows new ≡ true
  pub live : IsTrue (is_live new id)
  pub has_side : side_at new id ≡ side_at old on
  pub has_row : row_of new id ≡ row
  pub has_tag : tag_at new id ≡ tag_at old on
  pub rests : (id ≡ on) ⊎ (why_at new id ≡ why)
  pub others : (other : ℕ) → IsTrue (is_live old other) → SameStep old new other
  pub given : (other : ℕ) → other < next_id old → is_live new other ≡ is_live old other

-- the resolvent of the rows of two steps
abbrev pub resolvent_at : State → ℕ → ℕ → ℕ → Row
resolvent_at d positive negative variable = resolve (row_of d positive) (row_of d negative) variable

-- the note of a resolvent: its tag is the greater one
abbrev pub resolvent_note : State → ℕ → ℕ → ℕ → Note
resolvent_note d positive negative variable =
    record {
      side = side_at d positive;
      why = ResolvedFrom positive negative variable;
      tag = max (tag_at d positive) (tag_at d negative);
    }

-- the reduction of the row of a step
abbrev pub reduction_at : List Scope → State → ℕ → Row
reduction_at scopes d id = reduce (side_at d id) scopes (row_of d id)

-- the literals over assumed variables in the row of a step
abbrev pub finish_at : List Literal → State → ℕ → Row
finish_at assumptions d id = finished assumptions (row_of d id)

-- a removal counts a step where something goes, and else none
abbrev pub CountsRemoval : (row left : Row) → (before now : Counter) → Type 0
CountsRemoval row left before now = ((left ≡ row) × (now ≡ before)) ⊎ ((left ≢ row) × (now ≡ after before 1))

-- two steps that may be resolved: a pivot-type variable stands in them with either sign, and no other one with both
pub record AreResolvable (scopes : List Scope) (d : State) (positive negative variable : ℕ) : Type 0 where
  pub has_positive : Contains (row_of d positive) (record { variable = variable; positive = true })
  pub has_negative : Contains (row_of d negative) (record { variable = variable; positive = false })
  pub is_pivot_variable : quantifier_of scopes variable ≡ Some (side_at d positive)
  pub no_clash : IsFalse (clashes (row_of d positive) (row_of d negative) variable)

-- the note of an input clause of a frame
abbrev pub clause_note : ℕ → Note
clause_note frame = record { side = Exists; why = Given; tag = frame }

-- the note of an initial cube
abbrev pub cube_note : Note
cube_note = record { side = Forall; why = Given; tag = 0 }

-- a clause comes in, with its reduction where something goes
pub record AddsClause (scopes : List Scope) (old new : State) (first second frame : ℕ) (row : Row) : Type 0 where
  pub with_input : State
  pub input : Adds old with_input first (clause_note frame) row
  pub reduction : Removes with_input new second first (ReducedFrom first) (reduce Exists scopes row)

-- and the initial cubes that miss it go, with all that rests on them
pub record InputsClause (scopes : List Scope) (old new : State) (first second frame : ℕ) (row : Row) : Type 0 where
  pub added : State
  pub adds : AddsClause scopes old added first second frame row
  pub cubes : Drops (misses row (arena_of added)) added new
  pub input : IsStepOf new first Exists row frame
  pub reduction : IsStepOf new second Exists (reduce Exists scopes row) frame

-- the step under an id is the reduction of an open clause: it has the clause's frame as tag, and is the clause's own
-- step, or rests on that one alone
pub record IsReductionOf (scopes : List Scope) (d : State) (clause : OpenClause) (id : ℕ) : Type 0 where
  pub step : IsTrue (is_step d id)
  pub of_side : side_at d id ≡ Exists
  pub literals : row_of d id ≡ reduce Exists scopes clause.row
  pub tag : tag_at d id ≡ clause.frame
  pub rests : (id ≡ clause.id) ⊎ (why_at d id ≡ ReducedFrom clause.id)

-- a clause comes in with another row, as its reduction
pub record AddsBoth (old new : State) (first second frame : ℕ) (row reduced : Row) : Type 0 where
  pub with_input : State
  pub input : Adds old with_input first (clause_note frame) row
  pub reduction : Adds with_input new second (note_over with_input first (ReducedFrom first)) reduced

-- whether a step rests on one other alone
abbrev pub IsOver : Why → ℕ → Type 0
IsOver Given on = ⊥
IsOver (ReducedFrom a) on = a ≡ on
IsOver (ResolvedFrom a b x) on = ⊥
IsOver (FinishedFrom a) on = a ≡ on
