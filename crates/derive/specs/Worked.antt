-- Worked values: which initial cubes miss a clause, and what goes with them; what goes with a variable; the tags of
-- steps; and what is kept of them.
use Rattle.std.specs.Prelude.{◌≡◌, ℕ, Bool, true, false, if◌then◌else◌, List, [], ◌∷◌, Option, Some, None}
use Rattle.prefix.specs.declared.quant.Quant.{Quant}
use Rattle.prefix.specs.declared.quant.Quant.TheVariants.{Exists, Forall}
use Rattle.prefix.specs.Scopes.{Scope}
use Rattle.rows.specs.Arena.{StoredRow, new_row}
use Rattle.calculus.specs.Derivations.{Why}
use Rattle.calculus.specs.Derivations.Why.{Given, ReducedFrom, ResolvedFrom, FinishedFrom}
use Rattle.calculus.specs.Rows.{Row}
use Rattle.calculus.specs.Worked.{minus, plus}
use Rattle.derive.specs.Antecedents.{AreSupported, HasTag, IsAntecedentIn, IsGreatestFrame, Supports}
use Rattle.derive.specs.Inputs.{AddsClauses, GainsClauses, shortened}
use Rattle.derive.specs.State.{Note, Notes, State, arena_of, with_step}
use Rattle.derive.specs.Dropping.{Drops, NoneOutsideBelow, is_outside, names}
use Rattle.derive.specs.Cubes.{hits_clause, misses, misses_one, misses_some}
use Rattle.derive.specs.Packed.{slot_of}

abbrev pub note : Quant → Why → Note
note side why = record { side = side; why = why; tag = 0 }

-- a step that is live, or was dropped
abbrev pub step_if : Bool → Quant → Why → Option Note
step_if live side why = if live then Some (note side why) else None

abbrev pub row_if : Bool → Row → Option StoredRow
row_if live row = if live then Some (new_row row) else None

-- the clause 1, the initial cubes 1 and 1 2, what rests on either, and what rests on both; which of the cubes and of
-- what rests on them are live
abbrev pub with_cubes : (first second over_first over_second over_both : Bool) → State
with_cubes first second over_first over_second over_both = record {
  notes = Some (note Exists Given)
      ∷ step_if first Forall Given
      ∷ step_if second Forall Given
      ∷ step_if over_first Forall (ReducedFrom 1)
      ∷ step_if over_second Forall (ReducedFrom 2)
      ∷ step_if over_both Forall (ResolvedFrom 4 3 2)
      ∷ [];
  rows = Some (
      Some (new_row (plus 1 ∷ []))
      ∷ row_if first (plus 1 ∷ [])
      ∷ row_if second (plus 1 ∷ plus 2 ∷ [])
      ∷ row_if over_first []
      ∷ row_if over_second (plus 2 ∷ [])
      ∷ row_if over_both []
      ∷ []
      );
}

-- all of them
abbrev pub all_cubes : State
all_cubes = with_cubes true true true true true

-- the clauses 1 and 2
abbrev pub two_units : List Row
two_units = (plus 1 ∷ []) ∷ (plus 2 ∷ []) ∷ []

-- the clause 2 came, and this is left
abbrev pub LeavesAt2 : State → Type 0
LeavesAt2 left = Drops (misses (plus 2 ∷ []) (arena_of all_cubes)) all_cubes left

pub record WorkedCubes : Type 0 where
  -- the row 1 2 holds a literal of the clause 2 3; not the row 1, nor one with the other sign; none holds one of the
  -- empty clause
  pub hit : hits_clause (plus 1 ∷ plus 2 ∷ []) (plus 2 ∷ plus 3 ∷ []) ≡ true
  pub missed : hits_clause (plus 1 ∷ []) (plus 2 ∷ plus 3 ∷ []) ≡ false
  pub other_sign : hits_clause (minus 2 ∷ plus 1 ∷ []) (plus 2 ∷ plus 3 ∷ []) ≡ false
  pub empty : hits_clause (plus 1 ∷ plus 2 ∷ []) [] ≡ false
  -- the initial cube 1 misses the clause 2; not the cube 1 2, nor the clause 1, nor what rests on a cube
  pub cube : misses (plus 2 ∷ []) (arena_of all_cubes) 1 (note Forall Given) ≡ true
  pub other_cube : misses (plus 2 ∷ []) (arena_of all_cubes) 2 (note Forall Given) ≡ false
  pub clause : misses (plus 2 ∷ []) (arena_of all_cubes) 0 (note Exists Given) ≡ false
  pub no_input : misses (plus 2 ∷ []) (arena_of all_cubes) 3 (note Forall (ReducedFrom 1)) ≡ false
  -- of the clauses 1 and 2 the row 1 misses one, the second; the row 1 2 none, and no row where there is no clause
  pub second_missed : misses_some (plus 1 ∷ []) two_units ≡ true
  pub none_missed : misses_some (plus 1 ∷ plus 2 ∷ []) two_units ≡ false
  pub no_clauses : misses_some [] [] ≡ false
  pub cube_of_both : misses_one two_units (arena_of all_cubes) 1 (note Forall Given) ≡ true
  pub other_of_both : misses_one two_units (arena_of all_cubes) 2 (note Forall Given) ≡ false
  pub clause_of_both : misses_one two_units (arena_of all_cubes) 0 (note Exists Given) ≡ false
  -- it goes, with what rests on it, and on both; the cube 1 2 stays, with what rests on it alone
  pub leaves : LeavesAt2 (with_cubes false true false true false)
  pub not_all : LeavesAt2 all_cubes → ⊥
  pub not_over : LeavesAt2 (with_cubes false true true true false) → ⊥
  pub not_both : LeavesAt2 (with_cubes false true false true true) → ⊥
  pub not_none : LeavesAt2 (with_cubes false false false false false) → ⊥
  pub not_over_second : LeavesAt2 (with_cubes false true false false false) → ⊥

-- exists 1, for all 2
abbrev pub two_scopes : List Scope
two_scopes =
    record { quantifier = Exists; variables = 1 ∷ [] }
    ∷ record { quantifier = Forall; variables = 2 ∷ [] }
    ∷ []

-- the clauses 1 2, 1 3 and -3, the resolvent of the last two, and the cube 1; which of the last four are live
abbrev pub with_third : (first second over other : Bool) → State
with_third first second over other = record {
  notes = Some (note Exists Given)
      ∷ step_if first Exists Given
      ∷ step_if second Exists Given
      ∷ step_if over Exists (ResolvedFrom 1 2 3)
      ∷ step_if other Forall Given
      ∷ [];
  rows = Some (
      Some (new_row (plus 1 ∷ plus 2 ∷ []))
      ∷ row_if first (plus 1 ∷ plus 3 ∷ [])
      ∷ row_if second (minus 3 ∷ [])
      ∷ row_if over (plus 1 ∷ [])
      ∷ row_if other (plus 1 ∷ [])
      ∷ []
      );
}

-- all of them
abbrev pub all_third : State
all_third = with_third true true true true

-- the variable 3 left the prefix, and this is left
abbrev pub LeavesWithout3 : State → Type 0
LeavesWithout3 left = Drops (names (is_outside two_scopes) (arena_of all_third)) all_third left

pub record WorkedLeaving : Type 0 where
  -- 3 is outside; 1 and 2 are not; of no scopes each is
  pub third : is_outside two_scopes 3 ≡ true
  pub first : is_outside two_scopes 1 ≡ false
  pub second : is_outside two_scopes 2 ≡ false
  pub no_scopes : is_outside [] 1 ≡ true
  -- the clauses 1 3 and -3 name one outside, of either sign; not the clause 1 2, nor their resolvent
  pub named : names (is_outside two_scopes) (arena_of all_third) 1 (note Exists Given) ≡ true
  pub other_sign : names (is_outside two_scopes) (arena_of all_third) 2 (note Exists Given) ≡ true
  pub unnamed : names (is_outside two_scopes) (arena_of all_third) 0 (note Exists Given) ≡ false
  pub resolvent : names (is_outside two_scopes) (arena_of all_third) 3 (note Exists (ResolvedFrom 1 2 3)) ≡ false
  -- none below the id 1 does, and one below 2
  pub below : NoneOutsideBelow two_scopes 1 all_third
  pub not_below : NoneOutsideBelow two_scopes 2 all_third → ⊥
  -- they go, with the resolvent; the cube stays
  pub leaves : LeavesWithout3 (with_third false false false true)
  pub not_all : LeavesWithout3 all_third → ⊥
  pub not_over : LeavesWithout3 (with_third false false true true) → ⊥
  pub not_other : LeavesWithout3 (with_third false false false false) → ⊥

-- the clause 1 of the frame 0, and behind it the clauses 1 2 and -1 of a group's frame, the first with its reduction
abbrev pub one_clause : State
one_clause = record { notes = Some (note Exists Given) ∷ []; rows = Some (Some (new_row (plus 1 ∷ [])) ∷ []) }

abbrev pub group_note : Why → Note
group_note why = record { side = Exists; why = why; tag = 65537 }

abbrev pub group_rows : List Row
group_rows = (plus 1 ∷ plus 2 ∷ []) ∷ (minus 1 ∷ []) ∷ []

abbrev pub with_group : State
with_group =
    with_step
    (with_step (with_step one_clause (group_note Given) (plus 1 ∷ plus 2 ∷ [])) (group_note (ReducedFrom 1))
    (plus 1 ∷ []))
    (group_note Given) (minus 1 ∷ [])

pub record WorkedInputs : Type 0 where
  -- so they come in, and their reductions are the steps 2 and 3
  pub adds : AddsClauses two_scopes 65537 one_clause with_group group_rows (2 ∷ 3 ∷ [])
  pub gains : GainsClauses two_scopes 65537 one_clause with_group group_rows (2 ∷ 3 ∷ [])
  -- not of another frame, nor with a clause as its own reduction, nor with one reduction for both, nor in another order
  pub other_frame : GainsClauses two_scopes 2 one_clause with_group group_rows (2 ∷ 3 ∷ []) → ⊥
  pub unreduced : GainsClauses two_scopes 65537 one_clause with_group group_rows (1 ∷ 3 ∷ []) → ⊥
  pub only_one : GainsClauses two_scopes 65537 one_clause with_group group_rows (3 ∷ []) → ⊥
  pub turned : GainsClauses two_scopes 65537 one_clause with_group ((minus 1 ∷ []) ∷ (plus 1 ∷ plus 2 ∷ []) ∷ [])
      (2 ∷ 3 ∷ []) → ⊥
  -- none of the clauses of before is among them
  pub too_many : GainsClauses two_scopes 65537 one_clause with_group ((plus 1 ∷ []) ∷ group_rows) (0 ∷ 2 ∷ 3 ∷ []) → ⊥
  -- of no clauses nothing comes in
  pub none : AddsClauses two_scopes 65537 one_clause one_clause [] []
  pub shorter : shortened 1 with_group ≡ one_clause
  pub longer : shortened 2 with_group ≡ one_clause → ⊥

abbrev pub tagged : Quant → Why → ℕ → Option Note
tagged side why tag = Some (record { side = side; why = why; tag = tag })

-- clauses of the frames 0, 2 and 5, a resolvent of the first two and its reduction; an initial cube and its finish; and
-- one that was dropped
abbrev pub three_frames : Notes
three_frames =
    tagged Exists Given 0
    ∷ tagged Exists Given 2
    ∷ tagged Exists Given 5
    ∷ tagged Exists (ResolvedFrom 1 0 3) 2
    ∷ tagged Exists (ReducedFrom 3) 2
    ∷ tagged Forall Given 0
    ∷ tagged Forall (FinishedFrom 5) 0
    ∷ None
    ∷ []

pub record WorkedTags : Type 0 where
  -- an input clause has any frame, an initial cube 0; other steps the greatest frame of what they rest on
  pub clause_of_any : HasTag three_frames Exists 7 Given
  pub cube_of_none : HasTag three_frames Forall 0 Given
  pub cube_of_one : HasTag three_frames Forall 1 Given → ⊥
  pub greater_first : HasTag three_frames Exists 2 (ResolvedFrom 1 0 3)
  pub greater_last : HasTag three_frames Exists 5 (ResolvedFrom 0 2 3)
  pub not_the_less : HasTag three_frames Exists 0 (ResolvedFrom 1 0 3) → ⊥
  pub not_the_sum : HasTag three_frames Exists 7 (ResolvedFrom 1 2 3) → ⊥
  pub reduction : HasTag three_frames Exists 2 (ReducedFrom 3)
  pub not_its_own : HasTag three_frames Exists 4 (ReducedFrom 3) → ⊥
  pub finish : HasTag three_frames Exists 5 (FinishedFrom 2)
  pub not_another : HasTag three_frames Exists 2 (FinishedFrom 2) → ⊥
  -- an antecedent is live, earlier, of the same side and no finish
  pub antecedent : IsAntecedentIn three_frames 4 Exists 3
  pub later : IsAntecedentIn three_frames 3 Exists 3 → ⊥
  pub other_side : IsAntecedentIn three_frames 6 Exists 5 → ⊥
  pub no_finish : IsAntecedentIn three_frames 8 Forall 6 → ⊥
  pub dropped : IsAntecedentIn three_frames 8 Exists 7 → ⊥
  -- so it is with all of these
  pub supported : AreSupported three_frames
  pub not_supported : AreSupported (tagged Exists Given 2 ∷ tagged Exists (ReducedFrom 0) 0 ∷ []) → ⊥
  -- the reduction rests on the clauses of the frames 0 and 2, and not on that of frame 5
  pub over_first : Supports three_frames 4 0
  pub over_second : Supports three_frames 4 1
  pub not_over_third : Supports three_frames 4 2 → ⊥
  pub not_a_resolvent : Supports three_frames 4 3 → ⊥
  -- so the greatest frame is 2, neither less nor more
  pub greatest : IsGreatestFrame three_frames 4 2
  pub not_less : IsGreatestFrame three_frames 4 0 → ⊥
  pub not_more : IsGreatestFrame three_frames 4 5 → ⊥

pub record WorkedNotes : Type 0 where
  -- a resolvent on the last variable, of a step whose id has more than 32 bits and of that with the last id that four
  -- numbers can tell of
  pub resolvent : slot_of 5 4294967295 9 2147485503 ≡ tagged Forall (ResolvedFrom 12884901893 68719476735 1048576) 9
  -- not so with the last bits of the two ids in each other's place, on the other side, or on the variable before
  pub turned : slot_of 4294967295 5 9 2147485503
      ≡ tagged Forall (ResolvedFrom 12884901893 68719476735 1048576) 9 → ⊥
  pub other_side : slot_of 5 4294967295 9 2147485247
      ≡ tagged Forall (ResolvedFrom 12884901893 68719476735 1048576) 9 → ⊥
  pub other_variable : slot_of 5 4294967295 9 2147483455
      ≡ tagged Forall (ResolvedFrom 12884901893 68719476735 1048576) 9 → ⊥
  -- no step
  pub none : slot_of 5 4294967295 9 4294967295 ≡ None
  -- the other kinds
  pub reduction : slot_of 7 0 2 544 ≡ tagged Exists (ReducedFrom 8589934599) 2
  pub finish : slot_of 8 0 0 1280 ≡ tagged Forall (FinishedFrom 8) 0
  pub clause : slot_of 0 0 3 0 ≡ tagged Exists Given 3
  pub cube : slot_of 0 0 0 256 ≡ tagged Forall Given 0
