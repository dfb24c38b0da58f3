-- What a clause leaves of some cubes.
use Rattle.std.proofs.Common.{◌≡◌, ℕ, zero, suc, ◌⊎◌, true, false, cond, [], ◌∷◌, Some, None, is_some, refl, inl, inr, ⊎_elim}
use Rattle.std.proofs.lemmas.Bool.{false≢true}
use Rattle.prefix.specs.declared.quant.Quant.TheVariants.{Exists, Forall}
use Rattle.rows.specs.Arena.{row_at as stored_at}
use Rattle.calculus.specs.Derivations.Why.{Given, ReducedFrom, ResolvedFrom}
use Rattle.calculus.specs.Worked.{plus}
use Rattle.derive.specs.State.{Notes, State, arena_of, note_in}
use Rattle.derive.specs.Dropping.{StepTest, DropsFrom, Falls}
use Rattle.derive.specs.Dropping.Falls.{root, rests}
use Rattle.derive.specs.Cubes.{misses}
use Rattle.derive.specs.Worked.{LeavesAt2, WorkedCubes, all_cubes, note, with_cubes}
use Rattle.derive.proofs.Falling.{none_some}
use Rattle.derive.proofs.Drops.{dropped, given_root}
use Rattle.derive.proofs.Inputs.{over_stays}

abbrev missed : StepTest
missed = misses (plus 2 ∷ []) (arena_of all_cubes)

abbrev Goes : ℕ → Type 0
Goes id = Falls missed all_cubes.notes id

first_goes : Goes 1
first_goes = root 1 (note Forall Given) refl refl

over_first_goes : Goes 3
over_first_goes = rests 3 1 (note Forall (ReducedFrom 1)) refl refl first_goes

both_go : Goes 5
both_go = rests 5 3 (note Forall (ResolvedFrom 4 3 2)) refl (inr refl) over_first_goes

clause_stays : Goes 0 → ⊥
clause_stays f = false≢true (given_root missed all_cubes.notes 0 (note Exists Given) refl refl f)

second_stays : Goes 2 → ⊥
second_stays f = false≢true (given_root missed all_cubes.notes 2 (note Forall Given) refl refl f)

over_second_stays : Goes 4 → ⊥
over_second_stays f = over_stays (plus 2 ∷ []) (arena_of all_cubes) all_cubes.notes 4 (note Forall (ReducedFrom 2)) 2
    refl refl second_stays f

pub none_goes : (is_root : StepTest) (notes : Notes) (id : ℕ) → note_in notes id ≡ None → Falls is_root notes id → ⊥
none_goes is_root notes id none (root j n at r) = none_some (note_in notes id) n none at
none_goes is_root notes id none (rests j on n at r falls) = none_some (note_in notes id) n none at

abbrev left : State
left = with_cubes false true false true false

steps_left : (id : ℕ) → (Goes id × (note_in left.notes id ≡ None))
    ⊎ ((Goes id → ⊥) × (note_in left.notes id ≡ note_in all_cubes.notes id))
steps_left zero = inr (clause_stays, refl)
steps_left (suc zero) = inl (first_goes, refl)
steps_left (suc (suc zero)) = inr (second_stays, refl)
steps_left (suc (suc (suc zero))) = inl (over_first_goes, refl)
steps_left (suc (suc (suc (suc zero)))) = inr (over_second_stays, refl)
steps_left (suc (suc (suc (suc (suc zero))))) = inl (both_go, refl)
steps_left (suc (suc (suc (suc (suc (suc id)))))) =
    inr (none_goes missed all_cubes.notes (suc (suc (suc (suc (suc (suc id)))))) refl, refl)

rows_left : (id : ℕ) → stored_at (arena_of left) id ≡ cond (is_some (note_in left.notes id))
    (stored_at (arena_of all_cubes) id) None
rows_left zero = refl
rows_left (suc zero) = refl
rows_left (suc (suc zero)) = refl
rows_left (suc (suc (suc zero))) = refl
rows_left (suc (suc (suc (suc zero)))) = refl
rows_left (suc (suc (suc (suc (suc zero))))) = refl
rows_left (suc (suc (suc (suc (suc (suc id)))))) = refl

drops_left : DropsFrom missed all_cubes.notes left.notes (arena_of all_cubes) (arena_of left)
drops_left = record { same_next = refl; steps = steps_left; same_next_row = refl; rows = rows_left }

leaves_left : LeavesAt2 left
leaves_left = dropped missed all_cubes left refl drops_left

-- what goes isn't left, and what stays is
is_gone : (after : State) (id : ℕ) → LeavesAt2 after → Goes id → note_in after.notes id ≡ None
is_gone after id leaves goes = ⊎_elim (λ f. f.1) (λ k. absurd (k.0 goes)) (leaves.exactly.steps id)

is_left : (after : State) (id : ℕ) → LeavesAt2 after → (Goes id → ⊥) → note_in after.notes id ≡ note_in all_cubes.notes
    id
is_left after id leaves stays = ⊎_elim (λ f. absurd (stays f.0)) (λ k. k.1) (leaves.exactly.steps id)

pub cubes : WorkedCubes
cubes = record {
  hit = refl;
  missed = refl;
  other_sign = refl;
  empty = refl;
  cube = refl;
  other_cube = refl;
  clause = refl;
  no_input = refl;
  second_missed = refl;
  none_missed = refl;
  no_clauses = refl;
  cube_of_both = refl;
  other_of_both = refl;
  clause_of_both = refl;
  leaves = leaves_left;
  not_all = λ l. none_some (Some (note Forall Given)) (note Forall Given) (is_gone all_cubes 1 l first_goes) refl;
  not_over = λ l. none_some (Some (note Forall (ReducedFrom 1))) (note Forall (ReducedFrom 1))
      (is_gone (with_cubes false true true true false) 3 l over_first_goes) refl;
  not_both = λ l. none_some (Some (note Forall (ResolvedFrom 4 3 2))) (note Forall (ResolvedFrom 4 3 2))
      (is_gone (with_cubes false true false true true) 5 l both_go) refl;
  not_none = λ l. none_some None (note Forall Given) refl
      (is_left (with_cubes false false false false false) 2 l second_stays);
  not_over_second = λ l. none_some None (note Forall (ReducedFrom 2)) refl
      (is_left (with_cubes false true false false false) 4 l over_second_stays);
}
