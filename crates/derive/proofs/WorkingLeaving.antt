-- What a variable outside the prefix takes with it.
use Rattle.std.proofs.Common.{◌≡◌, ℕ, zero, suc, ◌⊎◌, true, false, cond, Some, None, is_some, refl, inl, inr, ⊎_elim, arith}
use Rattle.std.proofs.lemmas.Bool.{false≢true, true≢false}
use Rattle.prefix.specs.declared.quant.Quant.TheVariants.{Exists, Forall}
use Rattle.rows.specs.Arena.{row_at as stored_at}
use Rattle.calculus.specs.Derivations.Why.{Given, ResolvedFrom}
use Rattle.derive.specs.State.{State, arena_of, note_in}
use Rattle.derive.specs.Dropping.{DropsFrom, Falls, NoneOutsideBelow, StepTest, is_outside, names}
use Rattle.derive.specs.Dropping.Falls.{root, rests}
use Rattle.derive.specs.Worked.{LeavesWithout3, WorkedLeaving, all_third, note, two_scopes, with_third}
use Rattle.derive.proofs.Falling.{none_some}
use Rattle.derive.proofs.Drops.{dropped, given_root}
use Rattle.derive.proofs.Working.{none_goes}

abbrev third : StepTest
third = names (is_outside two_scopes) (arena_of all_third)

abbrev Goes : ℕ → Type 0
Goes id = Falls third all_third.notes id

first_goes : Goes 1
first_goes = root 1 (note Exists Given) refl refl

second_goes : Goes 2
second_goes = root 2 (note Exists Given) refl refl

over_goes : Goes 3
over_goes = rests 3 1 (note Exists (ResolvedFrom 1 2 3)) refl (inl refl) first_goes

clause_stays : Goes 0 → ⊥
clause_stays f = false≢true (given_root third all_third.notes 0 (note Exists Given) refl refl f)

cube_stays : Goes 4 → ⊥
cube_stays f = false≢true (given_root third all_third.notes 4 (note Forall Given) refl refl f)

abbrev left : State
left = with_third false false false true

steps_left : (id : ℕ)
    → (Goes id × (note_in left.notes id ≡ None))
    ⊎ ((Goes id → ⊥) × (note_in left.notes id ≡ note_in all_third.notes id))
steps_left zero = inr (clause_stays, refl)
steps_left (suc zero) = inl (first_goes, refl)
steps_left (suc (suc zero)) = inl (second_goes, refl)
steps_left (suc (suc (suc zero))) = inl (over_goes, refl)
steps_left (suc (suc (suc (suc zero)))) = inr (cube_stays, refl)
steps_left (suc (suc (suc (suc (suc id))))) =
    inr (none_goes third all_third.notes (suc (suc (suc (suc (suc id))))) refl, refl)

rows_left : (id : ℕ) → stored_at (arena_of left) id
    ≡ cond (is_some (note_in left.notes id)) (stored_at (arena_of all_third) id) None
rows_left zero = refl
rows_left (suc zero) = refl
rows_left (suc (suc zero)) = refl
rows_left (suc (suc (suc zero))) = refl
rows_left (suc (suc (suc (suc zero)))) = refl
rows_left (suc (suc (suc (suc (suc id))))) = refl

drops_left : DropsFrom third all_third.notes left.notes (arena_of all_third) (arena_of left)
drops_left = record { same_next = refl; steps = steps_left; same_next_row = refl; rows = rows_left }

-- what goes isn't left, and what stays is
is_gone : (after : State) (id : ℕ) → LeavesWithout3 after → Goes id → note_in after.notes id ≡ None
is_gone after id leaves goes = ⊎_elim (λ f. f.1) (λ k. absurd (k.0 goes)) (leaves.exactly.steps id)

is_left : (after : State) (id : ℕ) → LeavesWithout3 after → (Goes id → ⊥)
    → note_in after.notes id ≡ note_in all_third.notes id
is_left after id leaves stays = ⊎_elim (λ f. absurd (stays f.0)) (λ k. k.1) (leaves.exactly.steps id)

none_below : NoneOutsideBelow two_scopes 1 all_third
none_below zero low live = refl
none_below (suc id) low live = absurd (omega arith)

pub leaving : WorkedLeaving
leaving = record {
  third = refl;
  first = refl;
  second = refl;
  no_scopes = refl;
  named = refl;
  other_sign = refl;
  unnamed = refl;
  resolvent = refl;
  below = none_below;
  not_below = λ none. true≢false (none 1 (omega arith) refl);
  leaves = dropped third all_third left refl drops_left;
  not_all = λ l. none_some (Some (note Exists Given)) (note Exists Given) (is_gone all_third 1 l first_goes) refl;
  not_over = λ l.
      none_some (Some (note Exists (ResolvedFrom 1 2 3))) (note Exists (ResolvedFrom 1 2 3))
      (is_gone (with_third false false true true) 3 l over_goes) refl;
  not_other = λ l.
      none_some None (note Forall Given) refl (is_left (with_third false false false false) 4 l cube_stays);
}
