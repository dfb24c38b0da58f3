-- What a frame and its variables take with them.
use Rattle.std.proofs.Common.{◌≡◌, ℕ, zero, suc, ◌<◌, ◌≤◌, ◌⊎◌, ◌∷◌, [], true, false, IsTrue, Some, None, refl, sym, ap, ◌∙◌, inl, inr, ⊎_elim, arith}
use Rattle.std.proofs.lemmas.Bool.{false≢true}
use Rattle.prefix.specs.declared.quant.Quant.TheVariants.{Exists, Forall}
use Rattle.calculus.specs.Derivations.Why.{Given, ReducedFrom, ResolvedFrom}
use Rattle.calculus.specs.Worked.{plus}
use Rattle.derive.specs.State.{Note, Notes, State, arena_of, is_live, note_at, note_in, row_of, with_step}
use Rattle.derive.specs.Dropping.{Falls, StepTest}
use Rattle.derive.specs.Dropping.Falls.{root, rests}
use Rattle.derive.specs.Worked.{two_scopes}
use Rattle.derive.proofs.Drops.{given_root}
use Rattle.derive.proofs.Falling.{none_some}
use Rattle.derive.proofs.Working.{none_goes}
use Rattle.search.specs.Leaving.{leaves}
use Rattle.search.specs.WorkedLeaving.{LosesFrame, WorkedLeaving, all_live, tagged, with_frame}
use Rattle.search.proofs.Popping.{older_lost}

abbrev roots : StepTest
roots = leaves 1 two_scopes (arena_of all_live)

abbrev Gone : ℕ → Type 0
Gone id = Falls roots all_live.notes id

clause_gone : Gone 1
clause_gone = root 1 (tagged Exists Given 1) refl refl

over_gone : Gone 2
over_gone = root 2 (tagged Exists (ResolvedFrom 0 1 2) 1) refl refl

first_gone : Gone 3
first_gone = root 3 (tagged Forall Given 0) refl refl

second_gone : Gone 4
second_gone = root 4 (tagged Forall Given 0) refl refl

resolvent_gone : Gone 5
resolvent_gone = rests 5 3 (tagged Forall (ResolvedFrom 3 4 3) 0) refl (inl refl) first_gone

input_stays : Gone 0 → ⊥
input_stays f = false≢true (given_root roots all_live.notes 0 (tagged Exists Given 0) refl refl f)

cube_stays : Gone 6 → ⊥
cube_stays f = false≢true (given_root roots all_live.notes 6 (tagged Forall Given 0) refl refl f)

-- a reduction falls as a root, or with what it rests on
reduced_falls : (is_root : StepTest) (notes : Notes) (id a : ℕ) (note : Note) → note_in notes id ≡ Some note
    → note.why ≡ ReducedFrom a → Falls is_root notes id → (is_root id note ≡ true) ⊎ Falls is_root notes a
reduced_falls is_root notes id a note there why (root j n at r) =
    let e : Some note ≡ Some n = sym there ∙ at in
    let is : note ≡ n = cc in
    inl (rw is r)
reduced_falls is_root notes id a note there why (rests j on n at r falls) =
    let e : Some note ≡ Some n = sym there ∙ at in
    let is : note ≡ n = cc in
    let same : n.why ≡ ReducedFrom a = ap (λ (m : Note). m.why) (sym is) ∙ why in
    let on_a : a ≡ on = rw same at r in
    inr (rw on_a falls)

lesson_stays : Gone 7 → ⊥
lesson_stays f =
    ⊎_elim false≢true cube_stays
    (reduced_falls roots all_live.notes 7 6 (tagged Forall (ReducedFrom 6) 0) refl refl f)

clause_lesson_stays : Gone 8 → ⊥
clause_lesson_stays f =
    ⊎_elim false≢true input_stays
    (reduced_falls roots all_live.notes 8 0 (tagged Exists (ReducedFrom 0) 0) refl refl f)

abbrev left : State
left = with_frame false false false false true

steps_left : (id : ℕ)
    → (Gone id × (note_at left id ≡ None)) ⊎ ((Gone id → ⊥) × (note_at left id ≡ note_at all_live id))
steps_left zero = inr (input_stays, refl)
steps_left (suc zero) = inl (clause_gone, refl)
steps_left (suc (suc zero)) = inl (over_gone, refl)
steps_left (suc (suc (suc zero))) = inl (first_gone, refl)
steps_left (suc (suc (suc (suc zero)))) = inl (second_gone, refl)
steps_left (suc (suc (suc (suc (suc zero))))) = inl (resolvent_gone, refl)
steps_left (suc (suc (suc (suc (suc (suc zero)))))) = inr (cube_stays, refl)
steps_left (suc (suc (suc (suc (suc (suc (suc zero))))))) = inr (lesson_stays, refl)
steps_left (suc (suc (suc (suc (suc (suc (suc (suc zero)))))))) = inr (clause_lesson_stays, refl)
steps_left (suc (suc (suc (suc (suc (suc (suc (suc (suc id))))))))) =
    inr (none_goes roots all_live.notes (suc (suc (suc (suc (suc (suc (suc (suc (suc id))))))))) refl, refl)

rows_left : (id : ℕ) → IsTrue (is_live left id) → row_of left id ≡ row_of all_live id
rows_left zero live = refl
rows_left (suc zero) live = absurd (false≢true live)
rows_left (suc (suc zero)) live = absurd (false≢true live)
rows_left (suc (suc (suc zero))) live = absurd (false≢true live)
rows_left (suc (suc (suc (suc zero)))) live = absurd (false≢true live)
rows_left (suc (suc (suc (suc (suc zero))))) live = absurd (false≢true live)
rows_left (suc (suc (suc (suc (suc (suc zero)))))) live = refl
rows_left (suc (suc (suc (suc (suc (suc (suc zero))))))) live = refl
rows_left (suc (suc (suc (suc (suc (suc (suc (suc zero)))))))) live = refl
rows_left (suc (suc (suc (suc (suc (suc (suc (suc (suc id))))))))) live = absurd (false≢true live)

loses_left : LosesFrame left
loses_left = record { same_next = refl; exactly = steps_left; rows = rows_left }

-- what goes isn't left, and what stays is
is_gone : (after : State) (id : ℕ) → LosesFrame after → Gone id → note_at after id ≡ None
is_gone after id loses gone = ⊎_elim (λ f. f.1) (λ k. absurd (k.0 gone)) (loses.exactly id)

is_left : (after : State) (id : ℕ) → LosesFrame after → (Gone id → ⊥) → note_at after id ≡ note_at all_live id
is_left after id loses stays = ⊎_elim (λ f. absurd (stays f.0)) (λ k. k.1) (loses.exactly id)

abbrev more : State
more = with_step all_live (tagged Forall (ReducedFrom 6) 0) (plus 1 ∷ [])

note_older : (id : ℕ) → id < 9 → note_at more id ≡ note_at all_live id
note_older zero low = refl
note_older (suc zero) low = refl
note_older (suc (suc zero)) low = refl
note_older (suc (suc (suc zero))) low = refl
note_older (suc (suc (suc (suc zero)))) low = refl
note_older (suc (suc (suc (suc (suc zero))))) low = refl
note_older (suc (suc (suc (suc (suc (suc zero)))))) low = refl
note_older (suc (suc (suc (suc (suc (suc (suc zero))))))) low = refl
note_older (suc (suc (suc (suc (suc (suc (suc (suc zero)))))))) low = refl
note_older (suc (suc (suc (suc (suc (suc (suc (suc (suc id))))))))) low = absurd (omega arith)

row_older : (id : ℕ) → id < 9 → row_of more id ≡ row_of all_live id
row_older zero low = refl
row_older (suc zero) low = refl
row_older (suc (suc zero)) low = refl
row_older (suc (suc (suc zero))) low = refl
row_older (suc (suc (suc (suc zero)))) low = refl
row_older (suc (suc (suc (suc (suc zero))))) low = refl
row_older (suc (suc (suc (suc (suc (suc zero)))))) low = refl
row_older (suc (suc (suc (suc (suc (suc (suc zero))))))) low = refl
row_older (suc (suc (suc (suc (suc (suc (suc (suc zero)))))))) low = refl
row_older (suc (suc (suc (suc (suc (suc (suc (suc (suc id))))))))) low = absurd (omega arith)

not_ten : 10 ≤ 9 → ⊥
not_ten h = absurd (omega arith)

not_one : ◌≡◌ {A = ℕ} 0 1 → ⊥
not_one e = absurd (omega arith)

given : 1 < 9
given = omega arith

fewer : 9 ≤ 10
fewer = omega arith

other_side : Exists ≡ Forall → ⊥
other_side e = cc

pub leaving : WorkedLeaving
leaving = record {
  of_frame = refl;
  other_frame = refl;
  named = refl;
  other_sign = refl;
  unnamed = refl;
  no_root = refl;
  loses = loses_left;
  keeps_all = λ l. none_some _ (tagged Exists Given 1) (is_gone all_live 1 l clause_gone) refl;
  keeps_clause = λ l.
      none_some _ (tagged Exists Given 1) (is_gone (with_frame true false false false true) 1 l clause_gone) refl;
  keeps_over = λ l.
      none_some _ (tagged Exists (ResolvedFrom 0 1 2) 1)
      (is_gone (with_frame false true false false true) 2 l over_gone) refl;
  keeps_naming = λ l.
      none_some _ (tagged Forall Given 0) (is_gone (with_frame false false true false true) 4 l second_gone) refl;
  keeps_over_naming = λ l.
      none_some _ (tagged Forall (ResolvedFrom 3 4 3) 0)
      (is_gone (with_frame false false false true true) 5 l resolvent_gone) refl;
  loses_lessons = λ l.
      none_some None (tagged Forall (ReducedFrom 6) 0) refl
      (is_left (with_frame false false false false false) 7 l lesson_stays);
  kept = older_lost roots all_live left loses_left;
  comes_back = λ k. none_some None (tagged Exists Given 1) refl (sym (k.note 1 given refl));
  new = record { longer = fewer; note = λ id low live. note_older id low; row = λ id low live. row_older id low };
  taken_back = λ k. not_ten k.longer;
  reached = refl;
  not_gone = λ e. not_one (sym e);
  own = refl;
  own_reached = refl;
  own_reduction = refl;
  other_clause = λ e. false≢true e;
  other_reduction = λ e. false≢true e;
  earlier = λ e. false≢true e;
  earlier_resolvent = λ e. false≢true e;
  cube = refl;
  clause = other_side;
  no_cube = λ none. none;
}
