-- Ids that are taken back, under which no step is live any more.
use Rattle.std.proofs.Common.{◌≡◌, ℕ, ◌<◌, ◌≤◌, true, false, cond, nat_lt, List, [], length, take, Option, Some, None, is_some, unwrap_or, sym, refl, ap, subst, ◌∙◌, ⊎_elim, arith}
use Rattle.std.specs.Prelude.{min}
use Rattle.std.specs.Option.{option_map}
use Rattle.std.proofs.lemmas.Bool.{cases_Bool, cond-true, cond-false, lt-ltb, le-ltb, true≢false}
use Rattle.std.proofs.lemmas.List.{ext_get_or, get_or-take, length-take}
use Rattle.rows.specs.Arena.{Arena, row_at as stored_at}
use Rattle.rows.proofs.Shortening.{NoneFrom, front_same}
use Rattle.derive.specs.State.{Note, Notes, State, arena_of, has_rows, is_live, next_id, note_at, note_in}
use Rattle.derive.specs.Antecedents.{AreSupported, Fits}
use Rattle.derive.specs.Cubes.{is_cube_in}
use Rattle.derive.specs.Dropping.{Drops, Falls, StepTest, is_from}
use Rattle.derive.specs.Dropping.Falls.{root, rests}
use Rattle.derive.specs.Growing.{Grows}
use Rattle.derive.specs.Inputs.{IsWhole, shortened}
use Rattle.derive.specs.Kept.{AreFromFrames, BelongTogether}
use Rattle.derive.proofs.Additions.{from_frames, supported_same}
use Rattle.derive.proofs.Falling.{some_is}

none_of : {A : Type 0} (o : Option A) → is_some o ≡ false → o ≡ None
none_of None e = refl
none_of (Some x) e = absurd (true≢false e)

-- rows of a derivation that has them
pub rows_there : (d : State) → has_rows d ≡ true → (a : Arena) × (d.rows ≡ Some a)
rows_there d has = some_is d.rows has

module _ (notes : Notes) (first : ℕ) (none : NoneFrom notes first) where
  same : (id : ℕ) → note_in (take first notes) id ≡ note_in notes id
  same id = front_same notes first none id

  front_supported : AreSupported notes → AreSupported (take first notes)
  front_supported supported id note there =
      supported_same notes (take first notes) id note (supported id note (sym (same id) ∙ there)) (λ on r. same on)

  front_fits : (arena : Arena) → Fits notes arena → Fits (take first notes) (take first arena)
  front_fits arena fits =
      let empty : NoneFrom arena first = λ i h. fits.same_live i ∙ none i h in
      record {
        same_next = length-take first arena ∙ (ap (min first) fits.same_next ∙ sym (length-take first notes));
        same_live = λ id. ap is_some (front_same arena first empty id)
            ∙ (fits.same_live id ∙ ap is_some (sym (same id)));
      }

  front_frames : (frames : List ℕ) → AreFromFrames notes frames → AreFromFrames (take first notes) frames
  front_frames frames are id note there =
      from_frames notes frames (length (take first notes)) are id note (sym (same id) ∙ there)

  pub front_kept : (arena : Arena) (frames cubes : List ℕ) (finishing : ℕ)
      → BelongTogether notes (Some arena) frames cubes finishing
      → BelongTogether (take first notes) (Some (take first arena)) frames cubes finishing
  front_kept arena frames cubes finishing kept = record {
    supported = front_supported kept.supported;
    fits = λ a e. let f : Some (take first arena) ≡ Some a = e in let is : take first arena ≡ a = cc in rw (← is)
        (front_fits arena (kept.fits arena refl));
    frames = front_frames frames kept.frames;
    listed = λ id is. kept.listed id (ap is_cube_in (sym (same id)) ∙ is);
    finishing = λ id note there is. kept.finishing id note (sym (same id) ∙ there) is;
  }

-- what came in is taken back
module _ (before after cut : State) (whole : IsWhole before) (grown : Grows before after)
    (fits : (arena : Arena) → after.rows ≡ Some arena → Fits after.notes arena) (has : has_rows after ≡ true)
    (drops : Drops (is_from (next_id before)) after cut)
    (front : (id : ℕ) → note_at cut id ≡ cond (nat_lt id (next_id before)) (note_at after id) None) where
  note_before : (id : ℕ) → id < next_id before → note_at after id ≡ note_at before id
  note_before id low =
      ⊎_elim
      (λ live. (grown.others id live).note)
      (λ dead. none_of (note_at after id) (grown.given id low ∙ dead) ∙ sym (none_of (note_at before id) dead))
      (cases_Bool (is_live before id))

  note_cut : (id : ℕ) → id < next_id before → note_at cut id ≡ note_at before id
  note_cut id low = front id
      ∙ (cond-true (nat_lt id (next_id before)) (note_at after id) None (lt-ltb id (next_id before) low)
      ∙ note_before id low)

  no_longer : next_id before ≤ length cut.notes
  no_longer = let longer = grown.longer in let next = drops.exactly.same_next in omega arith

  notes_back : take (next_id before) cut.notes ≡ before.notes
  notes_back =
      let long = length-take (next_id before) cut.notes in
      let enough = no_longer in
      let same : length (take (next_id before) cut.notes) ≡ length before.notes = omega arith in
      ext_get_or None (take (next_id before) cut.notes) before.notes same
      (λ id low. let under : id < next_id before = omega arith in
      get_or-take (next_id before) cut.notes id None under ∙ note_cut id under)

  module _ (old now : Arena) (had : before.rows ≡ Some old) (have : cut.rows ≡ Some now) where
    old_is : arena_of before ≡ old
    old_is = ap (λ (o : Option Arena). unwrap_or o []) had

    now_is : arena_of cut ≡ now
    now_is = ap (λ (o : Option Arena). unwrap_or o []) have

    rows_long : next_id before ≤ length now
    rows_long =
        let a = rows_there after has in
        let after_is : arena_of after ≡ a.0 = ap (λ (o : Option Arena). unwrap_or o []) a.1 in
        let next = (fits a.0 a.1).same_next in
        let same = drops.exactly.same_next_row in
        let longer = grown.longer in
        let x = ap (λ (r : Arena). length r) after_is in
        let y = ap (λ (r : Arena). length r) now_is in
        omega arith

    row_cut : (id : ℕ) → id < next_id before → stored_at (arena_of cut) id ≡ stored_at old id
    row_cut id low =
        ⊎_elim
        (λ live.
        drops.exactly.rows id
        ∙ (cond-true (is_some (note_at cut id)) (stored_at (arena_of after) id) None
        (ap is_some (note_cut id low) ∙ live)
        ∙ ((grown.others id live).row ∙ ap (λ (r : Arena). stored_at r id) old_is)))
        (λ dead.
        drops.exactly.rows id
        ∙ (cond-false (is_some (note_at cut id)) (stored_at (arena_of after) id) None
        (ap is_some (note_cut id low) ∙ dead)
        ∙ sym (none_of (stored_at old id) ((whole.fits old had).same_live id ∙ dead))))
        (cases_Bool (is_live before id))

    rows_back : take (next_id before) now ≡ old
    rows_back =
        let long = length-take (next_id before) now in
        let enough = rows_long in
        let next = (whole.fits old had).same_next in
        let same : length (take (next_id before) now) ≡ length old = omega arith in
        ext_get_or None (take (next_id before) now) old same
        (λ id low. let under : id < next_id before = omega arith in
        get_or-take (next_id before) now id None under
        ∙ (ap (λ (r : Arena). stored_at r id) (sym now_is) ∙ row_cut id under))

  back : shortened (next_id before) cut ≡ before
  back =
      let had = rows_there before whole.rows_here in
      let have = rows_there cut drops.has_rows in
      let rows : option_map (take (next_id before)) cut.rows ≡ before.rows =
      ap (option_map (take (next_id before))) have.1 ∙ (ap Some (rows_back had.0 have.0 had.1 have.1) ∙ sym had.1) in
      λ i. record { notes = notes_back i; rows = rows i }

pub taken_back : (before after cut : State) (first : ℕ) → next_id before ≡ first → IsWhole before → Grows before after
    → ((arena : Arena) → after.rows ≡ Some arena → Fits after.notes arena) → has_rows after ≡ true
    → Drops (is_from first) after cut → ((id : ℕ) → note_at cut id ≡ cond (nat_lt id first) (note_at after id) None)
    → shortened first cut ≡ before
taken_back before after cut first is whole grown fits has drops front =
    subst (λ n. shortened n cut ≡ before) is
    (back before after cut whole grown fits has (subst (λ n. Drops (is_from n) after cut) (sym is) drops)
    (subst (λ n. (id : ℕ) → note_at cut id ≡ cond (nat_lt id n) (note_at after id) None) (sym is) front))

-- a cut leaves nothing from an id on
pub cut_front : (after cut : State) (first : ℕ)
    → ((id : ℕ) → note_at cut id ≡ cond (nat_lt id first) (note_at after id) None) → (id : ℕ) → first ≤ id
    → is_live cut id ≡ false
cut_front after cut first front id past = ap is_some
    (front id ∙ cond-false (nat_lt id first) (note_at after id) None (le-ltb id first past))

-- nothing goes where nothing is a root
no_fall : (test : StepTest) (notes : Notes) → ((id : ℕ) (note : Note) → test id note ≡ false) → (id : ℕ)
    → Falls test notes id → ⊥
no_fall test notes none id (root j note there r) = true≢false (sym r ∙ none j note)
no_fall test notes none id (rests j on note there r falls) = no_fall test notes none on falls

module _ (test : StepTest) (old new : State) (whole : IsWhole old)
    (none : (id : ℕ) (note : Note) → test id note ≡ false) (drops : Drops test old new) where
  note_stays : (id : ℕ) → note_at new id ≡ note_at old id
  note_stays id = ⊎_elim (λ f. absurd (no_fall test old.notes none id f.0)) (λ k. k.1) (drops.exactly.steps id)

  notes_stay : new.notes ≡ old.notes
  notes_stay = ext_get_or None new.notes old.notes drops.exactly.same_next (λ id low. note_stays id)

  rows_stay : (was now : Arena) → old.rows ≡ Some was → new.rows ≡ Some now → now ≡ was
  rows_stay was now had have =
      let old_is : arena_of old ≡ was = ap (λ (o : Option Arena). unwrap_or o []) had in
      let new_is : arena_of new ≡ now = ap (λ (o : Option Arena). unwrap_or o []) have in
      ext_get_or None now was
      (ap (λ (r : Arena). length r) (sym new_is)
      ∙ (drops.exactly.same_next_row ∙ ap (λ (r : Arena). length r) old_is))
      (λ id low.
      ap (λ (r : Arena). stored_at r id) (sym new_is)
      ∙ (drops.exactly.rows id
      ∙ ⊎_elim
      (λ live. cond-true (is_some (note_at new id)) (stored_at (arena_of old) id) None
      (ap is_some (note_stays id) ∙ live) ∙ ap (λ (r : Arena). stored_at r id) old_is)
      (λ dead. cond-false (is_some (note_at new id)) (stored_at (arena_of old) id) None
      (ap is_some (note_stays id) ∙ dead)
      ∙ sym (none_of (stored_at was id) ((whole.fits was had).same_live id ∙ dead)))
      (cases_Bool (is_live old id))))

  pub nothing_goes : new ≡ old
  nothing_goes =
      let had = rows_there old whole.rows_here in
      let have = rows_there new drops.has_rows in
      let rows : new.rows ≡ old.rows = have.1 ∙ (ap Some (rows_stay had.0 have.0 had.1 have.1) ∙ sym had.1) in
      λ i. record { notes = notes_stay i; rows = rows i }
