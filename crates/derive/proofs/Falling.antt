-- A pass over the ids that drops roots and what rests on them.
use Rattle.std.proofs.Common.{◌≡◌, ◌≢◌, ℕ, ◌+◌, ◌<◌, ◌≤◌, ◌⊎◌, ◌||◌, true, false, cond, length, set, Option, Some, None, is_some, is_none, sym, refl, ap, ◌∙◌, inl, inr, ⊎_elim, arith}
use Rattle.std.proofs.lemmas.Bool.{cases_Bool, cases_eq, cases_lt, or_cases, or_left, or_right, true≢false, false≢true, cond-true, cond-false}
use Rattle.std.proofs.lemmas.List.{get_or-set_same, get_or-set_other, get_or_past, length-set}
use Rattle.rows.specs.Arena.{Arena, StoredRow, literals_at, literals_of, row_at as stored_at, next_id as next_row, ChangesAt}
use Rattle.calculus.specs.Derivations.{Why, RestsOn}
use Rattle.calculus.specs.Derivations.Why.{Given, ReducedFrom, ResolvedFrom, FinishedFrom}
use Rattle.derive.specs.State.{Note, Notes, note_in}
use Rattle.derive.specs.Antecedents.{AreSupported, Fits}
use Rattle.derive.specs.Dropping.{StepTest, Falls, DropsFrom}
use Rattle.derive.specs.Dropping.Falls.{root, rests}
use Rattle.derive.specs.Missing.{misses_antecedent, falls_now, falls_with}

-- options

pub none_is : {A : Type 0} (o : Option A) → is_none o ≡ true → o ≡ None
none_is None e = refl
none_is (Some x) e = absurd (false≢true e)

pub some_is : {A : Type 0} (o : Option A) → is_some o ≡ true → (x : A) × (o ≡ Some x)
some_is None e = absurd (false≢true e)
some_is (Some x) e = (x, refl)

pub none_some : {A : Type 0} (o : Option A) (x : A) → o ≡ None → o ≡ Some x → ⊥
none_some o x n s = let g : None ≡ Some x = sym n ∙ s in cc

-- what a step misses

pub misses_at : (notes : Notes) (why : Why) → misses_antecedent notes why ≡ true → (on : ℕ) × RestsOn why on
    × (note_in notes on ≡ None)
misses_at notes Given e = absurd (false≢true e)
misses_at notes (ReducedFrom a) e = (a, refl, none_is (note_in notes a) e)
misses_at notes (ResolvedFrom a b x) e = ⊎_elim (λ f. (a, inl refl, none_is (note_in notes a) f))
    (λ f. (b, inr refl, none_is (note_in notes b) f))
    (or_cases (is_none (note_in notes a)) (is_none (note_in notes b)) e)
misses_at notes (FinishedFrom a) e = (a, refl, none_is (note_in notes a) e)

pub misses_from : (notes : Notes) (why : Why) (on : ℕ) → RestsOn why on → note_in notes on ≡ None
    → misses_antecedent notes why ≡ true
misses_from notes Given on r e = absurd r
misses_from notes (ReducedFrom a) on r e = ap is_none (ap (note_in notes) r ∙ e)
misses_from notes (ResolvedFrom a b x) on r e =
    ⊎_elim (λ s. or_left (is_none (note_in notes a)) (is_none (note_in notes b))
    (ap is_none (ap (note_in notes) s ∙ e))) (λ s. or_right (is_none (note_in notes a)) (is_none (note_in notes b))
    (ap is_none (ap (note_in notes) s ∙ e))) r
misses_from notes (FinishedFrom a) on r e = ap is_none (ap (note_in notes) r ∙ e)

-- the pass up to an id
pub record Passed (is_root : StepTest) (old notes : Notes) (old_rows rows : Arena) (to : ℕ) : Type 0 where
  pub same_next : length notes ≡ length old
  pub done : (id : ℕ) → id < to → (Falls is_root old id × (note_in notes id ≡ None))
      ⊎ ((Falls is_root old id → ⊥) × (note_in notes id ≡ note_in old id))
  pub rest : (id : ℕ) → to ≤ id → note_in notes id ≡ note_in old id
  pub same_next_row : next_row rows ≡ next_row old_rows
  pub rows_follow : (id : ℕ) → stored_at rows id ≡ cond (is_some (note_in notes id)) (stored_at old_rows id) None

-- nothing falls below the first root
pub none_below : (is_root : StepTest) (old : Notes) (from : ℕ) → AreSupported old
    → ((id : ℕ) (note : Note) → note_in old id ≡ Some note → id < from → is_root id note ≡ false) → (id : ℕ) → id < from
    → Falls is_root old id → ⊥
none_below is_root old from supported below id h (root j note there r) = true≢false (sym r ∙ below id note there h)
none_below is_root old from supported below id h (rests j on note there r falls) =
    let g = (supported id note there).antecedents on r in
    let e : on < id = g.earlier in
    none_below is_root old from supported below on (omega arith) falls

stored_same : (old : Notes) (rows : Arena) → Fits old rows → (id : ℕ) → stored_at rows id ≡ cond
    (is_some (note_in old id)) (stored_at rows id) None
stored_same old rows fits id = ⊎_elim (λ t. sym (cond-true (is_some (note_in old id)) (stored_at rows id) None t))
    (λ f. stored_none (stored_at rows id) (fits.same_live id ∙ f)
    ∙ sym (cond-false (is_some (note_in old id)) (stored_at rows id) None f))
    (cases_Bool (is_some (note_in old id)))
  where
    stored_none : (o : Option StoredRow) → is_some o ≡ false → o ≡ None
    stored_none None e = refl
    stored_none (Some x) e = absurd (true≢false e)

passed_none : (is_root : StepTest) (old : Notes) (rows : Arena) (from : ℕ) → AreSupported old → Fits old rows
    → ((id : ℕ) (note : Note) → note_in old id ≡ Some note → id < from → is_root id note ≡ false)
    → Passed is_root old old rows rows from
passed_none is_root old rows from supported fits below =
    record {
      same_next = refl;
      done = λ id h. inr (none_below is_root old from supported below id h, refl);
      rest = λ id h. refl;
      same_next_row = refl;
      rows_follow = stored_same old rows fits;
    }

-- a live step falls exactly where the pass finds it so
module _ (is_root : StepTest) (old notes : Notes) (old_rows rows : Arena) (to : ℕ) (supported : AreSupported old)
    (passed : Passed is_root old notes old_rows rows to) where
  gone_below : (on : ℕ) → on < to → note_in notes on ≡ None → (under : Note) → note_in old on ≡ Some under
      → Falls is_root old on
  gone_below on h gone under there = ⊎_elim (λ f. f.0)
      (λ k. absurd (none_some (note_in notes on) under gone (k.1 ∙ there))) (passed.done on h)

  pub falls_found : (found : Option Note) → note_in old to ≡ found → falls_with is_root notes to found ≡ true
      → Falls is_root old to
  falls_found None there e = absurd (false≢true e)
  falls_found (Some note) there e = ⊎_elim (λ r. root to note there r)
      (λ m. let p = misses_at notes note.why m in
      let g = (supported to note there).antecedents p.0 p.1 in
      rests to p.0 note there p.1 (gone_below p.0 g.earlier p.2 g.under g.there))
      (or_cases (is_root to note) (misses_antecedent notes note.why) e)

  pub falls_not : (found : Option Note) → note_in old to ≡ found → falls_with is_root notes to found ≡ false → (id : ℕ)
      → id ≡ to → Falls is_root old id → ⊥
  falls_not None there e id same (root j note at r) = none_some (note_in old id) note (ap (note_in old) same ∙ there) at
  falls_not None there e id same (rests j on note at r falls) = none_some (note_in old id) note
      (ap (note_in old) same ∙ there) at
  falls_not (Some found) there e id same (root j note at r) =
      let is : Some found ≡ Some note = sym there ∙ sym (ap (note_in old) same) ∙ at in
      let found_is : found ≡ note = cc in
      true≢false (sym (or_left (is_root to found) (misses_antecedent notes found.why) (rw (found_is, ← same) r)) ∙ e)
  falls_not (Some found) there e id same (rests j on note at r falls) =
      let is : Some found ≡ Some note = sym there ∙ sym (ap (note_in old) same) ∙ at in
      let found_is : found ≡ note = cc in
      let g = (supported id note at).antecedents on r in
      let h : on < to = rw (← same) g.earlier in
      let gone : note_in notes on ≡ None = ⊎_elim (λ f. f.1) (λ k. absurd (k.0 falls)) (passed.done on h) in
      true≢false
      (sym (or_right (is_root to found) (misses_antecedent notes found.why)
      (misses_from notes found.why on (rw found_is r) gone)) ∙ e)

-- one id further
module _ (is_root : StepTest) (old notes : Notes) (old_rows rows : Arena) (to : ℕ) (supported : AreSupported old)
    (passed : Passed is_root old notes old_rows rows to) where
  kept_done : falls_now is_root notes to ≡ false → (id : ℕ) → id < to + 1
      → (Falls is_root old id × (note_in notes id ≡ None))
      ⊎ ((Falls is_root old id → ⊥) × (note_in notes id ≡ note_in old id))
  kept_done e id h =
      elim (cases_eq id to) [
        | inl same ↦ inr (
          falls_not is_root old notes old_rows rows to supported passed (note_in notes to)
              (sym (passed.rest to (omega arith))) e id same,
          ap (note_in notes) same ∙ passed.rest to (omega arith)
              ∙ ap (note_in old) (sym same),
        )
        | inr differs ↦ passed.done id (omega arith)
      ]

  pub passed_keep : falls_now is_root notes to ≡ false → Passed is_root old notes old_rows rows (to + 1)
  passed_keep e = record {
    same_next = passed.same_next;
    done = kept_done e;
    rest = λ id h. passed.rest id
        (omega arith);
    same_next_row = passed.same_next_row;
    rows_follow = passed.rows_follow;
  }

  dropped_done : to < length notes → falls_now is_root notes to ≡ true → (id : ℕ) → id < to + 1
      → (Falls is_root old id × (note_in (set notes to None) id ≡ None))
      ⊎ ((Falls is_root old id → ⊥) × (note_in (set notes to None) id ≡ note_in old id))
  dropped_done within e id h =
      elim (cases_eq id to) [
        | inl same ↦
            inl (
              rw same (falls_found is_root old notes old_rows rows to supported passed (note_in notes to)
                  (sym (passed.rest to (omega arith))) e),
              ap (note_in (set notes to None)) same
                  ∙ get_or-set_same notes to None None within,
            )
        | inr differs ↦
            let other : note_in (set notes to None) id ≡ note_in notes id = get_or-set_other notes to id None None
            differs in
            ⊎_elim (λ f. inl (f.0, other ∙ f.1)) (λ k. inr (k.0, other ∙ k.1)) (passed.done id (omega arith))
      ]

  dropped_rest : (id : ℕ) → to + 1 ≤ id → note_in (set notes to None) id ≡ note_in old id
  dropped_rest id h =
      let differs : id ≢ to = omega arith in
      get_or-set_other notes to id None None differs ∙ passed.rest id (omega arith)

  dropped_rows : (new_rows : Arena) → to < length notes → ChangesAt rows new_rows to None → (id : ℕ)
      → stored_at new_rows id ≡ cond (is_some (note_in (set notes to None) id)) (stored_at old_rows id) None
  dropped_rows new_rows within changes id =
      elim (cases_eq id to) [
        | inl same ↦
            let gone : note_in (set notes to None) id ≡ None = ap (note_in (set notes to None)) same
            ∙ get_or-set_same notes to None None within in
            ap (stored_at new_rows) same ∙ changes.there
            ∙ sym (ap (λ o. cond (is_some o) (stored_at old_rows id) None) gone)
        | inr differs ↦ changes.elsewhere id differs ∙ passed.rows_follow id
            ∙ ap (λ o. cond (is_some o) (stored_at old_rows id) None)
            (sym (get_or-set_other notes to id None None differs))
      ]

  pub passed_drop : (new_notes : Notes) (new_rows : Arena) → to < length notes → falls_now is_root notes to ≡ true
      → new_notes ≡ set notes to None → ChangesAt rows new_rows to None → next_row new_rows ≡ next_row rows
      → Passed is_root old new_notes old_rows new_rows (to + 1)
  passed_drop new_notes new_rows within e is changes next =
      rw is (record {
        same_next = length-set notes to None ∙ passed.same_next;
        done = dropped_done within e;
        rest = dropped_rest;
        same_next_row = next ∙ passed.same_next_row;
        rows_follow = dropped_rows new_rows within changes;
      })

-- no step falls where none is live
no_fall : (is_root : StepTest) (old : Notes) (id : ℕ) → note_in old id ≡ None → Falls is_root old id → ⊥
no_fall is_root old id past (root j note at r) = none_some (note_in old id) note past at
no_fall is_root old id past (rests j on note at r falls) = none_some (note_in old id) note past at

-- over ids under which no step is live
pub passed_skip : (is_root : StepTest) (old notes : Notes) (old_rows rows : Arena) (to next : ℕ) → to ≤ next
    → ((id : ℕ) → to ≤ id → id < next → note_in notes id ≡ None) → Passed is_root old notes old_rows rows to
    → Passed is_root old notes old_rows rows next
passed_skip is_root old notes old_rows rows to next further none passed =
    record {
      same_next = passed.same_next;
      done = λ id h.
          elim (cases_lt id to) [
            | inl low ↦ passed.done id low
            | inr high ↦ inr (no_fall is_root old id (sym (passed.rest id high) ∙ none id high h), passed.rest id high)
          ];
      rest = λ id h. passed.rest id (omega arith);
      same_next_row = passed.same_next_row;
      rows_follow = passed.rows_follow;
    }

-- up to the first live step from an id on, below which there is no root
pub passed_first : (is_root : StepTest) (old : Notes) (rows : Arena) (from first : ℕ) → AreSupported old → Fits old rows
    → ((id : ℕ) (note : Note) → note_in old id ≡ Some note → id < from → is_root id note ≡ false)
    → ((id : ℕ) → from ≤ id → id < first → note_in old id ≡ None) → Passed is_root old old rows rows first
passed_first is_root old rows from first supported fits below none =
    passed_none is_root old rows first supported fits
    (λ id note there low.
    elim (cases_lt id from) [
      | inl h ↦ below id note there h
      | inr h ↦ absurd (none_some (note_in old id) note (none id h low) there)
    ])

-- the whole pass
pub passed_all : (is_root : StepTest) (old notes : Notes) (old_rows rows : Arena) (to : ℕ) → length notes ≤ to
    → Passed is_root old notes old_rows rows to → DropsFrom is_root old notes old_rows rows
passed_all is_root old notes old_rows rows to all passed =
    record {
      same_next = passed.same_next;
      steps = λ id.
          elim (cases_lt id to) [
            | inl h ↦ passed.done id h
            | inr h ↦
                let past : note_in old id ≡ None = let e = passed.same_next in get_or_past old id None (omega arith) in
                inr (no_fall is_root old id past, passed.rest id h)
          ];
      same_next_row = passed.same_next_row;
      rows = passed.rows_follow;
    }

-- what is found of a step by its row, after the pass came to it, is so before
pub falls_alike : (test : Arena → StepTest)
    → ((old_rows rows : Arena) (id : ℕ) (note : Note) → literals_at rows id ≡ literals_at old_rows id
    → test rows id note ≡ test old_rows id note) → (old notes : Notes) (old_rows rows : Arena) (to : ℕ)
    → Passed (test old_rows) old notes old_rows rows to → falls_now (test rows) notes to ≡ falls_now (test old_rows)
    notes to
falls_alike test same old notes old_rows rows to passed = by (note_in notes to) refl
  where
    by : (o : Option Note) → note_in notes to ≡ o → falls_with (test rows) notes to o ≡ falls_with (test old_rows) notes
        to o
    by None e = refl
    by (Some note) e =
        let row : literals_at rows to ≡ literals_at old_rows to = ap literals_of
        (passed.rows_follow to ∙ cond-true (is_some (note_in notes to)) (stored_at old_rows to) None (ap is_some e))
        in
        ap (λ b. b || misses_antecedent notes note.why) (same old_rows rows to note row)

-- a live step's row is there
pub row_there : (is_root : StepTest) (old notes : Notes) (old_rows rows : Arena) (to id : ℕ) → Fits old old_rows
    → Passed is_root old notes old_rows rows to → to ≤ id → (note : Note) → note_in notes id ≡ Some note
    → is_some (stored_at rows id) ≡ true
row_there is_root old notes old_rows rows to id fits passed past note e =
    ap is_some (passed.rows_follow id ∙ cond-true (is_some (note_in notes id)) (stored_at old_rows id) None
    (ap is_some e))
    ∙ (fits.same_live id ∙ ap is_some (sym (passed.rest id past) ∙ e))
