-- One more step.
use Rattle.std.proofs.Common.{◌≡◌, ◌≢◌, ℕ, zero, suc, ◌+◌, ◌<◌, ◌≤◌, ◌⊎◌, true, List, [], ◌∷◌, ◌++◌, length, get_or, Contains, Option, Some, None, is_some, IsTrue, sym, refl, ap, ap₂, subst, ◌∙◌, inl, inr, ⊎_elim, arith}
use Rattle.std.specs.List.{filter_map, range_with_len, cons_option}
use Rattle.std.specs.Prelude.{max, min}
use Rattle.std.specs.Option.{option_and_then}
use Rattle.std.proofs.lemmas.Bool.{cases_eq, cases_lt, false≢true, not-true}
use Rattle.std.proofs.lemmas.List.{get_or_append_left, get_or_default, get_or_push, get_or_past, length_push}
use Rattle.prefix.specs.declared.quant.Quant.{Quant}
use Rattle.prefix.specs.declared.quant.Quant.TheVariants.{Exists}
use Rattle.rows.specs.Arena.{Arena, next_id as next_row, literals_at, literals_of, new_row, with_row}
use Rattle.calculus.specs.Rows.{Row}
use Rattle.calculus.specs.Derivations.{Why, RestsOn}
use Rattle.calculus.specs.Derivations.Why.{Given, ReducedFrom, ResolvedFrom, FinishedFrom}
use Rattle.derive.specs.State.{Note, Notes, State, SameStep, note_in, note_at, is_live, is_step, is_finish, may_be_antecedent, next_id, has_rows, row_of, side_at, side_in, tag_at, why_in, tag_in, step_from, clause_from, with_step}
use Rattle.derive.specs.Antecedents.{AreSupported, IsAntecedentIn, IsSupportedAt, HasTag, Fits}
use Rattle.derive.specs.Kept.{AreFrom, AreFromFrames, BelongTogether}
use Rattle.derive.specs.Dropping.{finishes, is_cube}
use Rattle.derive.specs.Cubes.{AreListed, is_cube_in}
use Rattle.derive.specs.Adding.{Adds, AddsBoth, IsOver, Removes, clause_note, note_over}
use Rattle.derive.proofs.Ids.{listed_push}
use Rattle.derive.proofs.Falling.{none_some}

-- a list with one more item
pub pushed_old : {X : Type 0} (xs : List X) (y d : X) (k : ℕ) → k < length xs → get_or (xs ++ y ∷ []) k d ≡ get_or xs k
    d
pushed_old xs y d k h = get_or_append_left xs (y ∷ []) d k h

pub pushed_new : {X : Type 0} (xs : List X) (y d : X) (k : ℕ) → k ≡ length xs → get_or (xs ++ y ∷ []) k d ≡ y
pushed_new xs y d k e = get_or_push xs y d k (sym e)

pub pushed_past : {X : Type 0} (xs : List X) (y d : X) (k : ℕ) → length xs < k → get_or (xs ++ y ∷ []) k d ≡ d
pushed_past xs y d k h = get_or_past (xs ++ y ∷ []) k d (let e = length_push xs y in omega arith)

pub pushed_length : {X : Type 0} (xs : List X) (y : X) → length (xs ++ y ∷ []) ≡ suc (length xs)
pushed_length xs y = let e = length_push xs y in omega arith

-- a live id is one that was given
pub live_below : (notes : Notes) (id : ℕ) → is_some (note_in notes id) ≡ true → id < length notes
live_below [] id live = absurd (false≢true live)
live_below (first ∷ notes) zero live = omega arith
live_below (first ∷ notes) (suc id) live = let h = live_below notes id live in omega arith

-- where a frame has no place there, no step has it as its tag
pub from_frames : (notes : Notes) (frames : List ℕ) (limit : ℕ) → AreFromFrames notes frames → (id : ℕ) (note : Note)
    → note_in notes id ≡ Some note → get_or frames note.tag limit ≤ id
from_frames notes frames limit are id note there =
    let above = are id note there in
    let below = live_below notes id (ap is_some there) in
    ⊎_elim
    (λ within. let same = get_or_default frames note.tag limit (length notes) within in omega arith)
    (λ past. let none = get_or_past frames note.tag (length notes) past in omega arith)
    (cases_lt note.tag (length frames))

-- what is listed with one more step
module _ (notes : Notes) (arena : Arena) (same : next_row arena ≡ length notes) (note : Note) (row : Row) where
  row_before : (k : ℕ) → k < length notes → literals_at (with_row arena row) k ≡ literals_at arena k
  row_before k h = ap literals_of (pushed_old arena (Some (new_row row)) None k (omega arith))

  row_last : literals_at (with_row arena row) (length notes) ≡ row
  row_last = ap literals_of (pushed_new arena (Some (new_row row)) None (length notes) (sym same))

  abbrev listed : {X : Type 0} → (ℕ → Row → Note → Option X) → Notes → Arena → ℕ → Option X
  listed f ns a k = option_and_then (f k (literals_at a k)) (note_in ns k)

  listed_more : {X : Type 0} (f : ℕ → Row → Note → Option X)
      → filter_map (listed f (notes ++ Some note ∷ []) (with_row arena row))
      (range_with_len 0 (length (notes ++ Some note ∷ []))) ≡ filter_map (listed f notes arena)
      (range_with_len 0 (length notes)) ++ cons_option (f (length notes) row note) []
  listed_more f =
      ap (λ n. filter_map (listed f (notes ++ Some note ∷ []) (with_row arena row)) (range_with_len 0 n))
      (pushed_length notes (Some note))
      ∙ listed_push (listed f notes arena) (listed f (notes ++ Some note ∷ []) (with_row arena row)) (length notes)
      (f (length notes) row note)
      (λ k h. ap₂ (λ r o. option_and_then (f k r) o) (row_before k h) (pushed_old notes (Some note) None k h))
      (ap₂ (λ r o. option_and_then (f (length notes) r) o) row_last
      (pushed_new notes (Some note) None (length notes) refl))

  others_stay : (other : ℕ) → IsTrue (is_some (note_in notes other))
      → SameStep (record { notes = notes; rows = Some arena })
      (with_step (record { notes = notes; rows = Some arena }) note row) other
  others_stay other live =
      let below : other < length notes = live_below notes other live in
      record {
        note = pushed_old notes (Some note) None other below;
        row = pushed_old arena (Some (new_row row)) None
            other (omega arith);
      }

  pub adds : Adds (record { notes = notes; rows = Some arena })
      (with_step (record { notes = notes; rows = Some arena }) note row) (length notes) note row
  adds =
      record {
        is_next = refl;
        state = refl;
        has_rows = refl;
        there = pushed_new notes (Some note) None (length notes) refl;
        has_row = row_last;
        fresh = pushed_new arena (Some (new_row row)) None (length notes) (sym same);
        others = others_stay;
        given = λ other h. ap is_some (pushed_old notes (Some note) None other h);
        steps = listed_more step_from;
        clauses = listed_more clause_from;
      }

-- what steps rest on, and their tags, with one more step

pub tag_same : (old new : Notes) (side : Quant) (tag : ℕ) (why : Why)
    → ((on : ℕ) → RestsOn why on → note_in new on ≡ note_in old on) → HasTag old side tag why → HasTag new side tag why
tag_same old new side tag Given same has = has
tag_same old new side tag (ReducedFrom a) same has = has ∙ ap tag_in (sym (same a refl))
tag_same old new side tag (ResolvedFrom a b x) same has = has ∙ ap₂ (λ o p. max (tag_in o) (tag_in p))
    (sym (same a (inl refl))) (sym (same b (inr refl)))
tag_same old new side tag (FinishedFrom a) same has = has ∙ ap tag_in (sym (same a refl))

-- a note stands on the same support where what it rests on stays
pub supported_same : (old new : Notes) (id : ℕ) (note : Note) → IsSupportedAt old id note
    → ((on : ℕ) → RestsOn note.why on → note_in new on ≡ note_in old on) → IsSupportedAt new id note
supported_same old new id note g same =
    record {
      antecedents = λ on r. let h = g.antecedents on r in
          record {
            under = h.under;
            there = same on r ∙ h.there;
            earlier = h.earlier;
            one_side = h.one_side;
            no_finish =
                h.no_finish;
          };
      tag = tag_same old new note.side note.tag note.why same g.tag;
    }

pub supported_more : (notes : Notes) (last : Option Note) (id : ℕ) (note : Note) → id ≤ length notes
    → IsSupportedAt notes id note → IsSupportedAt (notes ++ last ∷ []) id note
supported_more notes last id note within g = supported_same notes (notes ++ last ∷ []) id note g
    (λ on r. let e = (g.antecedents on r).earlier in pushed_old notes last None on (omega arith))

-- where an id stands against the end of a list
ends : (k n : ℕ) → (k < n) ⊎ ((k ≡ n) ⊎ (n < k))
ends k n =
    elim (cases_lt k n) [
      | inl h ↦ inl h
      | inr h ↦
          elim (cases_eq k n) [ inl e ↦ inr (inl e) | inr ne ↦ inr (inr (grind arith)) ]
    ]

module _ (notes : Notes) (arena : Arena) (note : Note) (row : Row) (fits : Fits notes arena)
    (support : IsSupportedAt notes (length notes) note) where
  all_supported : AreSupported notes → AreSupported (notes ++ Some note ∷ [])
  all_supported supported id n there =
      elim (ends id (length notes)) [
        | inl h ↦ supported_more notes (Some note) id n (omega arith)
            (supported id n (sym (pushed_old notes (Some note) None id h) ∙ there))
        | inr e ↦ elim e [
          | inl s ↦
              let f : Some note ≡ Some n = sym (pushed_new notes (Some note) None id s) ∙ there in
              let is : note ≡ n = cc in
              rw (s, ← is) (supported_more notes (Some note) (length notes) note (omega arith) support)
          | inr h ↦ absurd (none_some (note_in (notes ++ Some note ∷ []) id) n (pushed_past notes (Some note) None id h)
              there)
        ]
      ]

  fits_more : Fits (notes ++ Some note ∷ []) (with_row arena row)
  fits_more =
      record {
        same_next = pushed_length arena (Some (new_row row)) ∙ ap suc fits.same_next
            ∙ sym (pushed_length notes (Some note));
        same_live =
            λ id.
            let same = fits.same_next in
            elim (ends id (length notes)) [
              | inl h ↦ ap is_some (pushed_old arena (Some (new_row row)) None id (omega arith)) ∙ fits.same_live id
                  ∙ ap is_some (sym (pushed_old notes (Some note) None id h))
              | inr e ↦ elim e [
                | inl s ↦ ap is_some (pushed_new arena (Some (new_row row)) None id (s ∙ sym same))
                    ∙ ap is_some (sym (pushed_new notes (Some note) None id s))
                | inr h ↦ ap is_some (pushed_past arena (Some (new_row row)) None id (omega arith))
                    ∙ ap is_some (sym (pushed_past notes (Some note) None id h))
              ]
            ];
      }

  -- a finish is told of before it comes in
  finishes_more : (from : ℕ) → AreFrom finishes notes from → (is_finish note.why ≡ true → from ≤ length notes)
      → AreFrom finishes (notes ++ Some note ∷ []) from
  finishes_more from are new id n there is =
      elim (ends id (length notes)) [
        | inl h ↦ are id n (sym (pushed_old notes (Some note) None id h) ∙ there) is
        | inr e ↦ elim e [
          | inl s ↦
              let g : Some note ≡ Some n = sym (pushed_new notes (Some note) None id s) ∙ there in
              let same : note ≡ n = cc in
              let low = new (ap (λ (m : Note). is_finish m.why) same ∙ is) in
              omega arith
          | inr past ↦
              absurd
              (none_some (note_in (notes ++ Some note ∷ []) id) n (pushed_past notes (Some note) None id past) there)
        ]
      ]

  -- steps of a frame stand where they stood, and the new one at the end
  frames_more : (frames : List ℕ) → note.tag < length frames → get_or frames note.tag (length notes) ≤ length notes
      → AreFromFrames notes frames → AreFromFrames (notes ++ Some note ∷ []) frames
  frames_more frames within early are id n there =
      elim (ends id (length notes)) [
        | inl below ↦
            from_frames notes frames (length (notes ++ Some note ∷ [])) are id n
            (sym (pushed_old notes (Some note) None id below) ∙ there)
        | inr e ↦ elim e [
          | inl s ↦
              let g : Some note ≡ Some n = sym (pushed_new notes (Some note) None id s) ∙ there in
              let same : note ≡ n = cc in
              let longer = length (notes ++ Some note ∷ []) in
              let is : get_or frames n.tag longer ≡ get_or frames note.tag (length notes) =
              ap (λ (m : Note). get_or frames m.tag longer) (sym same)
              ∙ get_or_default frames note.tag longer (length notes) within in
              omega arith
          | inr past ↦
              absurd
              (none_some (note_in (notes ++ Some note ∷ []) id) n (pushed_past notes (Some note) None id past) there)
        ]
      ]

  -- an initial cube is listed before it comes in
  cubes_more : (cubes : List ℕ) → AreListed notes cubes
      → (is_cube note.side note.why ≡ true → Contains cubes (length notes)) → AreListed (notes ++ Some note ∷ []) cubes
  cubes_more cubes are new id is =
      elim (ends id (length notes)) [
        | inl h ↦ are id (ap is_cube_in (sym (pushed_old notes (Some note) None id h)) ∙ is)
        | inr e ↦ elim e [
          | inl s ↦ rw s (new (ap is_cube_in (sym (pushed_new notes (Some note) None id s)) ∙ is))
          | inr h ↦ absurd (false≢true (ap is_cube_in (sym (pushed_past notes (Some note) None id h)) ∙ is))
        ]
      ]

  pub kept_more : (frames cubes : List ℕ) (finishes : ℕ) → note.tag < length frames → get_or frames note.tag
      (length notes) ≤ length notes → (is_cube note.side note.why ≡ true → Contains cubes (length notes))
      → (is_finish note.why ≡ true → finishes ≤ length notes)
      → BelongTogether notes (Some arena) frames cubes finishes → BelongTogether (notes ++ Some note ∷ [])
      (Some (with_row arena row)) frames cubes finishes
  kept_more frames cubes finishes within early new told kept =
      record {
        supported = all_supported kept.supported;
        fits = λ a e. let f : Some (with_row arena row) ≡ Some a = e in let is : with_row arena row ≡ a = cc in
            rw (← is) fits_more;
        frames = frames_more frames within early kept.frames;
        listed = cubes_more cubes kept.listed new;
        finishing = finishes_more finishes kept.finishing told;
      }

-- the same with places for frames, and one for finishes, that tell no later ids
pub kept_widened : (notes : Notes) (rows : Option Arena) (frames wider cubes more : List ℕ) (finishes sooner : ℕ)
    → ((frame : ℕ) → min (get_or wider frame (length notes)) (length notes) ≤ get_or frames frame (length notes))
    → ((id : ℕ) → Contains cubes id → Contains more id) → sooner ≤ finishes
    → BelongTogether notes rows frames cubes finishes → BelongTogether notes rows wider more sooner
kept_widened notes rows frames wider cubes more finishes sooner same still low kept =
    record {
      supported = kept.supported;
      fits = kept.fits;
      frames = λ id note there.
          let below = live_below notes id (ap is_some there) in
          let before = kept.frames id note there in
          let told = same note.tag in
          omega arith;
      listed = λ id is. still id (kept.listed id is);
      finishing = λ id note there is. let first = kept.finishing id note there is in omega arith;
    }

-- the same where room was made before
pub kept_room : (notes room : Notes) (rows left : Option Arena) (frames wider cubes more : List ℕ)
    (finishes sooner len : ℕ) → len ≡ length notes → room ≡ notes → left ≡ rows
    → ((frame : ℕ) → min (get_or wider frame len) len ≤ get_or frames frame len)
    → ((id : ℕ) → Contains cubes id → Contains more id) → sooner ≤ finishes
    → BelongTogether notes rows frames cubes finishes → BelongTogether room left wider more sooner
kept_room notes room rows left frames wider cubes more finishes sooner len is same here told still low kept =
    rw (same, here)
    (kept_widened notes rows frames wider cubes more finishes sooner
    (subst (λ n. (frame : ℕ) → min (get_or wider frame n) n ≤ get_or frames frame n) is told) still low kept)

-- the same where the parts are told by equations

some_same : (a b : Arena) → ◌≡◌ {A = Option Arena} (Some a) (Some b) → a ≡ b
some_same a b e = cc

pub kept_add : (notes after : Notes) (rows : Option Arena) (arena new_arena : Arena) (note : Note) (row : Row)
    (frames cubes : List ℕ) (finishes : ℕ) → note.tag < length frames → get_or frames note.tag (length notes) ≤ length
    notes → (is_cube note.side note.why ≡ true → Contains cubes (length notes))
    → (is_finish note.why ≡ true → finishes ≤ length notes) → rows ≡ Some arena
    → after ≡ notes ++ Some note ∷ [] → new_arena ≡ with_row arena row → IsSupportedAt notes (length notes) note
    → BelongTogether notes rows frames cubes finishes → BelongTogether after (Some new_arena) frames cubes finishes
kept_add notes after rows arena new_arena note row frames cubes finishes within early new told has is_after is_arena
    support kept =
    rw (is_after, is_arena) (kept_more notes arena note row (kept.fits arena has) support frames cubes finishes within
    early new told (rw has at kept))

pub adds_of : (d : State) (notes after : Notes) (rows : Option Arena) (arena new_arena : Arena) (note : Note)
    (row : Row) (id : ℕ) (frames cubes : List ℕ) (finishes : ℕ) → record { notes = notes; rows = rows } ≡ d
    → rows ≡ Some arena → after ≡ notes ++ Some note ∷ [] → new_arena ≡ with_row arena row → id ≡ next_row arena
    → BelongTogether notes rows frames cubes finishes → Adds d (record { notes = after; rows = Some new_arena }) id note
    row
adds_of d notes after rows arena new_arena note row id frames cubes finishes view has is_after is_arena is_id kept =
    let same = (kept.fits arena has).same_next in
    rw (← view, has, is_after, is_arena, is_id ∙ same) (adds notes arena same note row)

-- a clause with its reduction

clause_supported : (notes : Notes) (frame : ℕ) → IsSupportedAt notes (length notes) (clause_note frame)
clause_supported notes frame = record { antecedents = λ on r. absurd r; tag = λ e. absurd (cc) }

over_clause : (notes : Notes) (frame : ℕ) → IsSupportedAt (notes ++ Some (clause_note frame) ∷ [])
    (length (notes ++ Some (clause_note frame) ∷ []))
    (record { side = Exists; why = ReducedFrom (length notes); tag = frame })
over_clause notes frame =
    let there : note_in (notes ++ Some (clause_note frame) ∷ []) (length notes) ≡ Some (clause_note frame) =
    pushed_new notes (Some (clause_note frame)) None (length notes) refl in
    let longer = pushed_length notes (Some (clause_note frame)) in
    record {
      antecedents =
          λ on r. record {
            under = clause_note frame;
            there = ap (note_in (notes ++ Some (clause_note frame) ∷ []))
                (sym r) ∙ there;
            earlier = rw (← r) (omega arith);
            one_side = refl;
            no_finish = refl;
          };
      tag = sym (ap tag_in there);
    }

-- with one more step the place of a frame is still no later than the end
still_early : (notes : Notes) (note : Note) (frames : List ℕ) → note.tag < length frames → get_or frames note.tag
    (length notes) ≤ length notes → get_or frames note.tag (length (notes ++ Some note ∷ [])) ≤ length
    (notes ++ Some note ∷ [])
still_early notes note frames within early =
    let longer = pushed_length notes (Some note) in
    let same = get_or_default frames note.tag (length (notes ++ Some note ∷ [])) (length notes) within in
    omega arith

pub kept_both : (notes after : Notes) (rows : Option Arena) (arena new_arena : Arena) (frame : ℕ) (row reduced : Row)
    (frames cubes : List ℕ) (finishes : ℕ) → frame < length frames → get_or frames frame (length notes) ≤ length notes
    → rows ≡ Some arena → after ≡ (notes ++ Some (clause_note frame) ∷ []) ++ Some
    (record { side = Exists; why = ReducedFrom (length notes); tag = frame }) ∷ [] → new_arena ≡ with_row
    (with_row arena row) reduced → BelongTogether notes rows frames cubes finishes → BelongTogether after
    (Some new_arena) frames cubes finishes
kept_both notes after rows arena new_arena frame row reduced frames cubes finishes within early has is_after is_arena
    kept =
    kept_add (notes ++ Some (clause_note frame) ∷ []) after (Some (with_row arena row)) (with_row arena row) new_arena
    (record { side = Exists; why = ReducedFrom (length notes); tag = frame }) reduced frames cubes finishes within
    (still_early notes (clause_note frame) frames within early) (λ e. absurd (false≢true e))
    (λ e. absurd (false≢true e)) refl is_after is_arena
    (over_clause notes frame)
    (kept_add notes (notes ++ Some (clause_note frame) ∷ []) rows arena (with_row arena row) (clause_note frame) row
    frames cubes finishes within early (λ e. absurd (false≢true e)) (λ e. absurd (false≢true e)) has refl refl
    (clause_supported notes frame) kept)

pub adds_both : (d : State) (notes after : Notes) (rows : Option Arena) (arena new_arena : Arena) (frame : ℕ)
    (row reduced : Row) (first second : ℕ) (frames cubes : List ℕ) (finishes : ℕ) → frame < length frames
    → get_or frames frame (length notes) ≤ length notes → record { notes = notes; rows = rows } ≡ d → rows ≡ Some arena
    → after ≡ (notes ++ Some (clause_note frame) ∷ []) ++ Some
    (record { side = Exists; why = ReducedFrom (length notes); tag = frame }) ∷ [] → new_arena ≡ with_row
    (with_row arena row) reduced → first ≡ next_row arena → second ≡ next_row arena + 1
    → BelongTogether notes rows frames cubes finishes → AddsBoth d (record { notes = after; rows = Some new_arena })
    first second frame row reduced
adds_both d notes after rows arena new_arena frame row reduced first second frames cubes finishes within early view has
    is_after is_arena is_first is_second kept =
    let same = (kept.fits arena has).same_next in
    let middle : State = record { notes = notes ++ Some (clause_note frame) ∷ []; rows = Some (with_row arena row) } in
    let there : note_at middle (length notes) ≡ Some (clause_note frame) = pushed_new notes (Some (clause_note frame))
    None (length notes) refl in
    let first_is : first ≡ length notes = is_first ∙ same in
    let kept_first = kept_add notes (notes ++ Some (clause_note frame) ∷ []) rows arena (with_row arena row)
    (clause_note frame) row frames cubes finishes within early (λ e. absurd (false≢true e))
    (λ e. absurd (false≢true e)) has refl refl (clause_supported notes frame) kept in
    let note_is : record { side = Exists; why = ReducedFrom (length notes); tag = frame } ≡ note_over middle first
    (ReducedFrom first) = rw (first_is, there) refl in
    record {
      with_input = middle;
      input = adds_of d notes (notes ++ Some (clause_note frame) ∷ []) rows arena (with_row arena row)
          (clause_note frame) row first frames cubes finishes view has refl refl is_first kept;
      reduction =
          adds_of middle (notes ++ Some (clause_note frame) ∷ []) after (Some (with_row arena row)) (with_row arena row)
          new_arena (note_over middle first (ReducedFrom first)) reduced second frames cubes finishes refl refl
          (is_after ∙ ap (λ n. (notes ++ Some (clause_note frame) ∷ []) ++ Some n ∷ []) note_is) is_arena
          (is_second ∙ sym (length_push arena (Some (new_row row)))) kept_first;
    }

-- a step that rests on one other, with its side and tag
pub over_supported : (d : State) (on : ℕ) (why : Why) (note : Note) → IsOver why on → is_step d on ≡ true
    → on < next_id d → note ≡ note_over d on why → IsSupportedAt d.notes (next_id d) note
over_supported d on why note over step below is =
    rw is (record { antecedents = rest_on why over; tag = tag_of why over })
  where
    antecedent : IsAntecedentIn d.notes (next_id d) (side_at d on) on
    antecedent = under (note_at d on) refl
      where
        under : (o : Option Note) → note_at d on ≡ o → IsAntecedentIn d.notes (next_id d) (side_at d on) on
        under None e = absurd (false≢true (ap may_be_antecedent (sym e) ∙ step))
        under (Some n) e = record {
          under = n;
          there = e;
          earlier = below;
          one_side = ap side_in (sym e);
          no_finish =
              not-true (is_finish n.why) (ap may_be_antecedent (sym e) ∙ step);
        }

    rest_on : (w : Why) → IsOver w on → (k : ℕ) → RestsOn w k → IsAntecedentIn d.notes (next_id d) (side_at d on) k
    rest_on Given o k r = absurd r
    rest_on (ReducedFrom a) o k r = subst (IsAntecedentIn d.notes (next_id d) (side_at d on)) (sym o ∙ r) antecedent
    rest_on (ResolvedFrom a b x) o k r = absurd o
    rest_on (FinishedFrom a) o k r = subst (IsAntecedentIn d.notes (next_id d) (side_at d on)) (sym o ∙ r) antecedent

    tag_of : (w : Why) → IsOver w on → HasTag d.notes (side_at d on) (tag_at d on) w
    tag_of Given o = absurd o
    tag_of (ReducedFrom a) o = ap (λ k. tag_in (note_in d.notes k)) (sym o)
    tag_of (ResolvedFrom a b x) o = absurd o
    tag_of (FinishedFrom a) o = ap (λ k. tag_in (note_in d.notes k)) (sym o)

-- removals

pub removes_none : (d : State) (on : ℕ) (why : Why) (row : Row) → has_rows d ≡ true → is_live d on ≡ true
    → row ≡ row_of d on → Removes d d on on why row
removes_none d on why row has live is =
    record {
      cases = inl (is, refl, refl);
      has_rows = has;
      live = live;
      has_side = refl;
      has_row = sym is;
      has_tag = refl;
      rests = inl refl;
      others = λ other l. record { note = refl; row = refl };
      given = λ other h. refl;
    }

pub removes_more : (old new : State) (id on : ℕ) (why : Why) (row : Row) → row ≢ row_of old on
    → Adds old new id (note_over old on why) row → Removes old new id on why row
removes_more old new id on why row differs adds =
    record {
      cases = inr (differs, adds);
      has_rows = adds.has_rows;
      live = ap is_some adds.there;
      has_side = ap side_in adds.there;
      has_row = adds.has_row;
      has_tag = ap tag_in adds.there;
      rests = inr (ap why_in adds.there);
      others = adds.others;
      given = adds.given;
    }
