-- What stays where steps are dropped.
use Rattle.std.proofs.Common.{◌≡◌, ◌≢◌, ℕ, zero, suc, ◌+◌, ◌-◌, ◌<◌, ◌≤◌, Bool, true, false, not, cond, nat_le, nat_lt, List, [], ◌∷◌, length, map, filter, Contains, Option, Some, None, is_some, unwrap_or, IsTrue, set, sym, refl, ap, ap₂, ◌∙◌, inl, inr, ⊎_elim, arith}
use Rattle.std.specs.List.{filter_map, range_with_len}
use Rattle.std.specs.Option.{option_and_then}
use Rattle.std.proofs.lemmas.Bool.{true≢false, false≢true, cond-true, cond-false, cases_Bool, cases_eq, cases_lt, eq-eqb, leb-true, le-leb, lt-ltb, le-ltb, lt-leb}
use Rattle.std.proofs.lemmas.List.{append-nil, get_or-set_other}
use Rattle.prefix.specs.declared.quant.Quant.{Quant}
use Rattle.prefix.specs.declared.quant.Quant.TheVariants.{Exists, Forall}
use Rattle.prefix.specs.Literal.{Literal}
use Rattle.prefix.specs.Scopes.{Scope}
use Rattle.rows.specs.Arena.{Arena, literals_at, literals_of, row_at as stored_at}
use Rattle.calculus.specs.Rows.{Row}
use Rattle.calculus.specs.Derivations.{Hits, Step, Why, IsInput, IsClosed}
use Rattle.calculus.specs.Derivations.Why.{Given, ReducedFrom, ResolvedFrom, FinishedFrom}
use Rattle.calculus.proofs.Lists.{contains_cons, contains_nil, contains_head, contains_tail, filter_at, filter_same, filter_all}
use Rattle.calculus.proofs.StepLemmas.{kept_derivation}
use Rattle.calculus.proofs.Levels.{contains_map_of}
use Rattle.calculus.proofs.Changes.{changed_derivation, extends_itself}
use Rattle.derive.specs.State.{Note, Notes, State, SameStep, OpenClause, note_in, note_at, next_id, row_of, is_finish, is_live, step_from, steps_of, clause_at, clause_from, clause_with, clauses_of, open_clauses, arena_of, has_rows, IsLegalFor}
use Rattle.derive.specs.Antecedents.{AreSupported, Fits}
use Rattle.derive.specs.Kept.{AreFrom, AreFromFrames, BelongTogether}
use Rattle.derive.specs.Dropping.{StepTest, has_tag, Falls, DropsFrom, Drops, mentions, names, is_cube, finishes, is_from, unless_finish}
use Rattle.derive.specs.Dropping.Falls.{root, rests}
use Rattle.derive.specs.Cubes.{AreCubes, AreListed, is_cube_in, misses, misses_one}
use Rattle.derive.proofs.Ids.{listed_at, listed_from, listed_filter, listed_same, listed_push, kept_if}
use Rattle.derive.proofs.Falling.{none_some, some_is}
use Rattle.derive.proofs.Missed.{cube_given, hit_no_miss, hits_one, hits_unless, misses_from}
use Rattle.derive.proofs.Additions.{from_frames, live_below, supported_same}
use Rattle.derive.proofs.Legality.{stands_at, step_with_is, given_input}

module _ (is_root : StepTest) (old new : Notes) (old_rows new_rows : Arena)
    (drops : DropsFrom is_root old new old_rows new_rows) where
  -- a live note was there before, and doesn't fall
  pub live_before : (id : ℕ) (note : Note) → note_in new id ≡ Some note → (Falls is_root old id → ⊥)
      × (note_in old id ≡ Some note)
  live_before id note there = ⊎_elim (λ f. absurd (none_some (note_in new id) note f.1 there))
      (λ k. (k.0, sym k.1 ∙ there)) (drops.steps id)

  -- what doesn't fall stays
  pub stays_live : (id : ℕ) → (Falls is_root old id → ⊥) → note_in new id ≡ note_in old id
  stays_live id no_fall = ⊎_elim (λ f. absurd (no_fall f.0)) (λ k. k.1) (drops.steps id)

  supported_left : AreSupported old → AreSupported new
  supported_left supported id note there =
      let p = live_before id note there in
      supported_same old new id note (supported id note p.1)
      (λ on r. stays_live on (λ f. p.0 (rests id on note p.1 r f)))

  from_left : (sort : StepTest) (from : ℕ) → AreFrom sort old from → AreFrom sort new from
  from_left sort from are id note there is = are id note (live_before id note there).1 is

  -- where all of a sort are roots none is left
  pub from_none : (sort : StepTest) → ((id : ℕ) (note : Note) → sort id note ≡ true → is_root id note ≡ true)
      → (from : ℕ) → AreFrom sort new from
  from_none sort all from id note there is =
      let p = live_before id note there in
      absurd (p.0 (root id note p.1 (all id note is)))

  fits_left : Fits old old_rows → Fits new new_rows
  fits_left fits =
      record {
        same_next = drops.same_next_row ∙ fits.same_next ∙ sym drops.same_next;
        same_live = λ id. ap is_some (drops.rows id) ∙ live_rows id (note_in new id) refl;
      }
    where
      live_rows : (id : ℕ) (o : Option Note) → note_in new id ≡ o
          → is_some (cond (is_some (note_in new id)) (stored_at old_rows id) None) ≡ is_some (note_in new id)
      live_rows id None e = rw e refl
      live_rows id (Some note) e =
          let p = live_before id note e in
          rw e (fits.same_live id ∙ ap is_some p.1)

  frames_left : (frames : List ℕ) → AreFromFrames old frames → AreFromFrames new frames
  frames_left frames are id note there = from_frames old frames (length new) are id note (live_before id note there).1

  -- what is an initial cube was one
  pub cubes_left : (cubes : List ℕ) → AreListed old cubes → AreListed new cubes
  cubes_left cubes are id is =
      ⊎_elim
      (λ f. absurd (false≢true (ap is_cube_in (sym f.1) ∙ is)))
      (λ k. are id (ap is_cube_in (sym k.1) ∙ is))
      (drops.steps id)

  pub kept_left : (frames cubes : List ℕ) (finishing : ℕ) → BelongTogether old (Some old_rows) frames cubes finishing
      → BelongTogether new (Some new_rows) frames cubes finishing
  kept_left frames cubes finishing kept =
      record {
        supported = supported_left kept.supported;
        fits = λ a e. let f : Some new_rows ≡ Some a = e in let is : new_rows ≡ a = cc in
            rw (← is) (fits_left (kept.fits old_rows refl));
        frames = frames_left frames kept.frames;
        listed = cubes_left cubes kept.listed;
        finishing = from_left _ finishing kept.finishing;
      }

  -- what is listed of the live steps
  abbrev listed : {X : Type 0} → (ℕ → Row → Note → Option X) → Notes → Arena → ℕ → Option X
  listed f ns a k = option_and_then (f k (literals_at a k)) (note_in ns k)

  abbrev lives : {X : Type 0} → (X → ℕ) → X → Bool
  lives id_of x = is_some (note_in new (id_of x))

  kept_none : {X : Type 0} (keep : X → Bool) (o : Option X) → ((x : X) → o ≡ Some x → keep x ≡ false)
      → None ≡ kept_if keep o
  kept_none keep None all = refl
  kept_none keep (Some x) all = sym (cond-false (keep x) (Some x) None (all x refl))

  kept_some : {X : Type 0} (keep : X → Bool) (o : Option X) → ((x : X) → o ≡ Some x → keep x ≡ true)
      → o ≡ kept_if keep o
  kept_some keep None all = refl
  kept_some keep (Some x) all = sym (cond-true (keep x) (Some x) None (all x refl))

  module _ {X : Type 0} (f : ℕ → Row → Note → Option X) (id_of : X → ℕ)
      (has_id : (k : ℕ) (row : Row) (note : Note) (x : X) → f k row note ≡ Some x → id_of x ≡ k) where
    listed_id : (k : ℕ) (row : Row) (o : Option Note) (x : X) → option_and_then (f k row) o ≡ Some x → id_of x ≡ k
    listed_id k row None x e = absurd (none_some None x refl e)
    listed_id k row (Some note) x e = has_id k row note x e

    listed_there : (k : ℕ) → listed f new new_rows k ≡ kept_if (lives id_of) (listed f old old_rows k)
    listed_there k =
        ⊎_elim
        (λ p. ap (option_and_then (f k (literals_at new_rows k))) p.1
        ∙ kept_none (lives id_of) (listed f old old_rows k)
        (λ x e. ap (λ m. is_some (note_in new m)) (listed_id k (literals_at old_rows k) (note_in old k) x e)
        ∙ ap is_some p.1))
        (λ p. live_case (note_in old k) refl p.1)
        (drops.steps k)
      where
        live_case : (o : Option Note) → note_in old k ≡ o → note_in new k ≡ note_in old k
            → listed f new new_rows k ≡ kept_if (lives id_of) (listed f old old_rows k)
        live_case None there same = ap (option_and_then (f k (literals_at new_rows k))) (same ∙ there)
            ∙ ap (λ o. kept_if (lives id_of) (option_and_then (f k (literals_at old_rows k)) o)) (sym there)
        live_case (Some note) there same =
            let live : is_some (note_in new k) ≡ true = ap is_some (same ∙ there) in
            let row : literals_at new_rows k ≡ literals_at old_rows k = ap literals_of
            (drops.rows k ∙ cond-true _ (stored_at old_rows k) None live) in
            ap₂ (λ r o. option_and_then (f k r) o) row same
            ∙ kept_some (lives id_of) (listed f old old_rows k)
            (λ x e. ap (λ m. is_some (note_in new m)) (listed_id k (literals_at old_rows k) (note_in old k) x e)
            ∙ live)

    pub listed_left : filter_map (listed f new new_rows) (range_with_len 0 (length new)) ≡ filter (lives id_of)
        (filter_map (listed f old old_rows) (range_with_len 0 (length old)))
    listed_left = ap (λ n. filter_map (listed f new new_rows) (range_with_len 0 n)) drops.same_next
        ∙ listed_filter (listed f old old_rows) (listed f new new_rows) (lives id_of) 0 (length old) listed_there

step_id : (k : ℕ) (row : Row) (note : Note) (s : Step) → step_from k row note ≡ Some s → s.id ≡ k
step_id k row note s e = ap (λ (t : Step). t.id) (sym (step_with_is k note.side row note.why s e).0)

clause_with_is : (k : ℕ) (row : Row) (tag : ℕ) (side : Quant) (why : Why) (x : OpenClause)
    → clause_with k row tag side why ≡ Some x → (record { id = k; frame = tag; row = row } ≡ x) × (side ≡ Exists)
    × (why ≡ Given)
clause_with_is k row tag Exists Given x e = (cc, refl, refl)
clause_with_is k row tag Exists (ReducedFrom a) x e = absurd (none_some None x refl e)
clause_with_is k row tag Exists (ResolvedFrom a b y) x e = absurd (none_some None x refl e)
clause_with_is k row tag Exists (FinishedFrom a) x e = absurd (none_some None x refl e)
clause_with_is k row tag Forall why x e = absurd (none_some None x refl e)

clause_id : (k : ℕ) (row : Row) (note : Note) (x : OpenClause) → clause_from k row note ≡ Some x → x.id ≡ k
clause_id k row note x e = ap (λ (c : OpenClause). c.id) (sym (clause_with_is k row note.tag note.side note.why x e).0)

-- an open clause stands under its id
pub record ClauseStandsAt (d : State) (c : OpenClause) : Type 0 where
  pub there : note_at d c.id ≡ Some (record { side = Exists; why = Given; tag = c.frame })
  pub row : c.row ≡ row_of d c.id
  pub given : c.id < next_id d

note_is : (note : Note) (side : Quant) (why : Why) → note.side ≡ side → note.why ≡ why
    → note ≡ record { side = side; why = why; tag = note.tag }
note_is note side why s w = λ i. record { side = s i; why = w i; tag = note.tag }

clause_stands_with : (d : State) (k : ℕ) (c : OpenClause) (o : Option Note) → note_at d k ≡ o → k < next_id d
    → option_and_then (clause_from k (row_of d k)) o ≡ Some c → ClauseStandsAt d c
clause_stands_with d k c None there within e = absurd (none_some None c refl e)
clause_stands_with d k c (Some note) there within e =
    let p = clause_with_is k (row_of d k) note.tag note.side note.why c e in
    let id : k ≡ c.id = ap (λ (t : OpenClause). t.id) p.0 in
    record {
      there = ap (note_at d) (sym id) ∙ there
          ∙ ap Some (note_is note Exists Given p.1 p.2 ∙ ap (λ t. record { side = Exists; why = Given; tag = t })
          (ap (λ (t : OpenClause). t.frame) p.0));
      row = ap (λ (t : OpenClause). t.row) (sym p.0) ∙ ap (row_of d) id;
      given = rw (← id) within;
    }

pub clause_stands_at : (d : State) (c : OpenClause) → Contains (clauses_of d) c → ClauseStandsAt d c
clause_stands_at d c i =
    let p = listed_at (clause_at d) 0 (next_id d) c i in
    let within : p.0 < next_id d = let h = p.2 in omega arith in
    clause_stands_with d p.0 c (note_at d p.0) refl within p.3

-- an input clause that is live is open
pub open_from : (d : State) (k : ℕ) (note : Note) → note_at d k ≡ Some note → note.side ≡ Exists → note.why ≡ Given
    → k < next_id d → Contains (open_clauses d) (row_of d k)
open_from d k note there side why within =
    let c : OpenClause = record { id = k; frame = note.tag; row = row_of d k } in
    contains_map_of (λ (x : OpenClause). x.row) (clauses_of d) c
    (listed_from (clause_at d) 0 (next_id d) c k (omega arith) (omega arith)
    (ap (option_and_then (clause_from k (row_of d k))) (there ∙ ap Some (note_is note Exists Given side why))))

pub map_at : {X Y : Type 0} (f : X → Y) (xs : List X) (y : Y) → Contains (map f xs) y
    → (x : X) × Contains xs x × (f x ≡ y)
map_at f [] y i = absurd (contains_nil y i)
map_at f (x ∷ xs) y i = ⊎_elim (λ e. (x, contains_head x xs, e))
    (λ j. let p = map_at f xs y j in (p.0, contains_tail x xs p.0 p.1, p.2)) (contains_cons (f x) (map f xs) y i)

pub open_at : (d : State) (row : Row) → Contains (open_clauses d) row → (c : OpenClause) × Contains (clauses_of d) c
    × (c.row ≡ row)
open_at d row i = map_at (λ (x : OpenClause). x.row) (clauses_of d) row i

-- an input step falls only as a root
pub given_root : (is_root : StepTest) (notes : Notes) (id : ℕ) (note : Note) → note_in notes id ≡ Some note
    → note.why ≡ Given → Falls is_root notes id → is_root id note ≡ true
given_root is_root notes id note there given (root j n at r) = let e : Some note ≡ Some n = sym there ∙ at in let is :
    note ≡ n = cc in rw is r
given_root is_root notes id note there given (rests j on n at r falls) =
    let e : Some note ≡ Some n = sym there ∙ at in
    let is : note ≡ n = cc in
    let why : n.why ≡ Given = ap (λ (m : Note). m.why) (sym is) ∙ given in
    let none = rw why at r in
    absurd none

-- drops of derivations
module _ (is_root : StepTest) (old new : State) (has : has_rows new ≡ true)
    (drops : DropsFrom is_root old.notes new.notes (arena_of old) (arena_of new)) where
  others_stay : (id : ℕ) → IsTrue (is_live new id) → SameStep old new id
  others_stay id live =
      let n = some_is (note_at new id) live in
      record {
        note = n.1
            ∙ sym (live_before is_root old.notes new.notes (arena_of old) (arena_of new) drops id n.0 n.1).1;
        row =
            drops.rows id ∙ cond-true _ (stored_at (arena_of old) id) None live;
      }

  pub dropped : Drops is_root old new
  dropped = record {
    has_rows = has;
    exactly = drops;
    others = others_stay;
    left = listed_left is_root old.notes
        new.notes (arena_of old) (arena_of new) drops step_from (λ (s : Step). s.id) step_id;
  }

  clauses_left : clauses_of new ≡ filter (λ (c : OpenClause). is_live new c.id) (clauses_of old)
  clauses_left = listed_left is_root old.notes new.notes (arena_of old) (arena_of new) drops clause_from
      (λ (c : OpenClause). c.id) clause_id

  -- an open clause stays exactly where it is no root
  clause_stays : (c : OpenClause) → Contains (clauses_of old) c → is_live new c.id ≡ not
      (is_root c.id (record { side = Exists; why = Given; tag = c.frame }))
  clause_stays c i =
      let note : Note = record { side = Exists; why = Given; tag = c.frame } in
      let st = clause_stands_at old c i in
      ⊎_elim (λ p. ap is_some p.1 ∙ ap not (sym (given_root is_root old.notes c.id note st.there refl p.0)))
      (λ p. ap is_some (p.1 ∙ st.there)
      ∙ ap not (sym (⊎_elim (λ t. absurd (p.0 (root c.id note st.there t))) (λ f. f)
      (cases_Bool (is_root c.id note)))))
      (drops.steps c.id)

  pub open_left : (keep : OpenClause → Bool)
      → ((c : OpenClause) → keep c ≡ not (is_root c.id (record { side = Exists; why = Given; tag = c.frame })))
      → clauses_of new ≡ filter keep (clauses_of old)
  open_left keep is = clauses_left ∙ filter_same (λ (c : OpenClause). is_live new c.id) keep (clauses_of old)
      (λ c i. clause_stays c i ∙ sym (is c))

  pub open_all : ((c : OpenClause) → is_root c.id (record { side = Exists; why = Given; tag = c.frame }) ≡ false)
      → clauses_of new ≡ clauses_of old
  open_all none = open_left (λ c. true) (λ c. ap not (sym (none c))) ∙ filter_all (λ (c : OpenClause). true)
      (clauses_of old) (λ c i. refl)

  -- what is kept stays legal
  still_open : (row : Row) → Contains (open_clauses new) row → Contains (open_clauses old) row
  still_open row i =
      let p = open_at new row i in
      let q = filter_at (λ (c : OpenClause). is_live new c.id) (clauses_of old) p.0 (rw (← clauses_left) p.1) in
      rw (← p.2) (contains_map_of (λ (x : OpenClause). x.row) (clauses_of old) p.0 q.0)

  input_left : (s : Step) → Contains (steps_of new) s → s.why ≡ Given → (side : Quant) → s.side ≡ side
      → IsInput side (open_clauses old) s.row → IsInput side (open_clauses new) s.row
  input_left s i why Exists side is =
      let st = stands_at new s i in
      rw st.row (open_from new s.id st.note st.there (sym st.side ∙ side) (sym st.why ∙ why) st.given)
  input_left s i why Forall side is = λ clause j. is clause (still_open clause j)

  -- what a kept step rests on is kept
  pub closed_left : IsClosed (λ (s : Step). is_live new s.id) (steps_of old)
  closed_left s t i j live r =
      let a = stands_at old s i in
      let b = stands_at old t j in
      let n = some_is (note_at new s.id) live in
      let no_fall = (live_before is_root old.notes new.notes (arena_of old) (arena_of new) drops s.id n.0 n.1).0 in
      ap is_some (stays_live is_root old.notes new.notes (arena_of old) (arena_of new) drops t.id
      (λ f. no_fall (rests s.id t.id a.note a.there (rw (← a.why) r) f)) ∙ b.there)

  pub legal_left : (scopes : List Scope) → IsLegalFor scopes old → IsLegalFor scopes new
  legal_left scopes legal =
      let keep = λ (s : Step). is_live new s.id in
      let kept = kept_derivation scopes (open_clauses old) (steps_of old) keep closed_left legal in
      let same = dropped.left in
      changed_derivation scopes scopes (open_clauses old) (open_clauses new) (steps_of new) (extends_itself scopes)
      (λ s i why. input_left s i why s.side refl (given_input scopes (open_clauses old) (steps_of old) s s.why why
      (legal.legal s (filter_at keep (steps_of old) s (rw (← same) i)).0)))
      (rw same kept)

-- the same where the parts are told by equations

pub kept_drop : (is_root : StepTest) (old new : Notes) (rows : Option Arena) (old_rows new_rows : Arena)
    (frames cubes : List ℕ) (finishing : ℕ) → rows ≡ Some old_rows → DropsFrom is_root old new old_rows new_rows
    → BelongTogether old rows frames cubes finishing → BelongTogether new (Some new_rows) frames cubes finishing
kept_drop is_root old new rows old_rows new_rows frames cubes finishing has drops kept = kept_left is_root old new
    old_rows new_rows drops frames cubes finishing (rw has at kept)

pub drops_of : (is_root : StepTest) (d : State) (old new : Notes) (rows : Option Arena) (old_rows new_rows : Arena)
    → record { notes = old; rows = rows } ≡ d → rows ≡ Some old_rows → DropsFrom is_root old new old_rows new_rows
    → Drops is_root d (record { notes = new; rows = Some new_rows })
drops_of is_root d old new rows old_rows new_rows view has drops = rw (← view, has)
    (dropped is_root (record { notes = old; rows = Some old_rows }) (record { notes = new; rows = Some new_rows }) refl
    drops)

pub rows_here : (d : State) (notes : Notes) (rows : Option Arena) (arena : Arena)
    → record { notes = notes; rows = rows } ≡ d → rows ≡ Some arena → arena_of d ≡ arena
rows_here d notes rows arena view has = ap (λ (s : State). arena_of s) (sym view)
    ∙ ap (λ (o : Option Arena). unwrap_or o []) has

pub legal_drops : (is_root : StepTest) (old new : State) → Drops is_root old new → (scopes : List Scope)
    → IsLegalFor scopes old → IsLegalFor scopes new
legal_drops is_root old new drops scopes legal = legal_left is_root old new drops.has_rows drops.exactly scopes legal

pub clauses_filtered : (is_root : StepTest) (old new : State) → Drops is_root old new → (keep : OpenClause → Bool)
    → ((c : OpenClause) → keep c ≡ not (is_root c.id (record { side = Exists; why = Given; tag = c.frame })))
    → clauses_of new ≡ filter keep (clauses_of old)
clauses_filtered is_root old new drops keep is = open_left is_root old new drops.has_rows drops.exactly keep is

pub clauses_same : (is_root : StepTest) (old new : State) → Drops is_root old new
    → ((c : OpenClause) → is_root c.id (record { side = Exists; why = Given; tag = c.frame }) ≡ false)
    → clauses_of new ≡ clauses_of old
clauses_same is_root old new drops none = open_all is_root old new drops.has_rows drops.exactly none

-- the marks after a drop

left_none : (is_root : StepTest) (old new : State) → Drops is_root old new → (notes : Notes) (rows : Option Arena)
    (from : ℕ) → record { notes = notes; rows = rows } ≡ new → AreFrom is_root notes from
left_none is_root old new drops notes rows from view =
    let same : notes ≡ new.notes = ap (λ (d : State). d.notes) view in
    rw same (from_none is_root old.notes new.notes (arena_of old) (arena_of new) drops.exactly is_root
    (λ id note r. r) from)

pub kept_listed : (notes : Notes) (rows : Option Arena) (frames cubes left : List ℕ) (finishing : ℕ)
    → AreListed notes left → BelongTogether notes rows frames cubes finishing → BelongTogether notes rows frames left
    finishing
kept_listed notes rows frames cubes left finishing listed kept =
    record {
      supported = kept.supported;
      fits = kept.fits;
      frames = kept.frames;
      listed = listed;
      finishing =
          kept.finishing;
    }

pub kept_finishes : (old new : State) (notes : Notes) (rows : Option Arena) (frames cubes : List ℕ)
    (finishing from : ℕ) → Drops finishes old new → record { notes = notes; rows = rows } ≡ new
    → BelongTogether notes rows frames cubes finishing → BelongTogether notes rows frames cubes from
kept_finishes old new notes rows frames cubes finishing from drops view kept =
    record {
      supported = kept.supported;
      fits = kept.fits;
      frames = kept.frames;
      listed = kept.listed;
      finishing =
          left_none finishes old new drops notes rows from view;
    }

pub kept_frame : (old new : State) (notes : Notes) (rows : Option Arena) (frames : List ℕ) (frame : ℕ) (cubes : List ℕ)
    (finishing place : ℕ) → Drops (has_tag frame) old new → record { notes = notes; rows = rows } ≡ new
    → BelongTogether notes rows frames cubes finishing → BelongTogether notes rows (set frames frame place) cubes
    finishing
kept_frame old new notes rows frames frame cubes finishing place drops view kept =
    record {
      supported = kept.supported;
      fits = kept.fits;
      frames = λ id note there. ⊎_elim
          (λ (same : note.tag ≡ frame).
          let none = left_none (has_tag frame) old new drops notes rows (length notes) view id note there
          (eq-eqb note.tag frame same) in
          let below = live_below notes id (ap is_some there) in
          absurd (omega arith))
          (λ (apart : note.tag ≢ frame).
          rw (get_or-set_other frames frame note.tag place (length notes) apart) (kept.frames id note there))
          (cases_eq note.tag frame);
      listed = kept.listed;
      finishing = kept.finishing;
    }

-- with the finishes go finishes alone
finish_falls : (notes : Notes) → AreSupported notes → (id : ℕ) → Falls finishes notes id → (note : Note)
    → note_in notes id ≡ Some note → is_finish note.why ≡ true
finish_falls notes supported id (root j n at r) note there = let e : Some n ≡ Some note = sym at ∙ there in let is :
    n ≡ note = cc in rw (← is) r
finish_falls notes supported id (rests j on n at r falls) note there =
    let g = (supported id n at).antecedents on r in
    absurd (false≢true (sym g.no_finish ∙ finish_falls notes supported on falls g.under g.there))

pub steps_same : (old new : State) → AreSupported old.notes → Drops finishes old new → steps_of new ≡ steps_of old
steps_same old new supported drops =
    drops.left
    ∙ filter_all (λ (s : Step). is_live new s.id) (steps_of old)
    (λ s i.
    let st = stands_at old s i in
    ⊎_elim (λ p. absurd (false≢true (sym st.no_finish ∙ finish_falls old.notes supported s.id p.0 st.note st.there)))
    (λ p. ap is_some (p.1 ∙ st.there)) (drops.exactly.steps s.id))

-- with the steps from an id on go these alone
from_falls : (notes : Notes) (first : ℕ) → AreSupported notes → (id : ℕ) → Falls (is_from first) notes id → first ≤ id
from_falls notes first supported id (root j n at r) = leb-true first id r
from_falls notes first supported id (rests j on n at r falls) =
    let below = ((supported id n at).antecedents on r).earlier in
    let before = from_falls notes first supported on falls in
    omega arith

pub front_stays : (old new : State) (first : ℕ) → AreSupported old.notes → Drops (is_from first) old new → (id : ℕ)
    → note_at new id ≡ cond (nat_lt id first) (note_at old id) None
front_stays old new first supported drops id =
    elim (cases_lt id first) [
      | inl h ↦
          ⊎_elim (λ p. absurd (let below = from_falls old.notes first supported id p.0 in omega arith)) (λ p. p.1)
          (drops.exactly.steps id)
          ∙ sym (cond-true (nat_lt id first) (note_at old id) None (lt-ltb id first h))
      | inr h ↦
          ⊎_elim (λ p. p.1) (λ p. gone (note_at old id) refl h p) (drops.exactly.steps id)
          ∙ sym (cond-false (nat_lt id first) (note_at old id) None (le-ltb id first h))
    ]
  where
    gone : (o : Option Note) → note_at old id ≡ o → first ≤ id → (Falls (is_from first) old.notes id → ⊥)
        × (note_at new id ≡ note_at old id) → note_at new id ≡ None
    gone None there h p = p.1 ∙ there
    gone (Some note) there h p = absurd (p.0 (root id note there (le-leb first id h)))

pub not_from : (k first : ℕ) → nat_lt k first ≡ not (nat_le first k)
not_from k first =
    elim (cases_lt k first) [
      | inl h ↦ lt-ltb k first h ∙ ap not (sym (lt-leb first k h))
      | inr h ↦ le-ltb k first h ∙ ap not (sym (le-leb first k h))
    ]

-- exactly the finishes go
pub finishes_go : (old new : State) → AreSupported old.notes → Drops finishes old new → (id : ℕ)
    → note_at new id ≡ unless_finish (note_at old id)
finishes_go old new supported drops id = go (note_at old id) refl
  where
    go : (o : Option Note) → note_at old id ≡ o → note_at new id ≡ unless_finish (note_at old id)
    go None there =
        ⊎_elim (λ p. p.1 ∙ ap unless_finish (sym there)) (λ p. p.1 ∙ there ∙ ap unless_finish (sym there))
        (drops.exactly.steps id)
    go (Some note) there =
        ⊎_elim
        (λ p. p.1 ∙ sym (ap unless_finish there ∙ cond-true (is_finish note.why) None (Some note)
        (finish_falls old.notes supported id p.0 note there)))
        (λ p. p.1 ∙ there ∙ sym (ap unless_finish there ∙ cond-false (is_finish note.why) None (Some note)
        (⊎_elim (λ t. absurd (p.0 (root id note there t))) (λ f. f) (cases_Bool (is_finish note.why)))))
        (drops.exactly.steps id)

-- with the initial cubes go steps of their side alone
no_clause_cube : (side : Quant) (why : Why) → side ≡ Exists → is_cube side why ≡ false
no_clause_cube side why e = rw e refl

cube_falls : (test : StepTest) (notes : Notes) → AreCubes test → AreSupported notes → (id : ℕ) → Falls test notes id
    → (note : Note) → note_in notes id ≡ Some note → note.side ≡ Exists → ⊥
cube_falls test notes cubes supported id (root j n at r) note there side =
    let e : Some n ≡ Some note = sym at ∙ there in
    let is : n ≡ note = cc in
    false≢true (sym (no_clause_cube n.side n.why (ap (λ (m : Note). m.side) is ∙ side)) ∙ cubes id n r)
cube_falls test notes cubes supported id (rests j on n at r falls) note there side =
    let e : Some n ≡ Some note = sym at ∙ there in
    let is : n ≡ note = cc in
    let g = (supported id n at).antecedents on r in
    cube_falls test notes cubes supported on falls g.under g.there (g.one_side ∙ ap (λ (m : Note). m.side) is ∙ side)

pub clause_side_stays : (test : StepTest) (old new : State) → AreCubes test → AreSupported old.notes
    → Drops test old new → (id : ℕ) (note : Note) → note_at old id ≡ Some note → note.side ≡ Exists
    → note_at new id ≡ Some note
clause_side_stays test old new cubes supported drops id note there side =
    ⊎_elim (λ p. absurd (cube_falls test old.notes cubes supported id p.0 note there side)) (λ p. p.1 ∙ there)
    (drops.exactly.steps id)

-- a cube that is left holds a literal of the clause
pub left_hits : (clause : Row) (rows : Arena) (old new : State) → Drops (misses clause rows) old new
    → (id : ℕ) (note : Note) → note_at old id ≡ Some note → is_cube note.side note.why ≡ true → is_live new id ≡ true
    → (l : Literal) × Contains clause l × Contains (literals_at rows id) l
left_hits clause rows old new drops id note there cube live =
    ⊎_elim
    (λ f. absurd (false≢true (sym (ap is_some f.1) ∙ live)))
    (λ k. hits_unless clause rows id note cube (λ m. k.0 (root id note there m)))
    (drops.exactly.steps id)

-- and one that is left holds a literal of each
pub left_hits_all : (clauses : List Row) (rows : Arena) (old new : State) → Drops (misses_one clauses rows) old new
    → (id : ℕ) (note : Note) → note_at old id ≡ Some note → is_cube note.side note.why ≡ true → is_live new id ≡ true
    → (clause : Row) → Contains clauses clause → (l : Literal) × Contains clause l × Contains (literals_at rows id) l
left_hits_all clauses rows old new drops id note there cube live clause at =
    ⊎_elim
    (λ f. absurd (false≢true (sym (ap is_some f.1) ∙ live)))
    (λ k. hits_unless clause rows id note cube
    (λ m. k.0 (root id note there (misses_from clauses clause rows id note at m))))
    (drops.exactly.steps id)

pub left_hit : (clause : Row) (old new : State) → Drops (misses clause (arena_of old)) old new → (id : ℕ)
    → is_cube_in (note_at new id) ≡ true → Hits (row_of new id) (clause ∷ [])
left_hit clause old new drops id cube = by (note_at new id) refl cube
  where
    by : (o : Option Note) → note_at new id ≡ o → is_cube_in o ≡ true → Hits (row_of new id) (clause ∷ [])
    by None there is = absurd (false≢true is)
    by (Some note) there is =
        let live : is_live new id ≡ true = ap is_some there in
        let same = drops.others id live in
        let hit = left_hits clause (arena_of old) old new drops id note (sym same.note ∙ there) is live in
        let row : row_of new id ≡ row_of old id = ap literals_of same.row in
        rw row (hits_one (row_of old id) clause hit)

-- a cube that holds one stays
pub hit_stays : (clause : Row) (old new : State) → Drops (misses clause (arena_of old)) old new → (id : ℕ)
    → is_cube_in (note_at old id) ≡ true → Hits (row_of old id) (clause ∷ []) → SameStep old new id
hit_stays clause old new drops id cube hits = by (note_at old id) refl cube
  where
    by : (o : Option Note) → note_at old id ≡ o → is_cube_in o ≡ true → SameStep old new id
    by None there is = absurd (false≢true is)
    by (Some note) there is =
        let h = hits clause (contains_head clause []) in
        ⊎_elim
        (λ f. absurd
        (hit_no_miss clause (arena_of old) id note h
        (given_root (misses clause (arena_of old)) old.notes id note there (cube_given note.side note.why is) f.0)))
        (λ k. drops.others id (ap is_some (k.1 ∙ there)))
        (drops.exactly.steps id)

none_from_live : {A : Type 0} (o : Option A) → is_some o ≡ false → o ≡ None
none_from_live None e = refl
none_from_live (Some x) e = absurd (true≢false e)

-- a cut gives the steps from before again
module _ {X : Type 0} (f : ℕ → Row → Note → Option X) (before cut : State) (longer : next_id before ≤ next_id cut)
    (below : (k : ℕ) → k < next_id before → note_at cut k ≡ note_at before k)
    (rows : (k : ℕ) → is_live cut k ≡ true → row_of cut k ≡ row_of before k)
    (past : (k : ℕ) → next_id before ≤ k → note_at cut k ≡ None) where
  abbrev told : State → ℕ → Option X
  told d k = option_and_then (f k (row_of d k)) (note_at d k)

  told_same : (k : ℕ) (o : Option Note) → note_at before k ≡ o → note_at cut k ≡ o → told cut k ≡ told before k
  told_same k None there same = ap (option_and_then (f k (row_of cut k))) same
      ∙ sym (ap (option_and_then (f k (row_of before k))) there)
  told_same k (Some note) there same = ap₂ (λ r o. option_and_then (f k r) o) (rows k (ap is_some same))
      (same ∙ sym there)

  told_shorter : (m : ℕ) → filter_map (told cut) (range_with_len 0 (next_id before + m)) ≡ filter_map (told before)
      (range_with_len 0 (next_id before))
  told_shorter zero =
      let none_more : next_id before + zero ≡ next_id before = omega arith in
      ap (λ n. filter_map (told cut) (range_with_len 0 n)) none_more
      ∙ listed_same (told cut) (told before) 0 (next_id before)
      (λ k low high. let h : k < next_id before = omega arith in told_same k (note_at before k) refl (below k h))
  told_shorter (suc m) =
      let one_more : next_id before + suc m ≡ suc (next_id before + m) = omega arith in
      ap (λ n. filter_map (told cut) (range_with_len 0 n)) one_more
      ∙ listed_push (told cut) (told cut) (next_id before + m) None (λ k h. refl)
      (ap (option_and_then (f (next_id before + m) (row_of cut (next_id before + m))))
      (past (next_id before + m) (omega arith)))
      ∙ append-nil (filter_map (told cut) (range_with_len 0 (next_id before + m)))
      ∙ told_shorter m

  pub told_again : filter_map (told cut) (range_with_len 0 (next_id cut)) ≡ filter_map (told before)
      (range_with_len 0 (next_id before))
  told_again =
      let e : next_id cut ≡ next_id before + (next_id cut - next_id before) = omega arith in
      ap (λ n. filter_map (told cut) (range_with_len 0 n)) e ∙ told_shorter (next_id cut - next_id before)

pub restored : (before after cut : State) → next_id before ≤ next_id after
    → ((id : ℕ) → IsTrue (is_live before id) → SameStep before after id)
    → ((id : ℕ) → id < next_id before → is_live after id ≡ is_live before id) → Drops (is_from (next_id before)) after
    cut → ((id : ℕ) → note_at cut id ≡ cond (nat_lt id (next_id before)) (note_at after id) None)
    → (steps_of cut ≡ steps_of before) × (clauses_of cut ≡ clauses_of before)
restored before after cut longer same given drops front = (
  told_again step_from before cut longer_cut below rows past,
  told_again clause_from before cut longer_cut below rows
      past,
)
  where
    longer_cut : next_id before ≤ next_id cut
    longer_cut = let e = drops.exactly.same_next in omega arith

    after_same : (k : ℕ) (o : Option Note) → note_at before k ≡ o → k < next_id before
        → note_at after k ≡ note_at before k
    after_same k None there h = none_from_live (note_at after k) (given k h ∙ ap is_some there) ∙ sym there
    after_same k (Some note) there h = (same k (ap is_some there)).note

    below : (k : ℕ) → k < next_id before → note_at cut k ≡ note_at before k
    below k h = front k ∙ cond-true (nat_lt k (next_id before)) (note_at after k) None (lt-ltb k (next_id before) h)
        ∙ after_same k (note_at before k) refl h

    past : (k : ℕ) → next_id before ≤ k → note_at cut k ≡ None
    past k h = front k ∙ cond-false (nat_lt k (next_id before)) (note_at after k) None (le-ltb k (next_id before) h)

    rows : (k : ℕ) → is_live cut k ≡ true → row_of cut k ≡ row_of before k
    rows k live =
        elim (cases_lt k (next_id before)) [
          | inl h ↦ ap literals_of ((drops.others k live).row ∙ (same k (ap is_some (sym (below k h)) ∙ live)).row)
          | inr h ↦ absurd (false≢true (sym (ap is_some (past k h)) ∙ live))
        ]

-- what is left names none of the variables
pub left_unnamed : (test : ℕ → Bool) (old new : State) → Drops (names test (arena_of old)) old new → (id : ℕ)
    → is_live new id ≡ true → mentions test (row_of new id) ≡ false
left_unnamed test old new drops id live =
    let n = some_is (note_at new id) live in
    let before = live_before (names test (arena_of old)) old.notes new.notes (arena_of old) (arena_of new) drops.exactly
    id n.0 n.1 in
    let row : row_of new id ≡ row_of old id = ap literals_of (drops.others id live).row in
    ⊎_elim
    (λ t. absurd (before.0 (root id n.0 before.1 (ap (mentions test) (sym row) ∙ t))))
    (λ f. f)
    (cases_Bool (mentions test (row_of new id)))

pub clauses_unnamed : (test : ℕ → Bool) (old new : State) → Drops (names test (arena_of old)) old new
    → clauses_of new ≡ filter (λ (c : OpenClause). not (mentions test c.row)) (clauses_of old)
clauses_unnamed test old new drops =
    let by_id : OpenClause → Bool = λ (c : OpenClause). not (mentions test (row_of old c.id)) in
    clauses_filtered (names test (arena_of old)) old new drops by_id (λ c. refl)
    ∙ filter_same by_id (λ (c : OpenClause). not (mentions test c.row)) (clauses_of old)
    (λ c i. ap (λ (r : Row). not (mentions test r)) (sym (clause_stands_at old c i).row))
