-- Rows that are detached between solves.
use Rattle.std.proofs.Common.{◌≡◌, ℕ, ◌+◌, ◌<◌, ◌≤◌, ◌⊎◌, Bool, true, IsTrue, List, refl, sym, ap, subst, ◌∙◌, inl, inr, ⊎_elim, arith}
use Rattle.std.specs.Prelude.{◌==◌}
use Rattle.std.proofs.lemmas.Bool.{cases_lt, eq-eqb, eqb-true, le-leb, or_left, or_right}
use Rattle.prefix.specs.Scopes.{Scope}
use Rattle.prefix.specs.declared.quant.Quant.{Quant}
use Rattle.prefix.specs.declared.quant.Quant.TheVariants.{Exists, Forall}
use Rattle.derive.specs.State.{Note, Notes, State, arena_of, has_rows, next_id, note_at, note_in, side_at, side_in, tag_in, why_in}
use Rattle.calculus.specs.Derivations.{RestsOn, Why}
use Rattle.calculus.specs.Derivations.Why.{Given, ReducedFrom, ResolvedFrom, FinishedFrom}
use Rattle.calculus.specs.Rows.{Row}
use Rattle.derive.specs.Cubes.{misses, misses_one}
use Rattle.derive.specs.Dropping.{Falls, NoneOutsideBelow, StepTest, has_tag, is_outside, mentions, names}
use Rattle.derive.specs.Dropping.Falls.{rests, root}
use Rattle.derive.proofs.Leaving.{names_same}
use Rattle.derive.proofs.Missed.{misses_one_same, misses_same}
use Rattle.derive.proofs.Additions.{live_below}
use Rattle.search.specs.Leaving.{Goes, Reaches, may_fall, may_fall_by, may_fall_over}
use Rattle.search.specs.declared.leaving.Leaving.{Leaving}
use Rattle.search.specs.declared.leaving.Leaving.TheVariants.{Frame, Cubes, Outside}
use Rattle.search.specs.Moves.{SameSteps}
use Rattle.search.specs.State.{IsIntact, IsTallied, SearchState, rows_of}
use Rattle.search.specs.Watching.{IsFree, NoneFalls, Parts, Sheds}
use Rattle.search.proofs.Joining.{same_or_not}
use Rattle.search.proofs.Marks.{live_same, note_same, same_mark, step_live, steps_then}

-- nothing is detached
pub sheds_none : (goes : ℕ → Type 0) (s : SearchState) → IsTrue (has_rows s.derivation) → IsTallied s → Sheds goes s s
sheds_none goes s rows tallied = record {
  intact = λ scopes intact. intact;
  tallied = tallied;
  steps = record { notes = refl; has_rows = rows; literals = λ id. refl; clauses = refl };
  trail = refl;
  watched = refl;
  fewer = omega arith;
  was = λ side id a. a;
  joined = λ joined. joined;
  stays = λ joined side id a. inl a;
}

-- told of more rows
pub sheds_as : (goes goes_too : ℕ → Type 0) (old new : SearchState) → Sheds goes old new
    → ((id : ℕ) → goes id → goes_too id) → Sheds goes_too old new
sheds_as goes goes_too old new sheds same = record {
  intact = sheds.intact;
  tallied = sheds.tallied;
  steps = sheds.steps;
  trail = sheds.trail;
  watched = sheds.watched;
  fewer = sheds.fewer;
  was = sheds.was;
  joined = sheds.joined;
  stays = λ joined side id at. ⊎_elim inl (λ gone. inr (same id gone)) (sheds.stays joined side id at);
}

-- one row after the other
pub sheds_then : (goes goes_too : ℕ → Type 0) (a b c : SearchState) → Sheds goes a b → Sheds goes_too b c
    → ((id : ℕ) → goes_too id → goes id) → Sheds goes a c
sheds_then goes goes_too a b c one two same = record {
  intact = λ scopes intact. two.intact scopes (one.intact scopes intact);
  tallied = two.tallied;
  steps = steps_then a.derivation b.derivation c.derivation one.steps two.steps;
  trail = two.trail ∙ one.trail;
  watched = two.watched ∙ one.watched;
  fewer = let x = one.fewer in let y = two.fewer in omega arith;
  was = λ side id at. one.was side id (two.was side id at);
  joined = λ joined. one.joined (two.joined joined);
  stays =
      λ joined side id at.
      ⊎_elim
      (λ still. ⊎_elim inl (λ gone. inr (same id gone)) (two.stays joined side id still))
      inr
      (one.stays (two.joined joined) side id at);
}

-- a row is detached, which goes where all are told to be attached still
pub sheds_parted : (goes : ℕ → Type 0) (old new : SearchState) (flag : Bool) (id : ℕ)
    → ((scopes : List Scope) → IsIntact scopes old → IsIntact scopes (record old { joined = flag }))
    → Parts (record old { joined = flag }) new id → IsTallied new → new.long ≤ old.long
    → (flag ≡ true → (old.joined ≡ true) × goes id) → Sheds goes old new
sheds_parted goes old new flag id flagged parts tallied fewer told = record {
  intact = λ scopes intact. parts.intact scopes (flagged scopes intact);
  tallied = tallied;
  steps = parts.steps;
  trail = parts.trail;
  watched = parts.watched;
  fewer = fewer;
  was = parts.stays;
  joined = λ joined. (told (sym parts.joined ∙ joined)).0;
  stays =
      λ joined side i at.
      ⊎_elim
      (λ e. inr (subst goes (sym e) (told (sym parts.joined ∙ joined)).1))
      (λ apart. inl (same_mark side (rows_of old) (rows_of new) i (parts.others i apart) ∙ at))
      (same_or_not i id);
}

-- so many ids from one on were gone over: of these, such as are reached are attached no more
pub record HasShed (goes reached : ℕ → Type 0) (start s : SearchState) (from to : ℕ) : Type 0 where
  pub sheds : Sheds goes start s
  pub gone : (id : ℕ) → from ≤ id → id < to → reached id → IsFree s id

pub shed_none : (goes reached : ℕ → Type 0) (s : SearchState) (from to : ℕ) → to ≤ from
    → IsTrue (has_rows s.derivation) → IsTallied s → HasShed goes reached s s from to
shed_none goes reached s from to low rows tallied = record {
  sheds = sheds_none goes s rows tallied;
  gone = λ id above below is. absurd (omega arith);
}

pub shed_more : (goes goes_too reached : ℕ → Type 0) (start s new : SearchState) (from to : ℕ)
    → HasShed goes reached start s from to → Sheds goes_too s new → (reached to → IsFree new to)
    → ((id : ℕ) → goes_too id → goes id) → HasShed goes reached start new from (to + 1)
shed_more goes goes_too reached start s new from to has sheds here same = record {
  sheds = sheds_then goes goes_too start s new has.sheds sheds same;
  gone =
      λ id above below is.
      ⊎_elim
      (λ (less : id < to). λ side a. has.gone id above less is side (sheds.was side id a))
      (λ (least : to ≤ id).
      let e : to ≡ id = omega arith in
      subst (λ i. IsFree new i) e (here (subst reached (sym e) is)))
      (cases_lt id to);
}

-- what is attached is live, and so its id was given
pub attached_below : (scopes : List Scope) (s : SearchState) → IsIntact scopes s → (id : ℕ) → next_id s.derivation ≤ id
    → IsFree s id
attached_below scopes s intact id past side a =
    let live = step_live (note_at s.derivation id) (intact.watched.sides side id a).step in
    let low : id < next_id s.derivation = live_below s.derivation.notes id live in
    absurd (omega arith)

-- in the end all that is reached from the first id on is attached no more
pub shed_all : (goes reached : ℕ → Type 0) (start s : SearchState) (from to : ℕ) → HasShed goes reached start s from to
    → (scopes : List Scope) × IsIntact scopes start → next_id s.derivation ≤ to → (id : ℕ) → from ≤ id → reached id
    → IsFree s id
shed_all goes reached start s from to has known all id above is =
    ⊎_elim
    (λ (less : id < to). has.gone id above less is)
    (λ (past : to ≤ id). attached_below known.0 s (has.sheds.intact known.0 known.1) id (omega arith))
    (cases_lt id to)

-- what is reached, and what goes, is the same with the same steps
pub reaches_same : (leaving : Leaving) (old new : State) → SameSteps old new → (id : ℕ) → Reaches leaving old id
    → Reaches leaving new id
reaches_same (Frame frame) old new same id is =
    subst (λ (notes : Notes). may_fall frame notes id ≡ true) (sym same.notes) is
reaches_same Cubes old new same id is = ap side_in (note_same old new same id) ∙ is
reaches_same (Outside side prefix) old new same id is = ap side_in (note_same old new same id) ∙ is

pub goes_before : (leaving : Leaving) (old new : State) → SameSteps old new → (id : ℕ) → Goes leaving new id
    → Goes leaving old id
goes_before (Frame frame) old new same id is = ap tag_in (sym (note_same old new same id)) ∙ is
goes_before Cubes old new same id is = is
goes_before (Outside side prefix) old new same id is =
    subst (λ (row : Row). mentions (is_outside prefix.now) row ≡ true) (same.literals id) is

-- what falls with a frame may

-- an input falls only where the frame is its tag
given_falls : (frame : ℕ) (notes : Notes) (id : ℕ) → why_in (note_in notes id) ≡ Given
    → Falls (has_tag frame) notes id → tag_in (note_in notes id) ≡ frame
given_falls frame notes id given (root i note there test) = ap tag_in there ∙ eqb-true note.tag frame test
given_falls frame notes id given (rests i on note there r falls) =
    absurd (subst (λ w. RestsOn w on) (sym (ap why_in there) ∙ given) r)

-- a reduction falls so, or with the step that it rests on
reduced_falls : (frame : ℕ) (notes : Notes) (id a : ℕ) → why_in (note_in notes id) ≡ ReducedFrom a
    → Falls (has_tag frame) notes id → (tag_in (note_in notes id) ≡ frame) ⊎ Falls (has_tag frame) notes a
reduced_falls frame notes id a why (root i note there test) = inl (ap tag_in there ∙ eqb-true note.tag frame test)
reduced_falls frame notes id a why (rests i on note there r falls) =
    let same : a ≡ on = subst (λ w. RestsOn w on) (sym (ap why_in there) ∙ why) r in
    inr (subst (Falls (has_tag frame) notes) (sym same) falls)

module _ (frame : ℕ) (notes : Notes)
    (high : (id : ℕ) → Falls (has_tag frame) notes id → frame ≤ tag_in (note_in notes id)) where
  over : (id a : ℕ) → why_in (note_in notes id) ≡ ReducedFrom a → Falls (has_tag frame) notes id → (w : Why)
      → why_in (note_in notes a) ≡ w
      → may_fall_over frame (tag_in (note_in notes id)) (tag_in (note_in notes a)) w ≡ true
  over id a why falls Given under =
      let tag = tag_in (note_in notes id) in
      let tag_under = tag_in (note_in notes a) in
      ⊎_elim (λ e. or_left (tag == frame) (tag_under == frame) (eq-eqb tag frame e))
      (λ f. or_right (tag == frame) (tag_under == frame) (eq-eqb tag_under frame (given_falls frame notes a under f)))
      (reduced_falls frame notes id a why falls)
  over id a why falls (ReducedFrom b) under = le-leb frame (tag_in (note_in notes id)) (high id falls)
  over id a why falls (ResolvedFrom b c x) under = le-leb frame (tag_in (note_in notes id)) (high id falls)
  over id a why falls (FinishedFrom b) under = le-leb frame (tag_in (note_in notes id)) (high id falls)

  by_why : (id : ℕ) → Falls (has_tag frame) notes id → (w : Why) → why_in (note_in notes id) ≡ w
      → may_fall_by frame notes (tag_in (note_in notes id)) w ≡ true
  by_why id falls Given why = eq-eqb (tag_in (note_in notes id)) frame (given_falls frame notes id why falls)
  by_why id falls (ReducedFrom a) why = over id a why falls (why_in (note_in notes a)) refl
  by_why id falls (ResolvedFrom a b x) why = le-leb frame (tag_in (note_in notes id)) (high id falls)
  by_why id falls (FinishedFrom a) why = le-leb frame (tag_in (note_in notes id)) (high id falls)

  pub falls_reached : (id : ℕ) → Falls (has_tag frame) notes id → may_fall frame notes id ≡ true
  falls_reached id falls = by_why id falls (why_in (note_in notes id)) refl

-- by tests that agree the same fall
pub falls_alike : (p q : StepTest) (a b : Notes) → b ≡ a → ((id : ℕ) (note : Note) → p id note ≡ q id note) → (id : ℕ)
    → Falls p a id → Falls q b id
falls_alike p q a b same tests id (root i note there test) =
    root id note (ap (λ (notes : Notes). note_in notes id) same ∙ there) (sym (tests id note) ∙ test)
falls_alike p q a b same tests id (rests i on note there r falls) =
    rests id on note (ap (λ (notes : Notes). note_in notes id) same ∙ there) r
    (falls_alike p q a b same tests on falls)

module _ (old new : State) (same : SameSteps old new) where
  pub misses_alike : (clause : Row) (id : ℕ) (note : Note)
      → misses clause (arena_of new) id note ≡ misses clause (arena_of old) id note
  misses_alike clause id note = misses_same clause (arena_of old) (arena_of new) id note (same.literals id)

  pub names_alike : (test : ℕ → Bool) (id : ℕ) (note : Note)
      → names test (arena_of new) id note ≡ names test (arena_of old) id note
  names_alike test id note = names_same test (arena_of old) (arena_of new) id note (same.literals id)

  -- the same fall with a clause that cubes miss, with a frame, and with variables
  pub falls_before : (clause : Row) (id : ℕ) → Falls (misses clause (arena_of new)) new.notes id
      → Falls (misses clause (arena_of old)) old.notes id
  falls_before clause id falls = falls_alike (misses clause (arena_of new)) (misses clause (arena_of old)) new.notes
      old.notes (sym same.notes) (misses_alike clause) id falls

  misses_one_alike : (clauses : List Row) (id : ℕ) (note : Note) → misses_one clauses (arena_of new) id note
      ≡ misses_one clauses (arena_of old) id note
  misses_one_alike clauses id note = misses_one_same clauses (arena_of old) (arena_of new) id note (same.literals id)

  pub all_fall_before : (clauses : List Row) (id : ℕ) → Falls (misses_one clauses (arena_of new)) new.notes id
      → Falls (misses_one clauses (arena_of old)) old.notes id
  all_fall_before clauses id falls = falls_alike (misses_one clauses (arena_of new)) (misses_one clauses (arena_of old))
      new.notes old.notes (sym same.notes) (misses_one_alike clauses) id falls

  pub frame_falls_before : (frame : ℕ) (id : ℕ) → Falls (has_tag frame) new.notes id
      → Falls (has_tag frame) old.notes id
  frame_falls_before frame id falls = falls_alike (has_tag frame) (has_tag frame) new.notes old.notes
      (sym same.notes) (λ i note. refl) id falls

  pub names_fall_before : (test : ℕ → Bool) (id : ℕ) → Falls (names test (arena_of new)) new.notes id
      → Falls (names test (arena_of old)) old.notes id
  names_fall_before test id falls = falls_alike (names test (arena_of new)) (names test (arena_of old)) new.notes
      old.notes (sym same.notes) (names_alike test) id falls

  pub none_below_same : (scopes : List Scope) (from : ℕ) → NoneOutsideBelow scopes from old
      → NoneOutsideBelow scopes from new
  none_below_same scopes from below id low live =
      ap (mentions (is_outside scopes)) (same.literals id)
      ∙ below id low (sym (live_same old new same id) ∙ live)

-- no row is attached that falls, where all that fall from an id on are reached
pub none_reached : (is_root : StepTest) (reached : ℕ → Type 0) (s : SearchState) (from : ℕ)
    → ((id : ℕ) → from ≤ id → reached id → IsFree s id)
    → ((id : ℕ) → Falls is_root s.derivation.notes id → (from ≤ id) × reached id) → NoneFalls is_root s
none_reached is_root reached s from free falls side id a fell =
    let f = falls id fell in
    free id f.0 f.1 side a

-- the rows of both sides were gone over
by_each : (P : Quant → Type 0) → P Exists → P Forall → (side : Quant) → P side
by_each P one two Exists = one
by_each P one two Forall = two

module _ (scopes : List Scope) (start s new : SearchState) (goes goes_too : ℕ → Type 0) (first second : ℕ)
    (is_root root_later last : StepTest) (intact : IsIntact scopes start) (one : Sheds goes start s)
    (two : Sheds goes_too s new)
    (clauses : (id : ℕ) → Falls is_root start.derivation.notes id → side_at start.derivation id ≡ Exists → first ≤ id)
    (cubes : (id : ℕ) → Falls root_later s.derivation.notes id → side_at s.derivation id ≡ Forall → second ≤ id)
    (free : (id : ℕ) → first ≤ id → side_at start.derivation id ≡ Exists → IsFree s id)
    (free_later : (id : ℕ) → second ≤ id → side_at s.derivation id ≡ Forall → IsFree new id)
    (before : (id : ℕ) → Falls last new.derivation.notes id → Falls root_later s.derivation.notes id)
    (at_start : (id : ℕ) → Falls root_later s.derivation.notes id → Falls is_root start.derivation.notes id) where
  pub none_of_both : NoneFalls last new
  none_of_both side id a fell =
      let later = before id fell in
      let was = two.was side id a in
      let here = one.was side id was in
      let side_start : side_at start.derivation id ≡ side = (intact.watched.sides side id here).of_side in
      let side_later : side_at s.derivation id ≡ side =
      ((one.intact scopes intact).watched.sides side id was).of_side in
      by_each
      (λ q. side ≡ q → ⊥)
      (λ e. free id (clauses id (at_start id later) (side_start ∙ e)) (side_start ∙ e) side was)
      (λ e. free_later id (cubes id later (side_later ∙ e)) (side_later ∙ e) side a)
      side refl
