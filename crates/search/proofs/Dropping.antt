-- Searches at rest in which steps are dropped.
use Rattle.std.proofs.Common.{◌≡◌, ℕ, ◌<◌, ◌⊎◌, Bool, true, false, not, List, filter, Option, Some, None, Contains, IsTrue, is_some, nat_eq, get_or, refl, sym, ap, subst, ◌∙◌, inl, inr, ⊎_elim, arith}
use Rattle.std.proofs.lemmas.Bool.{cases_Bool, cond-false, eq-eqb, false≢true}
use Rattle.calculus.proofs.Lists.{any_at, any_from, filter_at}
use Rattle.calculus.proofs.Opposites.{reduce_part}
use Rattle.calculus.specs.Rows.{Row}
use Rattle.prefix.specs.Literal.{Literal}
use Rattle.prefix.specs.declared.quant.Quant.{Quant}
use Rattle.prefix.specs.declared.quant.Quant.TheVariants.{Exists, Forall}
use Rattle.prefix.specs.Scopes.{Scope}
use Rattle.rows.specs.Arena.{StoredRow, link_at, links_of, literals_of, row_at as stored_at}
use Rattle.calculus.specs.Derivations.{RestsOn, Why}
use Rattle.calculus.specs.Derivations.Why.{Given, ReducedFrom, ResolvedFrom, FinishedFrom}
use Rattle.derive.specs.State.{IsLegalFor, Note, OpenClause, State, arena_of, clauses_of, is_finish, is_live, is_step, may_be_antecedent, note_at, note_in, row_of, side_at, side_in, tag_at, tag_in, why_at, why_in}
use Rattle.derive.specs.Adding.{IsReductionOf}
use Rattle.derive.specs.Dropping.{Drops, Falls, StepTest, has_tag, mentions, names, unless_finish}
use Rattle.derive.specs.Dropping.Falls.{rests, root}
use Rattle.derive.specs.Theorems.{ClausesAreListed}
use Rattle.derive.specs.Sweeping.{is_input_clause}
use Rattle.watch.specs.Links.{is_at, is_attached, mark_of}
use Rattle.watch.specs.State.{Holds, WatchState}
use Rattle.watch.specs.Laws.{AgreeingLaws, HoldingLaws}
use Rattle.clean.specs.Reasons.{IsReducedStep}
use Rattle.search.specs.State.{AreAttached, AreMarked, AreWatched, IsAtRest, IsAttached, IsIntact, IsResting, IsTallied, SearchState, rows_of, watch_of}
use Rattle.search.specs.Watching.{NoneFalls, Sheds}
use Rattle.search.specs.Long.{is_input, is_kept_long, long_in}
use Rattle.search.specs.Forcing.{HasNoCubes}
use Rattle.search.proofs.Tallying.{kept_detached, kept_same, kept_unlinked, same_count}
use Rattle.search.proofs.Marks.{live_same, marked_as_was, not_attached, reduced_by, reduction_by, same_mark, step_live}

-- with another derivation, and another list of rows to watch
abbrev pub rederived : SearchState → State → List ℕ → SearchState
rederived s d ids = record s { derivation = d; watched = ids }

same_watch : (s : SearchState) (d : State) (ids : List ℕ) (side : Quant)
    → watch_of side (rederived s d ids) ≡ watch_of side s
same_watch s d ids Exists = refl
same_watch s d ids Forall = refl

-- the rows that are attached are as they were
pub intact_rederived : HoldingLaws → AgreeingLaws
    → (scopes : List Scope) (s : SearchState) (d : State) (ids : List ℕ) → IsIntact scopes s
    → IsTrue (is_some d.rows) → IsLegalFor scopes d → AreWatched scopes (rederived s d ids)
    → ((side : Quant) (id : ℕ) → IsAttached s side id → stored_at (arena_of d) id ≡ stored_at (rows_of s) id)
    → ((side : Quant) (id : ℕ) → IsAttached (rederived s d ids) side id → IsAttached s side id)
    → IsIntact scopes (rederived s d ids)
intact_rederived holding agreeing scopes s d ids intact rows legal watched same was = record {
  trail = intact.trail;
  has_rows = rows;
  legal = legal;
  watched = watched;
  watching = record {
    holds =
        λ side.
        subst (λ (w : WatchState). Holds side scopes w (arena_of d)) (sym (same_watch s d ids side))
        (holding.agrees side scopes (watch_of side s) (rows_of s) (arena_of d)
        (agreeing.same_rows side (rows_of s) (arena_of d) (same side) (was side)) (intact.watching.holds side));
    front = λ side. rw (same_watch s d ids side) (intact.watching.front side);
    room = λ side. rw (same_watch s d ids side) (intact.watching.room side);
  };
  room = record { trail = intact.room.trail; signs = intact.room.signs };
}

pub resting_rederived : HoldingLaws → AgreeingLaws
    → (scopes : List Scope) (s : SearchState) (d : State) (ids : List ℕ) → IsAtRest s.trail → IsIntact scopes s
    → IsTallied s → IsTrue (is_some d.rows) → IsLegalFor scopes d → AreWatched scopes (rederived s d ids)
    → ((side : Quant) (id : ℕ) → IsAttached s side id → stored_at (arena_of d) id ≡ stored_at (rows_of s) id)
    → ((side : Quant) (id : ℕ) → IsAttached (rederived s d ids) side id → IsAttached s side id)
    → (s.joined ≡ true → AreAttached (rederived s d ids)) → long_in d ≡ long_in s.derivation
    → IsResting scopes (rederived s d ids)
resting_rederived holding agreeing scopes s d ids rest intact tallied rows legal watched same was attached count =
    record {
      rest = rest;
      intact = intact_rederived holding agreeing scopes s d ids intact rows legal watched same was;
      attached = attached;
      tallied = tallied ∙ sym count;
    }

pub note_of : (o : Option Note) → is_some o ≡ true → (note : Note) × (o ≡ Some note)
note_of None h = absurd (false≢true h)
note_of (Some note) h = (note, refl)

module _ (scopes : List Scope) (s : SearchState) (d : State) (is_root : StepTest)
    (drops : Drops is_root s.derivation d) where
  pub stays_live : (id : ℕ) → IsTrue (is_live d id) → IsTrue (is_live s.derivation id)
  stays_live id live = ap is_some (sym (drops.others id live).note) ∙ live

  mark_left : (id : ℕ) → (link_at (arena_of d) id 6 ≡ link_at (rows_of s) id 6 × IsTrue (is_live d id)) ⊎
      (link_at (arena_of d) id 6 ≡ None)
  mark_left id =
      ⊎_elim
      (λ live. inl (ap (λ (o : Option StoredRow). get_or (links_of o) 6 None) (drops.others id live).row, live))
      (λ dead. inr (ap (λ (o : Option StoredRow). get_or (links_of o) 6 None)
      (drops.exactly.rows id ∙ cond-false (is_some (note_in d.notes id)) (stored_at (rows_of s) id) None dead)))
      (cases_Bool (is_live d id))

  pub attached_was : (side : Quant) (id : ℕ) → IsAttached (rederived s d s.watched) side id
      → IsAttached s side id × IsTrue (is_live d id)
  attached_was side id a =
      ⊎_elim
      (λ kept. (sym (same_mark side (rows_of s) (arena_of d) id kept.0) ∙ a, kept.1))
      (λ none. absurd (false≢true (sym (not_attached side (arena_of d) id none) ∙ a)))
      (mark_left id)

  kept_gone : (id : ℕ) → is_attached (side_at s.derivation id) (rows_of s) id ≡ false → is_kept_long d id ≡ false
  kept_gone id free =
      ⊎_elim
      (λ kept. kept_detached d id (ap (λ o. is_attached (side_in o) (arena_of d) id) (drops.others id kept.1).note
      ∙ (same_mark (side_at s.derivation id) (rows_of s) (arena_of d) id kept.0 ∙ free)))
      (λ none. kept_unlinked d id none)
      (mark_left id)

  marks_left : AreMarked (rows_of s) → AreMarked (arena_of d)
  marks_left marked id =
      ⊎_elim (λ kept. marked_as_was (rows_of s) (arena_of d) id kept.0 (marked id)) inl (mark_left id)

  literals_left : (id : ℕ) → IsTrue (is_live d id) → row_of d id ≡ row_of s.derivation id
  literals_left id live = ap literals_of (drops.others id live).row

  reduced_left : (side : Quant) (id : ℕ) → IsTrue (is_live d id) → IsReducedStep side scopes s.derivation id
      → IsReducedStep side scopes d id
  reduced_left side id live is =
      reduced_by side scopes s.derivation d id (drops.others id live).note (literals_left id live) is

  -- where no attached row goes
  module _ (stay : (side : Quant) (id : ℕ) → IsAttached s side id → IsTrue (is_live d id)) where
    pub attached_on : (side : Quant) (id : ℕ) → IsAttached s side id → IsAttached (rederived s d s.watched) side id
    attached_on side id a =
        ap (λ (o : Option StoredRow). is_at (get_or (links_of o) 6 None) (mark_of side))
        (drops.others id (stay side id a)).row ∙ a

    pub attached_still : AreAttached s → AreAttached (rederived s d s.watched)
    attached_still h id at live = let a = h id at (stays_live id live) in (a.0, attached_on a.0 id a.1)

    -- nor an input clause that a reduction rests on
    pub tally_left : ((id a : ℕ) → IsAttached s (side_at s.derivation id) id → why_at s.derivation id ≡ ReducedFrom a
        → is_input (note_at d a) ≡ is_input (note_at s.derivation a)) → long_in d ≡ long_in s.derivation
    tally_left inputs =
        same_count s.derivation d (let e = drops.exactly.same_next in omega arith)
        (λ id.
        ⊎_elim
        (λ attached.
        let same = drops.others id (stay (side_at s.derivation id) id attached) in
        kept_same s.derivation d id same.note (ap literals_of same.row)
        (λ a why. inputs id a attached why)
        (ap (λ (o : Option StoredRow). get_or (links_of o) 6 None) same.row))
        (λ free. kept_gone id free ∙ sym (kept_detached s.derivation id free))
        (cases_Bool (is_attached (side_at s.derivation id) (rows_of s) id)))

  -- the reductions of the clauses that are left
  module _ (clauses : (c : OpenClause) → Contains (clauses_of d) c
      → Contains (clauses_of s.derivation) c ×
      ((id : ℕ) → Contains s.watched id → IsReductionOf scopes s.derivation c id → IsTrue (is_live d id))) where
    pub watched_left : AreWatched scopes s → AreWatched scopes (rederived s d s.watched)
    watched_left h = record {
      marked = marks_left h.marked;
      sides = λ side id a. let was = attached_was side id a in reduced_left side id was.1 (h.sides side id was.0);
      listed = λ side id a. h.listed side id (attached_was side id a).0;
      given = λ id at. subst (λ n. id < n) (sym drops.exactly.same_next) (h.given id at);
      steps =
          λ id at live.
          subst (λ p. IsReducedStep p scopes d id) (sym (ap side_in (drops.others id live).note))
          (reduced_left (side_at s.derivation id) id live (h.steps id at (stays_live id live)));
      clauses =
          λ c at.
          let was = clauses c at in
          let r = h.clauses c was.0 in
          let live = was.1 r.0 r.1 r.2 in (
            r.0,
            r.1,
            reduction_by scopes s.derivation d c r.0 (drops.others r.0 live).note
                (literals_left r.0 live) r.2,
          );
    }

    -- where no attached row goes, and each that is left is attached
    module _ (holding : HoldingLaws) (agreeing : AgreeingLaws) (rest : IsAtRest s.trail) (intact : IsIntact scopes s)
        (tallied : IsTallied s) (legal : IsLegalFor scopes d)
        (stay : (side : Quant) (id : ℕ) → IsAttached s side id → IsTrue (is_live d id))
        (inputs : (id a : ℕ) → IsAttached s (side_at s.derivation id) id → why_at s.derivation id ≡ ReducedFrom a
        → is_input (note_at d a) ≡ is_input (note_at s.derivation a))
        (attached : s.joined ≡ true → (id : ℕ) → Contains s.watched id → IsTrue (is_live d id)
        → (side : Quant) × IsAttached s side id) where
      pub resting_left : IsResting scopes (rederived s d s.watched)
      resting_left =
          resting_rederived holding agreeing scopes s d s.watched rest intact tallied drops.has_rows legal
          (watched_left intact.watched)
          (λ side id a. (drops.others id (stay side id a)).row)
          (λ side id a. (attached_was side id a).0)
          (λ joined id at live. let a = attached joined id at live in (a.0, attached_on stay a.0 id a.1))
          (tally_left stay inputs)

  pub no_cubes_left : HasNoCubes s → HasNoCubes (rederived s d s.watched)
  no_cubes_left none id at live = ap side_in (drops.others id live).note ∙ none id at (stays_live id live)

-- where such rows were detached before as go
module _ (scopes : List Scope) (start s : SearchState) (d : State) (is_root : StepTest)
    (drops : Drops is_root s.derivation d) (goes : ℕ → Type 0) (sheds : Sheds goes start s)
    (known : IsIntact scopes start) (none : NoneFalls is_root s) where
  intact : IsIntact scopes s
  intact = sheds.intact scopes known

  pub shed_stay : (side : Quant) (id : ℕ) → IsAttached s side id → IsTrue (is_live d id)
  shed_stay side id a =
      ⊎_elim
      (λ gone. absurd (none side id a gone.0))
      (λ kept. ap is_some kept.1 ∙ step_live (note_at s.derivation id) (intact.watched.sides side id a).step)
      (drops.exactly.steps id)

  pub shed_inputs : (id a : ℕ) → IsAttached s (side_at s.derivation id) id → why_at s.derivation id ≡ ReducedFrom a
      → is_input (note_at d a) ≡ is_input (note_at s.derivation a)
  shed_inputs id a at why =
      let side = side_at s.derivation id in
      let n = note_of (note_at s.derivation id)
      (step_live (note_at s.derivation id) (intact.watched.sides side id at).step) in
      let is : n.0.why ≡ ReducedFrom a = sym (ap why_in n.1) ∙ why in
      let on : RestsOn n.0.why a = subst (λ w. RestsOn w a) (sym is) refl in
      ⊎_elim
      (λ gone. absurd (none side id at (rests id a n.0 n.1 on gone.0)))
      (λ kept. ap is_input kept.1)
      (drops.exactly.steps a)

  pub shed_attached : IsResting scopes start
      → ((id : ℕ) → goes id → IsTrue (is_live s.derivation id) → Falls is_root s.derivation.notes id)
      → s.joined ≡ true → (id : ℕ) → Contains s.watched id → IsTrue (is_live d id)
      → (side : Quant) × IsAttached s side id
  shed_attached resting falls joined id at live =
      let now = stays_live scopes s d is_root drops id live in
      let a = resting.attached (sheds.joined joined) id (subst (λ ids. Contains ids id) sheds.watched at)
      (sym (live_same start.derivation s.derivation sheds.steps id) ∙ now) in
      ⊎_elim
      (λ still. (a.0, still))
      (λ gone.
      ⊎_elim
      (λ fell. absurd (false≢true (sym (ap is_some fell.1) ∙ live)))
      (λ kept. absurd (kept.0 (falls id gone now)))
      (drops.exactly.steps id))
      (sheds.stays joined a.0 id a.1)

-- a frame goes

-- the live steps with its tag fall
pub frame_falls : (frame : ℕ) (d : State) (id : ℕ) → tag_at d id ≡ frame → IsTrue (is_live d id)
    → Falls (has_tag frame) d.notes id
frame_falls frame d id tag live =
    let n = note_of (note_at d id) live in
    let is : n.0.tag ≡ frame = sym (ap tag_in n.1) ∙ tag in
    root id n.0 n.1 (eq-eqb n.0.tag frame is)

-- the live steps fall that name such a variable
pub named_falls : (test : ℕ → Bool) (d : State) (id : ℕ) → mentions test (row_of d id) ≡ true → IsTrue (is_live d id)
    → Falls (names test (arena_of d)) d.notes id
named_falls test d id named live =
    let n = note_of (note_at d id) live in
    root id n.0 n.1 named

-- the reduction of a clause that stands doesn't fall where it is no root itself
falls_not : (is_root : StepTest) (d : State) (c : OpenClause) (id : ℕ)
    → note_at d c.id ≡ Some (record { side = Exists; why = Given; tag = c.frame })
    → (Falls is_root d.notes c.id → ⊥) → ((note : Note) → note_at d id ≡ Some note → is_root id note ≡ false)
    → (id ≡ c.id) ⊎ (why_at d id ≡ ReducedFrom c.id) → Falls is_root d.notes id → ⊥
falls_not is_root d c id input stands no_root rests_so (root i note there test) =
    false≢true (sym (no_root note there) ∙ test)
falls_not is_root d c id input stands no_root rests_so (rests i on note there why falls) =
    ⊎_elim
    (λ same.
    let is : note.why ≡ Given = ap why_in (sym there ∙ (ap (note_at d) same ∙ input)) in
    subst (λ w. RestsOn w on) is why)
    (λ reduced.
    let is : note.why ≡ ReducedFrom c.id = ap why_in (sym there) ∙ reduced in
    let e : c.id ≡ on = subst (λ w. RestsOn w on) is why in
    stands (subst (λ x. Falls is_root d.notes x) (sym e) falls))
    rests_so

pub not_false : (b : Bool) → not b ≡ true → b ≡ false
not_false true h = absurd (false≢true h)
not_false false h = refl

-- the clauses that are left were there, and their reductions stay where these are no roots
pub clauses_left : (scopes : List Scope) (old d : State) (is_root : StepTest) (keeps : OpenClause → Bool)
    → ClausesAreListed → Drops is_root old d → clauses_of d ≡ filter keeps (clauses_of old)
    → ((c : OpenClause) (id : ℕ) (note : Note) → keeps c ≡ true → IsReductionOf scopes old c id
    → note_at old id ≡ Some note → is_root id note ≡ false) → (c : OpenClause) → Contains (clauses_of d) c
    → Contains (clauses_of old) c × ((id : ℕ) → IsReductionOf scopes old c id → IsTrue (is_live d id))
clauses_left scopes old d is_root keeps listed drops clauses no_root c at =
    let f = filter_at keeps (clauses_of old) c (subst (λ cs. Contains cs c) clauses at) in
    let here = listed.note d c at in
    let stands : Falls is_root old.notes c.id → ⊥ =
    ⊎_elim (λ gone. absurd (let g : None ≡ Some (record { side = Exists; why = Given; tag = c.frame }) = sym gone.1
    ∙ here in cc)) (λ kept. kept.0) (drops.exactly.steps c.id) in (
      f.0,
      λ id r.
          ⊎_elim
          (λ gone. absurd (falls_not is_root old c id (listed.note old c f.0) stands
          (λ note there. no_root c id note f.1 r there) r.rests gone.0))
          (λ kept. ap is_some kept.1 ∙ step_live (note_at old id) r.step)
          (drops.exactly.steps id),
    )

-- the reduction of a clause of another frame isn't of the frame
pub no_frame_root : (scopes : List Scope) (old : State) (frame : ℕ) (c : OpenClause) (id : ℕ) (note : Note)
    → not (nat_eq c.frame frame) ≡ true → IsReductionOf scopes old c id → note_at old id ≡ Some note
    → has_tag frame id note ≡ false
no_frame_root scopes old frame c id note other r there =
    let is : note.tag ≡ c.frame = ap tag_in (sym there) ∙ r.tag in
    ap (λ n. nat_eq n frame) is ∙ not_false (nat_eq c.frame frame) other

-- the reduction of a clause names no variable that the clause doesn't
pub no_named_root : (scopes : List Scope) (old : State) (test : ℕ → Bool) (c : OpenClause) (id : ℕ) (note : Note)
    → not (mentions test c.row) ≡ true → IsReductionOf scopes old c id → note_at old id ≡ Some note
    → names test (arena_of old) id note ≡ false
no_named_root scopes old test c id note unnamed r there =
    let none : mentions test c.row ≡ false = not_false (mentions test c.row) unnamed in
    ⊎_elim
    (λ some.
    let l = any_at (λ (k : Literal). test k.variable) (row_of old id) some in
    let part = reduce_part Exists scopes c.row l.0 (subst (λ (row : Row). Contains row l.0) r.literals l.1) in
    absurd (false≢true (sym none ∙ any_from (λ (k : Literal). test k.variable) c.row l.0 part l.2)))
    (λ is. is)
    (cases_Bool (mentions test (row_of old id)))

-- the finishes go

unfinished : (o : Option Note) → may_be_antecedent o ≡ true → is_some (unless_finish o) ≡ true
unfinished None h = absurd (false≢true h)
unfinished (Some note) h =
    ap is_some (cond-false (is_finish note.why) None (Some note) (not_false (is_finish note.why) h))

pub step_unfinished : (old d : State) → ((id : ℕ) → note_at d id ≡ unless_finish (note_at old id)) → (id : ℕ)
    → IsTrue (is_step old id) → IsTrue (is_live d id)
step_unfinished old d exactly id step = ap is_some (exactly id) ∙ unfinished (note_at old id) step

unfinished_note : (side : Quant) (why : Why) (tag : ℕ)
    → is_input (unless_finish (Some (record { side = side; why = why; tag = tag }))) ≡ is_input_clause side why
unfinished_note side Given tag = refl
unfinished_note side (ReducedFrom a) tag = refl
unfinished_note side (ResolvedFrom a b x) tag = refl
unfinished_note Exists (FinishedFrom a) tag = refl
unfinished_note Forall (FinishedFrom a) tag = refl

pub input_unfinished : (o : Option Note) → is_input (unless_finish o) ≡ is_input o
input_unfinished None = refl
input_unfinished (Some note) = unfinished_note note.side note.why note.tag
