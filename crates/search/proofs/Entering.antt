-- Searches at rest into which clauses come at once.
use Rattle.std.proofs.Common.{◌≡◌, ℕ, ◌+◌, ◌-◌, ◌<◌, ◌≤◌, ◌⊎◌, true, List, drop, Option, Some, None, Contains, IsTrue, is_some, length, get_or, refl, sym, ap, subst, ◌∙◌, inl, inr, ⊎_elim, arith}
use Rattle.std.proofs.lemmas.Bool.{cases_Bool, cases_lt, cond-false, false≢true}
use Rattle.std.proofs.lemmas.List.{drop_at, get_or-drop, length-drop}
use Rattle.std.proofs.lemmas.List.Elements.{Contains-append_cases, Contains-append_left, Contains-append_right, Contains-get_or}
use Rattle.calculus.proofs.RowLaws.{reduce_twice}
use Rattle.prefix.specs.declared.quant.Quant.{Quant}
use Rattle.prefix.specs.declared.quant.Quant.TheVariants.{Exists}
use Rattle.prefix.specs.Scopes.{Scope}
use Rattle.rows.specs.Arena.{StoredRow, link_at, links_of, literals_of, row_at as stored_at}
use Rattle.calculus.specs.Rows.{Row, reduce}
use Rattle.derive.specs.State.{IsLegalFor, Note, OpenClause, SameStep, State, arena_of, clauses_of, is_live, may_be_antecedent, next_id, note_at, note_in, side_at, side_in, why_in}
use Rattle.derive.specs.Cubes.{misses_one}
use Rattle.derive.specs.Dropping.{Falls}
use Rattle.derive.specs.Adding.{IsReductionOf}
use Rattle.derive.specs.Growing.{AreUnlinked, Grows}
use Rattle.derive.specs.Inputs.{InputsClauses}
use Rattle.derive.proofs.Additions.{live_below}
use Rattle.derive.proofs.Entering.{clause_noted, grown_all}
use Rattle.watch.specs.Laws.{AgreeingLaws, HoldingLaws}
use Rattle.watch.specs.Links.{is_attached}
use Rattle.clean.specs.Reasons.{IsReducedStep}
use Rattle.search.specs.Forcing.{HasNoCubes}
use Rattle.search.specs.Moves.{KeepsOlder, SameSteps}
use Rattle.search.specs.Long.{is_input, long_in}
use Rattle.search.specs.State.{AreWatched, IsAtRest, IsAttached, IsIntact, IsResting, IsTallied, SearchState, rows_of}
use Rattle.search.specs.Watching.{Joins, JoinsAll, NoneFalls, Sheds, TakesAll}
use Rattle.search.proofs.Aging.{older_dropped, older_grown, older_then}
use Rattle.search.proofs.Dropping.{intact_rederived, rederived}
use Rattle.search.proofs.Listing.{each_by_place}
use Rattle.search.proofs.Tallying.{antecedent_live, kept_detached, kept_same, kept_unlinked, same_count}
use Rattle.search.proofs.Marks.{live_same, marked_as_was, not_attached, same_mark, reduced_by, reduction_by, step_live, steps_then}

-- clauses came in
pub record Enters (scopes : List Scope) (frame : ℕ) (old new : State) (rows : List Row) (listed now : List ℕ)
    : Type 0 where
  pub inputs : InputsClauses scopes frame old new rows listed now
  pub kept : (id : ℕ) (note : Note) → note_at old id ≡ Some note → note.side ≡ Exists → SameStep old new id
  pub others : (id : ℕ) → IsTrue (is_live old id) → IsTrue (is_live new id) → SameStep old new id
  pub stays : (id : ℕ) → IsTrue (is_live old id) → (Falls (misses_one rows (arena_of old)) old.notes id → ⊥)
      → IsTrue (is_live new id)
  pub unlinked : AreUnlinked old new

-- so older steps stay
pub older_entered : (scopes : List Scope) (frame : ℕ) (old new : State) (rows : List Row) (listed now : List ℕ)
    → InputsClauses scopes frame old new rows listed now → KeepsOlder old new
older_entered scopes frame old new rows listed now inputs =
    older_then old inputs.added new
    (older_grown old inputs.added (grown_all scopes frame old inputs.added rows inputs.ids inputs.adds))
    (older_dropped (misses_one rows (arena_of inputs.added)) inputs.added new inputs.cubes)

module _ (scopes : List Scope) (frame : ℕ) (s : SearchState) (new : State) (rows : List Row) (ids : List ℕ)
    (is : Enters scopes frame s.derivation new rows s.watched ids) where
  abbrev fresh : List ℕ
  fresh = is.inputs.ids

  grown : Grows s.derivation is.inputs.added
  grown = grown_all scopes frame s.derivation is.inputs.added rows fresh is.inputs.adds

  no_fewer : next_id s.derivation ≤ next_id new
  no_fewer = let g = grown.longer in let e = is.inputs.cubes.exactly.same_next in omega arith

  -- what is live now and was given before was live
  was_live : (id : ℕ) → id < next_id s.derivation → IsTrue (is_live new id) → IsTrue (is_live s.derivation id)
  was_live id given live = sym (grown.given id given) ∙ (ap is_some (sym (is.inputs.cubes.others id live).note) ∙ live)

  fresh_live : (id : ℕ) → Contains fresh id → IsTrue (is_live new id)
  fresh_live id at = step_live (note_at new id) (is.inputs.gains.none_else id at).2.step

  fresh_side : (id : ℕ) → Contains fresh id → side_at new id ≡ Exists
  fresh_side id at = (is.inputs.gains.none_else id at).2.of_side

  fresh_reduced : (id : ℕ) → Contains fresh id → IsReducedStep (side_at new id) scopes new id
  fresh_reduced id at =
      let r = is.inputs.gains.none_else id at in
      subst (λ p. IsReducedStep p scopes new id) (sym r.2.of_side) (record {
        step = r.2.step;
        of_side = r.2.of_side;
        reduced = ap (reduce Exists scopes) r.2.literals
            ∙ (reduce_twice Exists scopes r.0.row ∙ sym r.2.literals);
      })

  -- with the reductions to watch
  was_or_is : (id : ℕ) → Contains ids id → Contains s.watched id ⊎ Contains fresh id
  was_or_is id at = Contains-append_cases s.watched fresh id (subst (λ ws. Contains ws id) is.inputs.lists at)

  still_listed : (id : ℕ) → Contains s.watched id → Contains ids id
  still_listed id at = subst (λ ws. Contains ws id) (sym is.inputs.lists) (Contains-append_left s.watched fresh id at)

  fresh_listed : (id : ℕ) → Contains fresh id → Contains ids id
  fresh_listed id at = subst (λ ws. Contains ws id) (sym is.inputs.lists) (Contains-append_right s.watched fresh id at)

  module _ (h : AreWatched scopes s) where
    -- a row to watch that is live is a reduction that came in, or stayed
    stayed : (id : ℕ) → Contains ids id → IsTrue (is_live new id)
        → Contains fresh id ⊎ (Contains s.watched id × SameStep s.derivation new id × IsTrue (is_live s.derivation id))
    stayed id at live =
        ⊎_elim
        (λ was. let before = was_live id (h.given id was) live in inr (was, is.others id before live, before))
        inl
        (was_or_is id at)

    now_given : (id : ℕ) → Contains ids id → id < next_id new
    now_given id at =
        ⊎_elim
        (λ was. let g = h.given id was in let n = no_fewer in omega arith)
        (λ came. live_below new.notes id (fresh_live id came))
        (was_or_is id at)

    now_steps : (id : ℕ) → Contains ids id → IsTrue (is_live new id) → IsReducedStep (side_at new id) scopes new id
    now_steps id at live =
        ⊎_elim
        (λ came. fresh_reduced id came)
        (λ was.
        subst (λ p. IsReducedStep p scopes new id) (sym (ap side_in was.1.note))
        (reduced_by (side_at s.derivation id) scopes s.derivation new id was.1.note (ap literals_of was.1.row)
        (h.steps id was.0 was.2)))
        (stayed id at live)

    still_reduction : (c : OpenClause) (id : ℕ) → IsReductionOf scopes s.derivation c id → IsReductionOf scopes new c id
    still_reduction c id r =
        let n = clause_noted (note_at s.derivation id) r.step r.of_side in
        let same = is.kept id n.0 n.1 n.2 in
        reduction_by scopes s.derivation new c id same.note (ap literals_of same.row) r

    now_clauses : (c : OpenClause) → Contains (clauses_of new) c
        → (id : ℕ) × Contains ids id × IsReductionOf scopes new c id
    now_clauses c at =
        ⊎_elim
        (λ was. let r = h.clauses c was in (r.0, still_listed r.0 r.1, still_reduction c r.0 r.2))
        (λ came. let r = is.inputs.gains.reductions c came in (r.0, fresh_listed r.0 r.1, r.2))
        (Contains-append_cases (clauses_of s.derivation) is.inputs.gains.added c
        (subst (λ cs. Contains cs c) is.inputs.gains.clauses at))

    -- where no attached row falls, each is as it was
    module _ (intact : IsIntact scopes s) (none : NoneFalls (misses_one rows (rows_of s)) s) where
      was_step : (side : Quant) (id : ℕ) → IsAttached s side id → IsTrue (is_live s.derivation id)
      was_step side id a = step_live (note_at s.derivation id) (intact.watched.sides side id a).step

      attached_live : (side : Quant) (id : ℕ) → IsAttached s side id → IsTrue (is_live new id)
      attached_live side id a = is.stays id (was_step side id a) (none side id a)

      attached_same : (side : Quant) (id : ℕ) → IsAttached s side id → SameStep s.derivation new id
      attached_same side id a = is.others id (was_step side id a) (attached_live side id a)

      abbrev mark_of_row : (o : Option StoredRow) → Option ℕ
      mark_of_row o = get_or (links_of o) 6 None

      marks_left : (id : ℕ) → (link_at (arena_of new) id 6 ≡ link_at (rows_of s) id 6 × IsTrue (is_live s.derivation id)
          × IsTrue (is_live new id)) ⊎ (link_at (arena_of new) id 6 ≡ None)
      marks_left id =
          ⊎_elim
          (λ was.
          ⊎_elim
          (λ live. inl (ap mark_of_row (is.others id was live).row, was, live))
          (λ dead. inr (ap mark_of_row (is.inputs.cubes.exactly.rows id
          ∙ cond-false (is_some (note_in new.notes id)) (stored_at (arena_of is.inputs.added) id) None dead)))
          (cases_Bool (is_live new id)))
          (λ unborn. inr (is.unlinked id 6 unborn))
          (cases_Bool (is_live s.derivation id))

      attached_was : (side : Quant) (id : ℕ) → IsAttached (rederived s new ids) side id → IsAttached s side id
      attached_was side id a =
          ⊎_elim
          (λ kept. sym (same_mark side (rows_of s) (arena_of new) id kept.0) ∙ a)
          (λ free. absurd (false≢true (sym (not_attached side (arena_of new) id free) ∙ a)))
          (marks_left id)

      attached_on : (side : Quant) (id : ℕ) → IsAttached s side id → IsAttached (rederived s new ids) side id
      attached_on side id a =
          same_mark side (rows_of s) (arena_of new) id (ap mark_of_row (attached_same side id a).row) ∙ a

      watched_input : AreWatched scopes (rederived s new ids)
      watched_input = record {
        marked = λ id. ⊎_elim (λ kept. marked_as_was (rows_of s) (arena_of new) id kept.0 (h.marked id)) inl
            (marks_left id);
        sides =
            λ side id a.
            let was = attached_was side id a in
            let same = attached_same side id was in
            reduced_by side scopes s.derivation new id same.note (ap literals_of same.row) (h.sides side id was);
        listed = λ side id a. still_listed id (h.listed side id (attached_was side id a));
        given = now_given;
        steps = now_steps;
        clauses = now_clauses;
      }

      tally_input : IsLegalFor scopes new → long_in new ≡ long_in s.derivation
      tally_input legal =
          same_count s.derivation new no_fewer
          (λ id.
          ⊎_elim
          (λ at.
          let side = side_at s.derivation id in
          let same = attached_same side id at in
          let step = (h.sides side id at).step in
          kept_same s.derivation new id same.note (ap literals_of same.row)
          (λ a why. ap is_input (is.others a (antecedent_live scopes s.derivation id a intact.legal step why)
          (antecedent_live scopes new id a legal (ap may_be_antecedent same.note ∙ step)
          (ap why_in same.note ∙ why))).note)
          (ap mark_of_row same.row))
          (λ free.
          ⊎_elim
          (λ kept. kept_detached new id (ap (λ o. is_attached (side_in o) (arena_of new) id)
          (is.others id kept.1 kept.2).note
          ∙ (same_mark (side_at s.derivation id) (rows_of s) (arena_of new) id kept.0 ∙ free)))
          (λ gone. kept_unlinked new id gone)
          (marks_left id)
          ∙ sym (kept_detached s.derivation id free))
          (cases_Bool (is_attached (side_at s.derivation id) (rows_of s) id)))

      takes : HoldingLaws → AgreeingLaws → IsTallied s → IsTrue (is_some new.rows) → IsLegalFor scopes new
          → TakesAll scopes s (rederived s new ids) fresh
      takes holding agreeing tallied has legal = record {
        intact = intact_rederived holding agreeing scopes s new ids intact has legal watched_input
            (λ side id a. (attached_same side id a).row) attached_was;
        tallied = tallied ∙ sym (tally_input legal);
        live = fresh_live;
        trail = refl;
        joined = refl;
        watched = is.inputs.lists;
        stays = attached_on;
        was_live = λ id at live. was_live id (h.given id at) live;
      }

      pub takes_entered : HoldingLaws → AgreeingLaws → IsTallied s → IsTrue (is_some new.rows) → IsLegalFor scopes new
          → (place : ℕ) → place ≡ length s.watched → TakesAll scopes s (rederived s new ids) (drop place ids)
      takes_entered holding agreeing tallied has legal place at =
          let rest : drop place ids ≡ fresh = ap (drop place) is.inputs.lists
          ∙ drop_at s.watched fresh place (sym at) in
          subst (TakesAll scopes s (rederived s new ids)) (sym rest) (takes holding agreeing tallied has legal)

    pub no_cubes_entered : HasNoCubes s → HasNoCubes (rederived s new ids)
    no_cubes_entered none id at live =
        ⊎_elim
        (λ came. fresh_side id came)
        (λ was. ap side_in was.1.note ∙ none id was.0 was.2)
        (stayed id at live)

-- the rows to watch from a place on the list on to another are attached, and nothing else changed
pub record HasJoinedTo (scopes : List Scope) (start s : SearchState) (from to : ℕ) : Type 0 where
  pub intact : IsIntact scopes s
  pub tallied : IsTallied s
  pub steps : SameSteps start.derivation s.derivation
  pub trail : s.trail ≡ start.trail
  pub watched : s.watched ≡ start.watched
  pub joined : s.joined ≡ start.joined
  pub here : (j : ℕ) → from ≤ j → j < to → (side : Quant) × IsAttached s side (get_or s.watched j 0)
  pub stays : (side : Quant) (i : ℕ) → IsAttached start side i → IsAttached s side i

pub joined_to_none : (scopes : List Scope) (s : SearchState) (from : ℕ) → IsIntact scopes s → IsTallied s
    → HasJoinedTo scopes s s from from
joined_to_none scopes s from intact tallied = record {
  intact = intact;
  tallied = tallied;
  steps = record { notes = refl; has_rows = intact.has_rows; literals = λ id. refl; clauses = refl };
  trail = refl;
  watched = refl;
  joined = refl;
  here = λ j low high. absurd (omega arith);
  stays = λ side i a. a;
}

pub joined_to_next : (scopes : List Scope) (start s new : SearchState) (from to : ℕ)
    → HasJoinedTo scopes start s from to → Joins scopes s new (get_or s.watched to 0) → IsTallied new
    → HasJoinedTo scopes start new from (to + 1)
joined_to_next scopes start s new from to has joins tallied = record {
  intact = joins.intact;
  tallied = tallied;
  steps = steps_then start.derivation s.derivation new.derivation has.steps joins.steps;
  trail = joins.trail ∙ has.trail;
  watched = joins.watched ∙ has.watched;
  joined = joins.joined ∙ has.joined;
  here =
      λ j low high.
      subst (λ ids. (side : Quant) × IsAttached new side (get_or ids j 0)) (sym joins.watched)
      (⊎_elim
      (λ (less : j < to). let a = has.here j low less in (a.0, joins.stays a.0 (get_or s.watched j 0) a.1))
      (λ (last : to ≤ j).
      let e : to ≡ j = omega arith in
      subst (λ k. (side : Quant) × IsAttached new side (get_or s.watched k 0)) e joins.here)
      (cases_lt j to));
  stays = λ side i a. joins.stays side i (has.stays side i a);
}

-- what stands on a list from a place on
pub stands_behind : (ids : List ℕ) (place k : ℕ) → place ≤ k → k < length ids
    → Contains (drop place ids) (get_or ids k 0)
stands_behind ids place k low within =
    let long = length-drop place ids in
    let same : place + (k - place) ≡ k = omega arith in
    subst (λ i. Contains (drop place ids) i)
    (get_or-drop place ids (k - place) 0 ∙ ap (λ i. get_or ids i 0) same)
    (Contains-get_or (drop place ids) (k - place) 0 (omega arith))

pub joined_to_end : (scopes : List Scope) (start s : SearchState) (from to : ℕ) → HasJoinedTo scopes start s from to
    → length start.watched ≤ to → JoinsAll scopes start s (drop from start.watched)
joined_to_end scopes start s from to has past = record {
  intact = has.intact;
  tallied = has.tallied;
  steps = has.steps;
  trail = has.trail;
  watched = has.watched;
  joined = has.joined;
  here =
      each_by_place (drop from start.watched) (λ id. (side : Quant) × IsAttached s side id)
      (λ j low.
      let long = length-drop from start.watched in
      subst (λ i. (side : Quant) × IsAttached s side i)
      (ap (λ ids. get_or ids (from + j) 0) has.watched ∙ sym (get_or-drop from start.watched j 0))
      (has.here (from + j) (omega arith) (omega arith)));
  stays = has.stays;
}

-- the reductions are attached, too
module _ (scopes : List Scope) (start s taken new : SearchState) (ids : List ℕ)
    (sheds : Sheds (λ id. ⊥) start s) (takes : TakesAll scopes s taken ids)
    (joins : JoinsAll scopes taken new ids) (resting : IsResting scopes start) where
  taken_live : (id : ℕ) → IsTrue (is_live new.derivation id) → IsTrue (is_live taken.derivation id)
  taken_live id live = sym (live_same taken.derivation new.derivation joins.steps id) ∙ live

  start_live : (id : ℕ) → Contains s.watched id → IsTrue (is_live new.derivation id)
      → IsTrue (is_live start.derivation id)
  start_live id at live = sym (live_same start.derivation s.derivation sheds.steps id)
      ∙ takes.was_live id at (taken_live id live)

  attached_all : new.joined ≡ true → (id : ℕ) → Contains taken.watched id → IsTrue (is_live new.derivation id)
      → (side : Quant) × IsAttached new side id
  attached_all joined id at live =
      let before : s.joined ≡ true = sym takes.joined ∙ (sym joins.joined ∙ joined) in
      ⊎_elim
      (λ was.
      let a = resting.attached (sheds.joined before) id (subst (λ ws. Contains ws id) sheds.watched was)
      (start_live id was live) in (
        a.0,
        joins.stays a.0 id (takes.stays a.0 id
            (⊎_elim (λ still. still) (λ goes. absurd goes) (sheds.stays before a.0 id a.1))),
      ))
      (λ came. joins.here id came)
      (Contains-append_cases s.watched ids id (subst (λ ws. Contains ws id) takes.watched at))

  pub resting_entered : IsResting scopes new
  resting_entered = record {
    rest = subst IsAtRest (sym (joins.trail ∙ (takes.trail ∙ sheds.trail))) resting.rest;
    intact = joins.intact;
    attached = λ joined id at live. attached_all joined id (subst (λ ws. Contains ws id) joins.watched at) live;
    tallied = joins.tallied;
  }
