-- Searches at rest into which a clause comes.
use Rattle.std.proofs.Common.{◌≡◌, ℕ, ◌<◌, ◌≤◌, ◌⊎◌, true, List, [], ◌∷◌, ◌++◌, Option, Some, None, Contains, IsTrue, is_some, get_or, refl, sym, ap, subst, ◌∙◌, inl, inr, ⊎_elim, arith}
use Rattle.std.proofs.lemmas.Bool.{cases_Bool, cond-false, false≢true}
use Rattle.std.proofs.lemmas.List.Elements.{Contains-append_cases, Contains-append_left, Contains-append_right}
use Rattle.calculus.proofs.Lists.{contains_cons, contains_head, contains_nil}
use Rattle.calculus.proofs.RowLaws.{reduce_twice}
use Rattle.prefix.specs.declared.quant.Quant.{Quant}
use Rattle.prefix.specs.declared.quant.Quant.TheVariants.{Exists}
use Rattle.prefix.specs.Scopes.{Scope}
use Rattle.rows.specs.Arena.{StoredRow, link_at, links_of, literals_of, row_at as stored_at}
use Rattle.calculus.specs.Derivations.Why.{ReducedFrom}
use Rattle.calculus.specs.Rows.{Row, reduce}
use Rattle.derive.specs.State.{IsLegalFor, Note, OpenClause, SameStep, State, arena_of, clauses_of, is_live, next_id, note_at, note_in, may_be_antecedent, side_at, side_in, why_in}
use Rattle.derive.specs.Cubes.{misses}
use Rattle.derive.specs.Dropping.{Falls}
use Rattle.derive.specs.Adding.{InputsClause, IsReductionOf, clause_note}
use Rattle.derive.specs.Growing.{AreUnlinked, Grows}
use Rattle.derive.specs.Theorems.{GrowthLaws}
use Rattle.derive.proofs.Additions.{live_below}
use Rattle.watch.specs.Laws.{AgreeingLaws, HoldingLaws}
use Rattle.watch.specs.Links.{is_attached}
use Rattle.clean.specs.Reasons.{IsReducedStep}
use Rattle.search.specs.Forcing.{HasNoCubes}
use Rattle.search.specs.Moves.{SameSteps}
use Rattle.search.specs.Long.{is_input, long_in}
use Rattle.search.specs.State.{AreWatched, IsAtRest, IsAttached, IsIntact, IsResting, IsTallied, SearchState, rows_of}
use Rattle.search.specs.Watching.{Joins, NoneFalls, Sheds, TakesIn}
use Rattle.search.proofs.Dropping.{intact_rederived, rederived}
use Rattle.search.proofs.Tallying.{antecedent_live, kept_detached, kept_same, kept_unlinked, same_count}
use Rattle.search.proofs.Marks.{live_same, marked_as_was, not_attached, note_same, same_mark, reduced_by, reduction_by, step_live}

-- a clause came in
pub record Inputs (scopes : List Scope) (old new : State) (first second frame : ℕ) (row : Row) : Type 0 where
  pub inputs : InputsClause scopes old new first second frame row
  pub reduction : IsReductionOf scopes new (record { id = first; frame = frame; row = row }) second
  pub kept : (id : ℕ) (note : Note) → note_at old id ≡ Some note → note.side ≡ Exists → SameStep old new id
  pub others : (id : ℕ) → IsTrue (is_live old id) → IsTrue (is_live new id) → SameStep old new id
  pub stays : (id : ℕ) → IsTrue (is_live old id) → (Falls (misses row (arena_of old)) old.notes id → ⊥)
      → IsTrue (is_live new id)
  pub unlinked : AreUnlinked old new
  pub clauses : clauses_of new ≡ clauses_of old ++ (record { id = first; frame = frame; row = row }) ∷ []

-- the note of a clause that is a step
note_there : (o : Option Note) → may_be_antecedent o ≡ true → side_in o ≡ Exists
    → (n : Note) × (o ≡ Some n) × (n.side ≡ Exists)
note_there None step side = absurd (false≢true step)
note_there (Some n) step side = (n, refl, side)

module _ (laws : GrowthLaws) (scopes : List Scope) (s : SearchState) (new : State) (first second frame : ℕ)
    (row : Row) (is : Inputs scopes s.derivation new first second frame row) where
  grown : Grows s.derivation is.inputs.added
  grown =
      let adds = is.inputs.adds in
      laws.removes s.derivation adds.with_input is.inputs.added second first (ReducedFrom first)
      (reduce Exists scopes row)
      (laws.adds s.derivation s.derivation adds.with_input first (clause_note frame) row
      (laws.itself s.derivation) adds.input)
      adds.reduction

  no_fewer : next_id s.derivation ≤ next_id new
  no_fewer = let g = grown.longer in let e = is.inputs.cubes.exactly.same_next in omega arith

  -- what is live now and was given before was live
  was_live : (id : ℕ) → id < next_id s.derivation → IsTrue (is_live new id) → IsTrue (is_live s.derivation id)
  was_live id given live = sym (grown.given id given) ∙ (ap is_some (sym (is.inputs.cubes.others id live).note) ∙ live)

  reduction_live : IsTrue (is_live new second)
  reduction_live = step_live (note_at new second) is.reduction.step

  reduction_reduced : IsReducedStep (side_at new second) scopes new second
  reduction_reduced =
      subst (λ p. IsReducedStep p scopes new second) (sym is.reduction.of_side) (record {
        step = is.reduction.step;
        of_side = is.reduction.of_side;
        reduced = ap (reduce Exists scopes) is.reduction.literals
            ∙ (reduce_twice Exists scopes row ∙ sym is.reduction.literals);
      })

  -- with the reduction to watch
  module _ (ids : List ℕ) (more : ids ≡ s.watched ++ second ∷ []) (h : AreWatched scopes s) where
    was_or_is : (id : ℕ) → Contains ids id → Contains s.watched id ⊎ (second ≡ id)
    was_or_is id at =
        ⊎_elim inl
        (λ last. ⊎_elim inr (λ none. absurd (contains_nil id none)) (contains_cons second [] id last))
        (Contains-append_cases s.watched (second ∷ []) id (subst (λ ws. Contains ws id) more at))

    still_listed : (id : ℕ) → Contains s.watched id → Contains ids id
    still_listed id at = subst (λ ws. Contains ws id) (sym more) (Contains-append_left s.watched (second ∷ []) id at)

    -- a row to watch that is live is the reduction, or stayed
    stayed : (id : ℕ) → Contains ids id → IsTrue (is_live new id)
        → (second ≡ id) ⊎ (Contains s.watched id × SameStep s.derivation new id × IsTrue (is_live s.derivation id))
    stayed id at live =
        ⊎_elim
        (λ was. let before = was_live id (h.given id was) live in inr (was, is.others id before live, before))
        inl
        (was_or_is id at)

    now_given : (id : ℕ) → Contains ids id → id < next_id new
    now_given id at =
        ⊎_elim
        (λ was. let g = h.given id was in let n = no_fewer in omega arith)
        (λ e. subst (λ j. j < next_id new) e (live_below new.notes second reduction_live))
        (was_or_is id at)

    now_steps : (id : ℕ) → Contains ids id → IsTrue (is_live new id) → IsReducedStep (side_at new id) scopes new id
    now_steps id at live =
        ⊎_elim
        (λ e. subst (λ j. IsReducedStep (side_at new j) scopes new j) e reduction_reduced)
        (λ was.
        subst (λ p. IsReducedStep p scopes new id) (sym (ap side_in was.1.note))
        (reduced_by (side_at s.derivation id) scopes s.derivation new id was.1.note (ap literals_of was.1.row)
        (h.steps id was.0 was.2)))
        (stayed id at live)

    still_reduction : (c : OpenClause) (id : ℕ) → IsReductionOf scopes s.derivation c id → IsReductionOf scopes new c id
    still_reduction c id r =
        let n = note_there (note_at s.derivation id) r.step r.of_side in
        let same = is.kept id n.0 n.1 n.2 in
        reduction_by scopes s.derivation new c id same.note (ap literals_of same.row) r

    now_clauses : (c : OpenClause) → Contains (clauses_of new) c
        → (id : ℕ) × Contains ids id × IsReductionOf scopes new c id
    now_clauses c at =
        ⊎_elim
        (λ was. let r = h.clauses c was in (
          r.0,
          subst (λ ws. Contains ws r.0) (sym more)
              (Contains-append_left s.watched (second ∷ []) r.0 r.1),
          still_reduction c r.0 r.2,
        ))
        (λ last.
        ⊎_elim
        (λ e. (
          second,
          subst (λ ws. Contains ws second) (sym more)
              (Contains-append_right s.watched (second ∷ []) second (contains_head second [])),
          subst
              (λ k. IsReductionOf scopes new k second) e is.reduction,
        ))
        (λ none. absurd (contains_nil c none))
        (contains_cons (record { id = first; frame = frame; row = row }) [] c last))
        (Contains-append_cases (clauses_of s.derivation) ((record { id = first; frame = frame; row = row }) ∷ []) c
        (subst (λ cs. Contains cs c) is.clauses at))

    -- where no attached row falls, each is as it was
    module _ (intact : IsIntact scopes s) (none : NoneFalls (misses row (rows_of s)) s) where
      was_step : (side : Quant) (id : ℕ) → IsAttached s side id → IsTrue (is_live s.derivation id)
      was_step side id a = step_live (note_at s.derivation id) (intact.watched.sides side id a).step

      attached_live : (side : Quant) (id : ℕ) → IsAttached s side id → IsTrue (is_live new id)
      attached_live side id a = is.stays id (was_step side id a) (none side id a)

      attached_same : (side : Quant) (id : ℕ) → IsAttached s side id → SameStep s.derivation new id
      attached_same side id a = is.others id (was_step side id a) (attached_live side id a)

      abbrev mark_of_row : (o : Option StoredRow) → Option ℕ
      mark_of_row o = get_or (links_of o) 6 None

      marks_left : (id : ℕ) → (link_at (arena_of new) id 6 ≡ link_at (rows_of s) id 6 × IsTrue (is_live s.derivation id)
          × IsTrue (is_live new id)) ⊎ (link_at (arena_of new) id 6 ≡ None)
      marks_left id =
          ⊎_elim
          (λ was.
          ⊎_elim
          (λ live. inl (ap mark_of_row (is.others id was live).row, was, live))
          (λ dead. inr (ap mark_of_row (is.inputs.cubes.exactly.rows id
          ∙ cond-false (is_some (note_in new.notes id)) (stored_at (arena_of is.inputs.added) id) None dead)))
          (cases_Bool (is_live new id)))
          (λ fresh. inr (is.unlinked id 6 fresh))
          (cases_Bool (is_live s.derivation id))

      attached_was : (side : Quant) (id : ℕ) → IsAttached (rederived s new ids) side id → IsAttached s side id
      attached_was side id a =
          ⊎_elim
          (λ kept. sym (same_mark side (rows_of s) (arena_of new) id kept.0) ∙ a)
          (λ free. absurd (false≢true (sym (not_attached side (arena_of new) id free) ∙ a)))
          (marks_left id)

      attached_on : (side : Quant) (id : ℕ) → IsAttached s side id → IsAttached (rederived s new ids) side id
      attached_on side id a =
          same_mark side (rows_of s) (arena_of new) id (ap mark_of_row (attached_same side id a).row) ∙ a

      watched_input : AreWatched scopes (rederived s new ids)
      watched_input = record {
        marked = λ id. ⊎_elim (λ kept. marked_as_was (rows_of s) (arena_of new) id kept.0 (h.marked id)) inl
            (marks_left id);
        sides =
            λ side id a.
            let was = attached_was side id a in
            let same = attached_same side id was in
            reduced_by side scopes s.derivation new id same.note (ap literals_of same.row) (h.sides side id was);
        listed = λ side id a. still_listed id (h.listed side id (attached_was side id a));
        given = now_given;
        steps = now_steps;
        clauses = now_clauses;
      }

      tally_input : IsLegalFor scopes new → long_in new ≡ long_in s.derivation
      tally_input legal =
          same_count s.derivation new no_fewer
          (λ id.
          ⊎_elim
          (λ at.
          let side = side_at s.derivation id in
          let same = attached_same side id at in
          let step = (h.sides side id at).step in
          kept_same s.derivation new id same.note (ap literals_of same.row)
          (λ a why. ap is_input (is.others a (antecedent_live scopes s.derivation id a intact.legal step why)
          (antecedent_live scopes new id a legal (ap may_be_antecedent same.note ∙ step)
          (ap why_in same.note ∙ why))).note)
          (ap mark_of_row same.row))
          (λ free.
          ⊎_elim
          (λ kept. kept_detached new id (ap (λ o. is_attached (side_in o) (arena_of new) id)
          (is.others id kept.1 kept.2).note
          ∙ (same_mark (side_at s.derivation id) (rows_of s) (arena_of new) id kept.0 ∙ free)))
          (λ gone. kept_unlinked new id gone)
          (marks_left id)
          ∙ sym (kept_detached s.derivation id free))
          (cases_Bool (is_attached (side_at s.derivation id) (rows_of s) id)))

      pub takes_input : HoldingLaws → AgreeingLaws → IsTallied s → IsTrue (is_some new.rows) → IsLegalFor scopes new
          → TakesIn scopes s (rederived s new ids) second
      takes_input holding agreeing tallied rows legal = record {
        intact = intact_rederived holding agreeing scopes s new ids intact rows legal watched_input
            (λ side id a. (attached_same side id a).row) attached_was;
        tallied = tallied ∙ sym (tally_input legal);
        live = reduction_live;
        trail = refl;
        joined = refl;
        watched = more;
        stays = attached_on;
        was_live = λ id at live. was_live id (h.given id at) live;
      }

    pub no_cubes_input : HasNoCubes s → HasNoCubes (rederived s new ids)
    no_cubes_input none id at live =
        ⊎_elim
        (λ e. subst (λ j. side_at new j ≡ Exists) e is.reduction.of_side)
        (λ was. ap side_in was.1.note ∙ none id was.0 was.2)
        (stayed id at live)

-- the same steps and rows to watch
pub no_cubes_same : (old new : SearchState) → HasNoCubes old → SameSteps old.derivation new.derivation
    → new.watched ≡ old.watched → HasNoCubes new
no_cubes_same old new none same watched id at live =
    ap side_in (note_same old.derivation new.derivation same id)
    ∙ none id (subst (λ ids. Contains ids id) watched at) (sym (live_same old.derivation new.derivation same id) ∙ live)

-- the reduction is attached, too
module _ (scopes : List Scope) (start s taken new : SearchState) (second : ℕ)
    (sheds : Sheds (λ id. ⊥) start s) (takes : TakesIn scopes s taken second)
    (joins : Joins scopes taken new second) (tallied : IsTallied new) (resting : IsResting scopes start) where
  taken_live : (id : ℕ) → IsTrue (is_live new.derivation id) → IsTrue (is_live taken.derivation id)
  taken_live id live = sym (live_same taken.derivation new.derivation joins.steps id) ∙ live

  start_live : (id : ℕ) → Contains s.watched id → IsTrue (is_live new.derivation id)
      → IsTrue (is_live start.derivation id)
  start_live id at live = sym (live_same start.derivation s.derivation sheds.steps id)
      ∙ takes.was_live id at (taken_live id live)

  attached_all : new.joined ≡ true → (id : ℕ) → Contains taken.watched id → IsTrue (is_live new.derivation id)
      → (side : Quant) × IsAttached new side id
  attached_all joined id at live =
      let before : s.joined ≡ true = sym takes.joined ∙ (sym joins.joined ∙ joined) in
      ⊎_elim
      (λ was.
      let a = resting.attached (sheds.joined before) id (subst (λ ids. Contains ids id) sheds.watched was)
      (start_live id was live) in (
        a.0,
        joins.stays a.0 id (takes.stays a.0 id
            (⊎_elim (λ still. still) (λ goes. absurd goes) (sheds.stays before a.0 id a.1))),
      ))
      (λ last. ⊎_elim (λ e. subst (λ i. (side : Quant) × IsAttached new side i) e joins.here)
      (λ none. absurd (contains_nil id none)) (contains_cons second [] id last))
      (Contains-append_cases s.watched (second ∷ []) id (subst (λ ids. Contains ids id) takes.watched at))

  pub resting_joined : IsResting scopes new
  resting_joined = record {
    rest = subst IsAtRest (sym (joins.trail ∙ (takes.trail ∙ sheds.trail))) resting.rest;
    intact = joins.intact;
    attached = λ joined id at live. attached_all joined id (subst (λ ids. Contains ids id) joins.watched at) live;
    tallied = tallied;
  }
