-- Searches at rest under a smaller prefix, and what goes where steps are dropped one after the other.
use Rattle.std.proofs.Common.{◌≡◌, ℕ, ◌⊎◌, ◌||◌, Bool, false, not, cond, List, [], ◌∷◌, filter, Some, Contains, IsTrue, is_some, length, refl, sym, ap, ap₂, subst, ◌∙◌, inl, inr, ⊎_elim, arith}
use Rattle.std.proofs.lemmas.Bool.{cases_Bool, cond-true, cond-false, false≢true, or_cases, or_left, or_right}
use Rattle.prefix.specs.declared.quant.Quant.{Quant}
use Rattle.prefix.specs.declared.quant.Quant.TheVariants.{Exists}
use Rattle.prefix.specs.Scopes.{Scope}
use Rattle.rows.specs.Arena.{literals_of}
use Rattle.calculus.specs.Derivations.{AgreeOn, Extends}
use Rattle.calculus.specs.Rows.{IsRow}
use Rattle.calculus.specs.RowTheorems.{ReductionsStay}
use Rattle.clean.proofs.Keeping.{step_row}
use Rattle.clean.specs.Reasons.{IsReducedStep}
use Rattle.derive.specs.State.{IsLegalFor, Note, OpenClause, State, clauses_of, is_live, may_be_antecedent, note_at, row_of, side_at}
use Rattle.derive.specs.Adding.{IsReductionOf}
use Rattle.derive.specs.Dropping.{Drops, Falls, NoneOutsideBelow, StepTest, is_outside, mentions}
use Rattle.derive.specs.Dropping.Falls.{rests, root}
use Rattle.derive.specs.Theorems.{ClausesAreListed, IsNamed, PrefixesMayChange}
use Rattle.derive.proofs.Leaving.{agree_named}
use Rattle.watch.specs.Laws.{HoldingLaws, StandsAttached}
use Rattle.search.specs.Leaving.{Loses}
use Rattle.search.specs.Moves.{KeepsOlder, SameSteps}
use Rattle.search.specs.State.{IsResting, SearchState, rows_of, watch_of}
use Rattle.search.proofs.Marks.{note_same, step_live}
use Rattle.search.proofs.Shedding.{falls_alike}

-- under a smaller prefix that has all variables of live steps

module _ (change : PrefixesMayChange) (listed : ClausesAreListed) (stay : ReductionsStay) (holding : HoldingLaws)
    (old new : List Scope) (s : SearchState) (extends : Extends new old)
    (inside : (id : ℕ) → IsTrue (is_live s.derivation id) → mentions (is_outside new) (row_of s.derivation id) ≡ false)
    (resting : IsResting old s) where
  agree : AgreeOn old new (IsNamed s.derivation)
  agree = agree_named old new s.derivation extends inside

  legal : IsLegalFor new s.derivation
  legal = change old new s.derivation agree resting.intact.legal

  reduced_moved : (pivot : Quant) (id : ℕ) → IsReducedStep pivot old s.derivation id
      → IsReducedStep pivot new s.derivation id
  reduced_moved pivot id is = record {
    step = is.step;
    of_side = is.of_side;
    reduced = stay.reduced pivot new old (row_of s.derivation id) extends (step_row new s.derivation id legal is.step)
        ∙ is.reduced;
  }

  reduction_moved : (c : OpenClause) (id : ℕ) → Contains (clauses_of s.derivation) c
      → IsReductionOf old s.derivation c id → IsReductionOf new s.derivation c id
  reduction_moved c id at is = record {
    step = is.step;
    of_side = is.of_side;
    literals = is.literals ∙ sym (stay.reduced Exists new old c.row extends
        (subst (λ row. IsRow new row) (listed.row s.derivation c at)
        (step_row new s.derivation c.id legal (ap may_be_antecedent (listed.note s.derivation c at)))));
    tag = is.tag;
    rests = is.rests;
  }

  agree_attached : (side : Quant) → AgreeOn old new (StandsAttached side (rows_of s))
  agree_attached side =
      let named : (x : ℕ) → StandsAttached side (rows_of s) x → IsNamed s.derivation x =
      λ x stands. (
        stands.0,
        step_live (note_at s.derivation stands.0)
            (resting.intact.watched.sides side stands.0 stands.1).step,
        stands.2,
      ) in
      record {
        has = λ x h. agree.has x (named x h);
        quantifiers = λ x h. agree.quantifiers x (named x h);
        depths = λ x y h k. agree.depths x y (named x h) (named y k);
      }

  pub resting_moves : IsResting new s
  resting_moves =
      let intact = resting.intact in
      let h = intact.watched in
      record {
        rest = resting.rest;
        intact = record {
          trail = resting.rest.kept new;
          has_rows = intact.has_rows;
          legal = legal;
          watched = record {
            marked = h.marked;
            sides = λ side id a. reduced_moved side id (h.sides side id a);
            listed = h.listed;
            given = h.given;
            steps = λ id at live. reduced_moved (side_at s.derivation id) id (h.steps id at live);
            clauses = λ c at. let r = h.clauses c at in (r.0, r.1, reduction_moved c r.0 at r.2);
          };
          watching = record {
            holds = λ side. holding.moves side old new (watch_of side s) (rows_of s) (agree_attached side)
                (intact.watching.holds side);
            front = intact.watching.front;
            room = intact.watching.room;
          };
          room = record {
            trail = λ x at. intact.room.trail x (extends.has x at);
            signs = λ x at. intact.room.signs x (extends.has x at);
          };
        };
        attached = resting.attached;
        tallied = resting.tallied;
      }

-- what goes

-- what is left has its note of before
pub left_note : (is_root : StepTest) (old new : State) → Loses is_root old new → (id : ℕ) → IsTrue (is_live new id)
    → note_at new id ≡ note_at old id
left_note is_root old new loses id live =
    ⊎_elim
    (λ gone. absurd (false≢true (sym (ap is_some gone.1) ∙ live)))
    (λ kept. kept.1)
    (loses.exactly id)

pub older_lost : (is_root : StepTest) (old new : State) → Loses is_root old new → KeepsOlder old new
older_lost is_root old new loses =
    let next = loses.same_next in
    record {
      longer = omega arith;
      note = λ id low live. left_note is_root old new loses id live;
      row = λ id low live. loses.rows id live;
    }

-- steps are dropped after rows were detached
pub loses_shed : (is_root later : StepTest) (start s d : State) → SameSteps start s
    → ((id : ℕ) (note : Note) → later id note ≡ is_root id note) → Drops later s d → Loses is_root start d
loses_shed is_root later start s d same alike drops = record {
  same_next = drops.exactly.same_next ∙ ap length same.notes;
  exactly =
      λ id.
      ⊎_elim
      (λ gone. inl (falls_alike later is_root s.notes start.notes (sym same.notes) alike id gone.0, gone.1))
      (λ kept. inr (
        λ falls. kept.0 (falls_alike is_root later start.notes s.notes same.notes (λ i note. sym (alike i note)) id
            falls),
        kept.1 ∙ note_same start s same id,
      ))
      (drops.exactly.steps id);
  rows = λ id live. ap literals_of (drops.others id live).row ∙ same.literals id;
}

-- steps are dropped one after the other
module _ (one two later : StepTest) (old mid new : State) (first : Loses one old mid) (second : Loses later mid new)
    (alike : (id : ℕ) (note : Note) → note_at mid id ≡ Some note → later id note ≡ two id note) where
  abbrev either : StepTest
  either id note = one id note || two id note

  was : (id : ℕ) (note : Note) → note_at mid id ≡ Some note → note_at old id ≡ Some note
  was id note there = sym (left_note one old mid first id (ap is_some there)) ∙ there

  falls_first : (id : ℕ) → Falls one old.notes id → Falls either old.notes id
  falls_first id (root i note there test) = root id note there (or_left (one id note) (two id note) test)
  falls_first id (rests i on note there r falls) = rests id on note there r (falls_first on falls)

  falls_second : (id : ℕ) → Falls later mid.notes id → Falls either old.notes id
  falls_second id (root i note there test) =
      root id note (was id note there) (or_right (one id note) (two id note) (sym (alike id note there) ∙ test))
  falls_second id (rests i on note there r falls) = rests id on note (was id note there) r (falls_second on falls)

  falls_either : (id : ℕ) → Falls either old.notes id → Falls one old.notes id ⊎ Falls later mid.notes id
  falls_either id (root i note there test) =
      ⊎_elim
      (λ gone. inl gone.0)
      (λ kept.
      let now : note_at mid id ≡ Some note = kept.1 ∙ there in
      ⊎_elim
      (λ a. inl (root id note there a))
      (λ b. inr (root id note now (alike id note now ∙ b)))
      (or_cases (one id note) (two id note) test))
      (first.exactly id)
  falls_either id (rests i on note there r falls) =
      ⊎_elim
      (λ gone. inl gone.0)
      (λ kept.
      ⊎_elim
      (λ a. inl (rests id on note there r a))
      (λ b. inr (rests id on note (kept.1 ∙ there) r b))
      (falls_either on falls))
      (first.exactly id)

  pub loses_both : Loses either old new
  loses_both = record {
    same_next = second.same_next ∙ first.same_next;
    exactly =
        λ id.
        ⊎_elim
        (λ gone. inl (falls_second id gone.0, gone.1))
        (λ kept.
        ⊎_elim
        (λ gone. inl (falls_first id gone.0, kept.1 ∙ gone.1))
        (λ stays. inr (λ falls. ⊎_elim stays.0 kept.0 (falls_either id falls), kept.1 ∙ stays.1))
        (first.exactly id))
        (second.exactly id);
    rows = λ id live.
        second.rows id live ∙ first.rows id (ap is_some (sym (left_note later mid new second id live)) ∙ live);
  }

-- where fewer steps are live, no more of them name a variable
pub none_below_left : (is_root : StepTest) (old new : State) (scopes : List Scope) (from : ℕ) → Loses is_root old new
    → NoneOutsideBelow scopes from old → NoneOutsideBelow scopes from new
none_below_left is_root old new scopes from loses below id low live =
    ap (mentions (is_outside scopes)) (loses.rows id live)
    ∙ below id low (ap is_some (sym (left_note is_root old new loses id live)) ∙ live)

-- one filter after another
pub filter_both : (p q : OpenClause → Bool) (cs : List OpenClause)
    → filter (λ c. not (q c)) (filter (λ c. not (p c)) cs) ≡ filter (λ c. not (p c || q c)) cs
filter_both p q [] = refl
filter_both p q (c ∷ cs) =
    ⊎_elim
    (λ t.
    ap (filter (λ d. not (q d))) (cond-false (not (p c)) (c ∷ filter (λ d. not (p d)) cs) (filter (λ d. not (p d)) cs)
    (ap not t))
    ∙ (filter_both p q cs
    ∙ sym (cond-false (not (p c || q c)) (c ∷ filter (λ d. not (p d || q d)) cs) (filter (λ d. not (p d || q d)) cs)
    (ap (λ b. not (b || q c)) t))))
    (λ f.
    ap (filter (λ d. not (q d))) (cond-true (not (p c)) (c ∷ filter (λ d. not (p d)) cs) (filter (λ d. not (p d)) cs)
    (ap not f))
    ∙ ap₂ (λ b rest. cond b (c ∷ rest) rest) (ap (λ b. not (b || q c)) (sym f)) (filter_both p q cs))
    (cases_Bool (p c))
