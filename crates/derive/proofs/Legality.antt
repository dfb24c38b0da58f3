-- Each live step but a finish stays legal.
use Rattle.std.proofs.Common.{◌≡◌, ℕ, ◌<◌, Bool, true, false, not, List, [], ◌∷◌, ◌++◌, length, map, Contains, Option, Some, None, is_some, IsTrue, sym, refl, subst, ap, ap₂, ◌∙◌, ⊎_elim, arith}
use Rattle.std.specs.List.{filter_map, range_with_len, cons_option}
use Rattle.std.specs.Option.{option_and_then}
use Rattle.std.proofs.lemmas.Bool.{true≢false, false≢true}
use Rattle.std.proofs.lemmas.List.{append-nil}
use Rattle.prefix.specs.declared.quant.Quant.{Quant}
use Rattle.prefix.specs.declared.quant.Quant.TheVariants.{Exists, Forall}
use Rattle.prefix.specs.Scopes.{Scope}
use Rattle.rows.specs.Arena.{Arena}
use Rattle.calculus.specs.Rows.{Row, IsRow, reduce, resolve}
use Rattle.calculus.specs.Derivations.{Step, Why, Antecedent, IsDerivation, IsLegalStep, IsInput, Hits, Extends}
use Rattle.calculus.specs.Derivations.Why.{Given, ReducedFrom, ResolvedFrom, FinishedFrom}
use Rattle.calculus.proofs.Lists.{contains_nil, contains_head, contains_tail, pairs_nil}
use Rattle.calculus.proofs.StepLemmas.{one_more_step}
use Rattle.calculus.proofs.Changes.{changed_derivation, extends_itself}
use Rattle.calculus.proofs.RowLaws.{reduce_row, resolve_row}
use Rattle.derive.specs.State.{Note, Notes, State, OpenClause, note_in, note_at, next_id, row_of, side_in, side_at, why_in, why_at, tag_at, is_finish, may_be_antecedent, is_step, step_at, step_from, step_with, steps_of, clause_at, clause_from, clause_with, clauses_of, open_clauses, IsLegalFor}
use Rattle.derive.specs.Adding.{Adds, Removes, AreResolvable, note_over, cube_note}
use Rattle.derive.proofs.Ids.{listed_at, listed_from, listed_same}
use Rattle.derive.specs.Antecedents.{IsAntecedentIn, IsSupportedAt}
use Rattle.derive.proofs.Falling.{none_some}
use Rattle.derive.proofs.Additions.{live_below}
use Rattle.std.specs.Prelude.{max}
use Rattle.calculus.proofs.Removing.{agreed_derivation}
use Rattle.calculus.specs.Derivations.{AgreeOn, StandsIn}
use Rattle.calculus.specs.Rows.{variables_in}
use Rattle.derive.specs.Theorems.{IsNamed}

pub contains_last : {X : Type 0} (xs : List X) (x : X) → Contains (xs ++ x ∷ []) x
contains_last [] x = contains_head x []
contains_last (y ∷ xs) x = contains_tail y (xs ++ x ∷ []) x (contains_last xs x)

-- what a live step is, in the words of the calculus

-- a step that stands under an id
pub record StandsAt (d : State) (s : Step) : Type 0 where
  pub note : Note
  pub there : note_at d s.id ≡ Some note
  pub side : s.side ≡ note.side
  pub row : s.row ≡ row_of d s.id
  pub why : s.why ≡ note.why
  pub no_finish : is_finish note.why ≡ false
  pub given : s.id < next_id d

abbrev pub as_step : ℕ → Quant → Row → Why → Step
as_step id side row why = record { id = id; side = side; row = row; why = why }

pub step_with_is : (id : ℕ) (side : Quant) (row : Row) (why : Why) (s : Step) → step_with id side row why ≡ Some s
    → (as_step id side row why ≡ s) × (is_finish why ≡ false)
step_with_is id side row Given s e = (cc, refl)
step_with_is id side row (ReducedFrom a) s e = (cc, refl)
step_with_is id side row (ResolvedFrom a b x) s e = (cc, refl)
step_with_is id side row (FinishedFrom a) s e = absurd (none_some None s refl e)

pub step_with_from : (id : ℕ) (side : Quant) (row : Row) (why : Why) → is_finish why ≡ false
    → step_with id side row why ≡ Some (record { id = id; side = side; row = row; why = why })
step_with_from id side row Given e = refl
step_with_from id side row (ReducedFrom a) e = refl
step_with_from id side row (ResolvedFrom a b x) e = refl
step_with_from id side row (FinishedFrom a) e = absurd (true≢false e)

stands_with : (d : State) (k : ℕ) (s : Step) (o : Option Note) → note_at d k ≡ o → k < next_id d
    → option_and_then (step_from k (row_of d k)) o ≡ Some s → (s.id ≡ k) × StandsAt d s
stands_with d k s None there within e = absurd (none_some None s refl e)
stands_with d k s (Some note) there within e =
    let p = step_with_is k note.side (row_of d k) note.why s e in
    let id : k ≡ s.id = ap (λ (t : Step). t.id) p.0 in (
      sym id,
      record {
        note = note;
        there = ap (note_at d) (sym id) ∙ there;
        side = ap (λ (t : Step). t.side) (sym p.0);
        row = ap (λ (t : Step). t.row) (sym p.0) ∙ ap (row_of d) id;
        why = ap (λ (t : Step). t.why) (sym p.0);
        no_finish = p.1;
        given = rw (← id) within;
      },
    )

-- a listed step stands under its id
pub stands_at : (d : State) (s : Step) → Contains (steps_of d) s → StandsAt d s
stands_at d s i =
    let p = listed_at (step_at d) 0 (next_id d) s i in
    let within : p.0 < next_id d = let h = p.2 in omega arith in
    (stands_with d p.0 s (note_at d p.0) refl within p.3).1

-- a live note that is no finish is a listed step
pub listed_step : (d : State) (k : ℕ) (note : Note) → note_at d k ≡ Some note → is_finish note.why ≡ false
    → k < next_id d → Contains (steps_of d) (record { id = k; side = note.side; row = row_of d k; why = note.why })
listed_step d k note there no_finish within =
    listed_from (step_at d) 0 (next_id d) _ k (omega arith) (omega arith)
    (ap (option_and_then (step_from k (row_of d k))) there ∙ step_with_from k note.side (row_of d k) note.why no_finish)

-- a step that others may rest on
pub record MayRestOn (d : State) (k : ℕ) : Type 0 where
  pub note : Note
  pub there : note_at d k ≡ Some note
  pub no_finish : is_finish note.why ≡ false
  pub given : k < next_id d

may_rest_with : (d : State) (k : ℕ) (o : Option Note) → note_at d k ≡ o → may_be_antecedent o ≡ true → MayRestOn d k
may_rest_with d k None there is = absurd (false≢true is)
may_rest_with d k (Some note) there is =
    record {
      note = note;
      there = there;
      no_finish = false_from_not (is_finish note.why) is;
      given =
          live_below d.notes k (ap is_some there);
    }
  where
    false_from_not : (b : Bool) → not b ≡ true → b ≡ false
    false_from_not true e = sym e
    false_from_not false e = refl

pub may_rest_on : (d : State) (k : ℕ) → IsTrue (is_step d k) → MayRestOn d k
may_rest_on d k is = may_rest_with d k (note_at d k) refl is

-- the step under an id that `is_step` holds of
pub step_found : (d : State) (k : ℕ) → IsTrue (is_step d k) → (s : Step) × (s.id ≡ k) × (s.side ≡ side_at d k)
    × (s.row ≡ row_of d k) × Contains (steps_of d) s
step_found d k is =
    let b = may_rest_on d k is in (
      record { id = k; side = b.note.side; row = row_of d k; why = b.note.why },
      refl,
      ap side_in (sym b.there),
      refl,
      listed_step d k b.note b.there b.no_finish b.given,
    )

-- one more step
module _ (scopes : List Scope) (old new : State) (id : ℕ) (note : Note) (row : Row) (adds : Adds old new id note row)
    (legal : IsLegalFor scopes old) where
  abbrev added : Step
  added = record { id = id; side = note.side; row = row; why = note.why }

  open_same : clause_from id row note ≡ None → open_clauses new ≡ open_clauses old
  open_same none = ap (map (λ (c : OpenClause). c.row))
      (adds.clauses ∙ ap (λ o. clauses_of old ++ cons_option o []) none ∙ append-nil (clauses_of old))

  pub legal_added : is_finish note.why ≡ false → clause_from id row note ≡ None → IsRow scopes row → IsLegalStep scopes
      (open_clauses old) (steps_of old) added note.why → IsLegalFor scopes new
  legal_added no_finish no_clause is_row step =
      rw (open_same no_clause, adds.steps, step_with_from id note.side row note.why no_finish)
      (one_more_step scopes (open_clauses old) (steps_of old) added legal
      (λ s i. rw adds.is_next ((stands_at old s i).given)) is_row step)

  pub legal_finish : is_finish note.why ≡ true → clause_from id row note ≡ None → step_from id row note ≡ None
      → IsLegalFor scopes new
  legal_finish finish no_clause no_step = rw (open_same no_clause, adds.steps, no_step, append-nil (steps_of old)) legal

-- a cube
pub legal_cube : (scopes : List Scope) (old new : State) (id : ℕ) (row : Row) → Adds old new id cube_note row
    → IsRow scopes row → Hits row (open_clauses old) → IsLegalFor scopes old → IsLegalFor scopes new
legal_cube scopes old new id row adds is_row hits legal = legal_added scopes old new id cube_note row adds legal refl
    refl is_row hits

no_clause_over : (id : ℕ) (row : Row) (tag : ℕ) (side : Quant) (a : ℕ) → clause_with id row tag side
    (ReducedFrom a) ≡ None
no_clause_over id row tag Exists a = refl
no_clause_over id row tag Forall a = refl

no_clause_finish : (id : ℕ) (row : Row) (tag : ℕ) (side : Quant) (a : ℕ) → clause_with id row tag side
    (FinishedFrom a) ≡ None
no_clause_finish id row tag Exists a = refl
no_clause_finish id row tag Forall a = refl

no_clause_resolved : (id : ℕ) (row : Row) (tag : ℕ) (side : Quant) (a b x : ℕ) → clause_with id row tag side
    (ResolvedFrom a b x) ≡ None
no_clause_resolved id row tag Exists a b x = refl
no_clause_resolved id row tag Forall a b x = refl

-- the antecedent under an id, for a step that comes next
module _ (d : State) (s : Step) (next : s.id ≡ next_id d) where
  antecedent : (a : ℕ) → IsTrue (is_step d a) → side_at d a ≡ s.side → Antecedent (steps_of d) s a
  antecedent a is side =
      let p = step_found d a is in
      record {
        step = p.0;
        stands = p.4;
        is = p.1;
        earlier = rw next (rw (← p.1) ((stands_at d p.0 p.4).given));
        one_side = p.2 ∙ side;
      }

  antecedent_row : (a : ℕ) (is : IsTrue (is_step d a)) (side : side_at d a ≡ s.side)
      → (antecedent a is side).step.row ≡ row_of d a
  unfolding antecedent
  antecedent_row a is side = (step_found d a is).3

-- a reduction
pub legal_reduction : (scopes : List Scope) (old new : State) (id a : ℕ) → IsTrue (is_step old a) → Removes old new id a
    (ReducedFrom a) (reduce (side_at old a) scopes (row_of old a)) → IsLegalFor scopes old → IsLegalFor scopes new
legal_reduction scopes old new id a is removes legal =
    ⊎_elim (λ same. rw same.2 legal)
    (λ more.
    let row = reduce (side_at old a) scopes (row_of old a) in
    let adds = more.1 in
    let s : Step = record { id = id; side = side_at old a; row = row; why = ReducedFrom a } in
    let from = antecedent old s adds.is_next a is refl in
    let from_row : from.step.row ≡ row_of old a = antecedent_row old s adds.is_next a is refl in
    legal_added scopes old new id (note_over old a (ReducedFrom a)) row adds legal refl
    (no_clause_over id row _ (side_at old a) a)
    (rw (← from_row) (reduce_row (side_at old a) scopes from.step.row (legal.rows from.step from.stands)))
    (record { from = from; removes = rw from_row more.0; result = rw from_row refl }))
    removes.cases

-- a resolvent
pub legal_resolvent : (scopes : List Scope) (old new : State) (id a b x tag : ℕ) → IsTrue (is_step old a)
    → IsTrue (is_step old b) → side_at old a ≡ side_at old b
    → Adds old new id (record { side = side_at old a; why = ResolvedFrom a b x; tag = tag })
    (resolve (row_of old a) (row_of old b) x) → AreResolvable scopes old a b x → IsLegalFor scopes old
    → IsLegalFor scopes new
legal_resolvent scopes old new id a b x tag is_a is_b one adds may legal =
    let row = resolve (row_of old a) (row_of old b) x in
    let s : Step = record { id = id; side = side_at old a; row = row; why = ResolvedFrom a b x } in
    let p = antecedent old s adds.is_next a is_a refl in
    let q = antecedent old s adds.is_next b is_b (sym one) in
    let p_row : p.step.row ≡ row_of old a = antecedent_row old s adds.is_next a is_a refl in
    let q_row : q.step.row ≡ row_of old b = antecedent_row old s adds.is_next b is_b (sym one) in
    legal_added scopes old new id (record { side = side_at old a; why = ResolvedFrom a b x; tag = tag }) row adds legal
    refl (no_clause_resolved id row tag (side_at old a) a b x)
    (resolve_row scopes (row_of old a) (row_of old b) x (rw (← p_row) (legal.rows p.step p.stands))
    (rw (← q_row) (legal.rows q.step q.stands)) may.no_clash)
    (record {
      from_positive = p;
      from_negative = q;
      has_positive = rw p_row may.has_positive;
      has_negative = rw q_row may.has_negative;
      is_pivot_variable = may.is_pivot_variable;
      no_clash = rw (p_row, q_row) may.no_clash;
      result = rw (p_row, q_row) refl;
    })

-- a finish
pub legal_finished : (scopes : List Scope) (old new : State) (id a : ℕ) (row : Row) → Removes old new id a
    (FinishedFrom a) row → IsLegalFor scopes old → IsLegalFor scopes new
legal_finished scopes old new id a row removes legal =
    ⊎_elim (λ same. rw same.2 legal)
    (λ more. legal_finish scopes old new id (note_over old a (FinishedFrom a)) row more.1 legal refl
    (no_clause_finish id row _ (side_at old a) a) refl)
    removes.cases

-- a derivation with the same notes and literals
pub same_legal : (scopes : List Scope) (before after : State) → before.notes ≡ after.notes
    → ((id : ℕ) → row_of before id ≡ row_of after id) → IsLegalFor scopes before → IsLegalFor scopes after
same_legal scopes before after notes rows legal =
    rw (steps, clauses) legal
  where
    steps : steps_of after ≡ steps_of before
    steps =
        ap (λ n. filter_map (step_at after) (range_with_len 0 n)) (ap (λ (ns : Notes). length ns) (sym notes))
        ∙ listed_same (step_at after) (step_at before) 0 (next_id before)
        (λ k low high. ap₂ (λ r o. option_and_then (step_from k r) o) (sym (rows k))
        (ap (λ (ns : Notes). note_in ns k) (sym notes)))

    clauses : clauses_of after ≡ clauses_of before
    clauses =
        ap (λ n. filter_map (clause_at after) (range_with_len 0 n)) (ap (λ (ns : Notes). length ns) (sym notes))
        ∙ listed_same (clause_at after) (clause_at before) 0 (next_id before)
        (λ k low high. ap₂ (λ r o. option_and_then (clause_from k r) o) (sym (rows k))
        (ap (λ (ns : Notes). note_in ns k) (sym notes)))

pub antecedent_of : (d : State) (k : ℕ) (side : Quant) → IsTrue (is_step d k) → side_at d k ≡ side
    → IsAntecedentIn d.notes (next_id d) side k
antecedent_of d k side is same =
    let b = may_rest_on d k is in
    record {
      under = b.note;
      there = b.there;
      earlier = b.given;
      one_side = sym (ap side_in b.there) ∙ same;
      no_finish =
          b.no_finish;
    }

-- a resolvent stands on its antecedents
pub supported_resolvent : (d : State) (a b x : ℕ) (note : Note)
    → note ≡ record { side = side_at d a; why = ResolvedFrom a b x; tag = max (tag_at d a) (tag_at d b) }
    → IsTrue (is_step d a) → IsTrue (is_step d b) → side_at d a ≡ side_at d b → IsSupportedAt d.notes (next_id d) note
supported_resolvent d a b x note is is_a is_b one =
    rw is (record {
      antecedents = λ on r. ⊎_elim (λ e. rw (← e) (antecedent_of d a (side_at d a) is_a refl))
          (λ e. rw (← e) (antecedent_of d b (side_at d a) is_b (sym one))) r;
      tag = refl;
    })

-- an input is one by its step
pub given_input : (scopes : List Scope) (clauses : List Row) (steps : List Step) (s : Step) (why : Why) → why ≡ Given
    → IsLegalStep scopes clauses steps s why → IsInput s.side clauses s.row
given_input scopes clauses steps s why given legal = rw given at legal

-- a derivation of no steps is legal
pub legal_none : (scopes : List Scope) (notes : Notes) (rows : Option Arena) → notes ≡ [] → IsLegalFor scopes
    (record { notes = notes; rows = rows })
legal_none scopes notes rows e =
    rw e (record {
      ascending_ids = pairs_nil (λ (s : Step) (t : Step). s.id < t.id);
      rows = λ s i. absurd
          (contains_nil s i);
      legal = λ s i. absurd (contains_nil s i);
    })

-- a larger prefix, and the same clauses in another list

same_input : (before after : List Row) → ((row : Row) → Contains before row → Contains after row)
    → ((row : Row) → Contains after row → Contains before row) → (side : Quant) (row : Row) → IsInput side before row
    → IsInput side after row
same_input before after to from Exists row is = to row is
same_input before after to from Forall row is = λ clause i. is clause (from clause i)

changed : (old new : List Scope) (d : State) (clauses : List Row) → Extends old new
    → ((row : Row) → Contains (open_clauses d) row → Contains clauses row)
    → ((row : Row) → Contains clauses row → Contains (open_clauses d) row) → IsLegalFor old d → IsDerivation new clauses
    (steps_of d)
changed old new d clauses extends to from legal =
    changed_derivation old new (open_clauses d) clauses (steps_of d) extends
    (λ s i why. same_input (open_clauses d) clauses to from s.side s.row
    (given_input old (open_clauses d) (steps_of d) s s.why why (legal.legal s i))) legal

pub grown : (old new : List Scope) (d : State) → Extends old new → IsLegalFor old d → IsLegalFor new d
grown old new d extends legal = changed old new d (open_clauses d) extends (λ row i. i) (λ row i. i) legal

pub served : (scopes : List Scope) (d : State) (clauses : List Row)
    → ((row : Row) → Contains (open_clauses d) row → Contains clauses row)
    → ((row : Row) → Contains clauses row → Contains (open_clauses d) row) → IsLegalFor scopes d
    → IsDerivation scopes clauses (steps_of d)
served scopes d clauses to from legal = changed scopes scopes d clauses (extends_itself scopes) to from legal

-- a prefix from which variables left that no live step names
named : (d : State) (x : ℕ) → StandsIn (steps_of d) x → IsNamed d x
named d x h = let st = stands_at d h.0 h.1 in
    (h.0.id, ap is_some st.there, subst (λ (r : Row). Contains (variables_in r) x) st.row h.2)

pub moved : (old new : List Scope) (d : State) → AgreeOn old new (IsNamed d) → IsLegalFor old d → IsLegalFor new d
moved old new d agree legal =
    agreed_derivation old new (open_clauses d) (open_clauses d) (steps_of d)
    (record {
      has = λ x h. agree.has x (named d x h);
      quantifiers = λ x h. agree.quantifiers x (named d x h);
      depths = λ x y h k. agree.depths x y (named d x h) (named d y k);
    })
    (λ s j why. given_input old (open_clauses d) (steps_of d) s s.why why (legal.legal s j))
    legal

-- what is listed, by the readers' words

pub listed_told : (d : State) (k : ℕ) → IsTrue (is_step d k) → Contains (steps_of d)
    (record { id = k; side = side_at d k; row = row_of d k; why = why_at d k })
listed_told d k is =
    let b = may_rest_on d k is in
    rw b.there (listed_step d k b.note b.there b.no_finish b.given)

pub listed_is_step : (d : State) (s : Step) → Contains (steps_of d) s → IsTrue (is_step d s.id)
listed_is_step d s i =
    let st = stands_at d s i in
    ap may_be_antecedent st.there ∙ ap not st.no_finish

pub listed_as_told : (d : State) (s : Step) → Contains (steps_of d) s
    → s ≡ record { id = s.id; side = side_at d s.id; row = row_of d s.id; why = why_at d s.id }
listed_as_told d s i =
    let st = stands_at d s i in
    let side : s.side ≡ side_at d s.id = st.side ∙ ap side_in (sym st.there) in
    let why : s.why ≡ why_at d s.id = st.why ∙ ap why_in (sym st.there) in
    λ i. record { id = s.id; side = side i; row = st.row i; why = why i }
