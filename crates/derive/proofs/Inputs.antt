-- A clause with its reduction comes in.
use Rattle.std.proofs.Common.{◌≡◌, ◌≢◌, ℕ, ◌<◌, Bool, true, false, List, [], ◌∷◌, ◌++◌, map, filter, Contains, IsTrue, Some, None, is_some, sym, refl, ap, ap₂, subst, ◌∙◌, ⊎_elim}
use Rattle.std.specs.List.{cons_option}
use Rattle.std.proofs.lemmas.Bool.{false≢true, cond-true}
use Rattle.std.proofs.lemmas.List.{map_push, append-nil}
use Rattle.std.proofs.lemmas.List.Elements.{Contains-append_cases, Contains-append_left, filter-append}
use Rattle.prefix.specs.declared.quant.Quant.{Quant}
use Rattle.prefix.specs.declared.quant.Quant.TheVariants.{Exists, Forall}
use Rattle.prefix.specs.Scopes.{Scope}
use Rattle.prefix.specs.Literal.{Literal}
use Rattle.rows.specs.Arena.{Arena, literals_of}
use Rattle.calculus.specs.Rows.{Row, IsRow, reduce}
use Rattle.calculus.specs.Derivations.{Step, IsDerivation, IsInput, IsClosed}
use Rattle.calculus.specs.Derivations.Why.{Given, ReducedFrom}
use Rattle.calculus.proofs.Lists.{contains_cons, contains_nil, filter_at}
use Rattle.calculus.proofs.StepLemmas.{kept_derivation, one_more_step}
use Rattle.calculus.proofs.Changes.{changed_derivation, extends_itself}
use Rattle.calculus.proofs.RowLaws.{reduce_row}
use Rattle.derive.specs.State.{Note, Notes, State, SameStep, arena_of, IsStepOf, OpenClause, note_in, note_at, next_id, row_of, side_in, tag_in, side_at, is_live, may_be_antecedent, is_step, steps_of, clause_with, clauses_of, open_clauses, IsLegalFor}
use Rattle.derive.specs.Antecedents.{AreSupported}
use Rattle.derive.specs.Adding.{Adds, AddsClause, InputsClause, note_over, clause_note}
use Rattle.derive.specs.Dropping.{Falls, Drops, is_cube}
use Rattle.derive.specs.Cubes.{misses}
use Rattle.derive.specs.Dropping.Falls.{root, rests}
use Rattle.derive.proofs.Legality.{stands_at, contains_last, given_input}
use Rattle.derive.proofs.Additions.{pushed_old}
use Rattle.derive.proofs.Drops.{clauses_same, given_root, closed_left, left_hits}
use Rattle.derive.proofs.Missed.{cube_missing, misses_same}

-- the clauses that are open then
no_clause_over : (id : ℕ) (row : Row) (tag : ℕ) (side : Quant) (a : ℕ) → clause_with id row tag side
    (ReducedFrom a) ≡ None
no_clause_over id row tag Exists a = refl
no_clause_over id row tag Forall a = refl

pub clauses_more : (scopes : List Scope) (old new : State) (first second frame : ℕ) (row : Row)
    → AddsClause scopes old new first second frame row → clauses_of new ≡ clauses_of old ++
    (record { id = first; frame = frame; row = row }) ∷ []
clauses_more scopes old new first second frame row adds =
    ⊎_elim (λ same. ap clauses_of same.2)
    (λ more. more.1.clauses ∙ ap (λ o. clauses_of adds.with_input ++ cons_option o [])
    (no_clause_over second _ _ (side_at adds.with_input first) first) ∙ append-nil (clauses_of adds.with_input))
    adds.reduction.cases
    ∙ adds.input.clauses

-- a list in which the last item is kept
pub filter_push : {X : Type 0} (p : X → Bool) (xs : List X) (x : X) → p x ≡ true
    → filter p (xs ++ x ∷ []) ≡ filter p xs ++ x ∷ []
filter_push p xs x t = filter-append p xs (x ∷ []) ∙ ap (λ ys. filter p xs ++ ys) (cond-true (p x) (x ∷ []) [] t)

no_cube_over : (side : Quant) (a : ℕ) → is_cube side (ReducedFrom a) ≡ false
no_cube_over Exists a = refl
no_cube_over Forall a = refl

contains_one : (row clause : Row) → Contains (row ∷ []) clause → clause ≡ row
contains_one row clause c = ⊎_elim (λ e. sym e) (λ none. absurd (contains_nil clause none))
    (contains_cons row [] clause c)

-- what rests on a step that stays is no cube, and stays
pub over_stays : (clause : Row) (rows : Arena) (notes : Notes) (id : ℕ) (note : Note) (a : ℕ)
    → note_in notes id ≡ Some note → note.why ≡ ReducedFrom a → (Falls (misses clause rows) notes a → ⊥)
    → Falls (misses clause rows) notes id → ⊥
over_stays clause rows notes id note a there why stays (root j n at r) =
    let e : Some note ≡ Some n = sym there ∙ at in
    let is : note ≡ n = cc in
    false≢true (sym (no_cube_over n.side a) ∙ ap (is_cube n.side) (sym (ap (λ (m : Note). m.why) (sym is) ∙ why))
    ∙ cube_missing clause rows id n r)
over_stays clause rows notes id note a there why stays (rests j on n at r falls) =
    let e : Some note ≡ Some n = sym there ∙ at in
    let is : note ≡ n = cc in
    let same : a ≡ on = rw (ap (λ (m : Note). m.why) (sym is) ∙ why) at r in
    stays (rw same falls)

module _ (scopes : List Scope) (old new : State) (first second frame : ℕ) (row : Row) (added : State)
    (adds : AddsClause scopes old added first second frame row) (cubes : Drops (misses row (arena_of added)) added new)
  where
    abbrev with_input : State
    with_input = adds.with_input

    abbrev keep : Step → Bool
    keep s = is_live new s.id

    abbrev input : Step
    input = record { id = first; side = Exists; row = row; why = Given }

    open_new : open_clauses new ≡ open_clauses old ++ row ∷ []
    open_new =
        ap (map (λ (c : OpenClause). c.row)) (clauses_same (misses row (arena_of added)) added new cubes (λ c. refl)
        ∙ clauses_more scopes old added first second frame row adds)
        ∙ map_push (λ (c : OpenClause). c.row) (clauses_of old) (record { id = first; frame = frame; row = row })

    steps_input : steps_of with_input ≡ steps_of old ++ input ∷ []
    steps_input = adds.input.steps

    -- the input step is no cube, and stays
    input_there : note_at with_input first ≡ Some (clause_note frame)
    input_there = adds.input.there

    first_given : first < next_id with_input
    first_given = (stands_at with_input input (rw steps_input (contains_last (steps_of old) input))).given

    note_first : note_at added first ≡ Some (clause_note frame)
    note_first =
        ⊎_elim (λ same. ap (λ (d : State). note_at d first) same.2 ∙ input_there)
        (λ more. ap (λ (d : State). note_at d first) more.1.state ∙ pushed_old with_input.notes _ None first first_given
        ∙ input_there)
        adds.reduction.cases

    first_stays : (Falls (misses row (arena_of added)) added.notes first → ⊥)
        × (note_at new first ≡ Some (clause_note frame))
    first_stays =
        ⊎_elim (λ f. absurd
        (false≢true (given_root (misses row (arena_of added)) added.notes first (clause_note frame) note_first refl
        f.0)))
        (λ k. (k.0, k.1 ∙ note_first))
        (cubes.exactly.steps first)

    old_in_added : (s : Step) → Contains (steps_of old) s → Contains (steps_of added) s
    old_in_added s i =
        let first_in : Contains (steps_of with_input) s = rw steps_input
        (Contains-append_left (steps_of old) (input ∷ []) s i) in
        ⊎_elim (λ same. rw same.2 first_in)
        (λ more. rw more.1.steps (Contains-append_left (steps_of with_input) _ s first_in))
        adds.reduction.cases

    closed_old : IsClosed keep (steps_of old)
    closed_old s t i j = closed_left (misses row (arena_of added)) added new cubes.has_rows cubes.exactly s t
        (old_in_added s i) (old_in_added t j)

    -- the old inputs fit the new clauses, since the cubes that are left hit the new one
    input_kept : (s : Step) → Contains (steps_of old) s → keep s ≡ true → s.why ≡ Given → (side : Quant) → s.side ≡ side
        → IsInput side (open_clauses old) s.row → IsInput side (open_clauses new) s.row
    input_kept s i live why Exists side is = rw open_new (Contains-append_left (open_clauses old) (row ∷ []) s.row is)
    input_kept s i live why Forall side is =
        let st = stands_at added s (old_in_added s i) in
        let cube : is_cube st.note.side st.note.why ≡ true = ap₂ is_cube (sym st.side ∙ side) (sym st.why ∙ why) in
        let hit = left_hits row (arena_of added) added new cubes s.id st.note st.there cube live in
        rw open_new (λ clause j.
        ⊎_elim
        (λ before. is clause before)
        (λ last. subst (λ c. (l : Literal) × Contains c l × Contains s.row l) (sym (contains_one row clause last))
        (rw st.row hit))
        (Contains-append_cases (open_clauses old) (row ∷ []) clause j))

    filter_input : filter keep (steps_of with_input) ≡ filter keep (steps_of old) ++ input ∷ []
    filter_input = ap (filter keep) steps_input ∙ filter_push keep (steps_of old) input (ap is_some first_stays.1)

    -- the two steps stand
    row_first : row_of new first ≡ row
    row_first =
        ap literals_of (cubes.others first (ap is_some first_stays.1)).row
        ∙ ⊎_elim (λ same. ap (λ (d : State). row_of d first) same.2)
        (λ more. ap literals_of (more.1.others first (ap is_some input_there)).row) adds.reduction.cases
        ∙ adds.input.has_row

    input_stands : IsStepOf new first Exists row frame
    input_stands = record {
      step = ap may_be_antecedent first_stays.1;
      has_side = ap side_in first_stays.1;
      has_row =
          row_first;
      has_tag = ap tag_in first_stays.1;
    }

    second_stays : SameStep added new second
    second_stays =
        let live : is_live new second ≡ true =
        ⊎_elim
        (λ same. ap (is_live new) same.1 ∙ ap is_some first_stays.1)
        (λ more.
        ⊎_elim (λ f. absurd
        (over_stays row (arena_of added) added.notes second (note_over with_input first (ReducedFrom first)) first
        more.1.there refl first_stays.0 f.0))
        (λ k. ap is_some (k.1 ∙ more.1.there))
        (cubes.exactly.steps second))
        adds.reduction.cases in
        cubes.others second live

    second_is_step : is_step added second ≡ true
    second_is_step =
        ⊎_elim (λ same. ap (is_step added) same.1 ∙ ap may_be_antecedent note_first)
        (λ more. ap may_be_antecedent more.1.there) adds.reduction.cases

    reduction_stands : IsStepOf new second Exists (reduce Exists scopes row) frame
    reduction_stands =
        record {
          step = ap may_be_antecedent second_stays.note ∙ second_is_step;
          has_side = ap side_in second_stays.note ∙ adds.reduction.has_side ∙ ap side_in input_there;
          has_row = ap literals_of second_stays.row ∙ adds.reduction.has_row;
          has_tag = ap tag_in second_stays.note ∙ adds.reduction.has_tag ∙ ap tag_in input_there;
        }

    pub inputs_clause : InputsClause scopes old new first second frame row
    inputs_clause = record {
      added = added;
      adds = adds;
      cubes = cubes;
      input = input_stands;
      reduction =
          reduction_stands;
    }

    -- steps of the side of clauses stay
    pub clauses_kept : ((id : ℕ) (note : Note) → note_at added id ≡ Some note → note.side ≡ Exists
        → note_at new id ≡ Some note) → (id : ℕ) (note : Note) → note_at old id ≡ Some note → note.side ≡ Exists
        → SameStep old new id
    clauses_kept stays id note there side =
        let input = adds.input.others id (ap is_some there) in
        let both : SameStep old added id =
        ⊎_elim (λ same. rw same.2 input)
        (λ more.
        let last = more.1.others id (ap is_some (input.note ∙ there)) in
        record { note = last.note ∙ input.note; row = last.row ∙ input.row })
        adds.reduction.cases in
        let live = stays id note (both.note ∙ there) side in
        let final = cubes.others id (ap is_some live) in
        record { note = final.note ∙ both.note; row = final.row ∙ both.row }

    -- what was live is there with the clause
    there_still : (id : ℕ) → IsTrue (is_live old id) → SameStep old added id
    there_still id live =
        let input = adds.input.others id live in
        ⊎_elim (λ same. rw same.2 input)
        (λ more.
        let last = more.1.others id (ap is_some input.note ∙ live) in
        record { note = last.note ∙ input.note; row = last.row ∙ input.row })
        adds.reduction.cases

    -- it falls where it would have fallen before
    falls_before : AreSupported old.notes → (id : ℕ) → IsTrue (is_live old id) → Falls (misses row (arena_of added))
        added.notes id → Falls (misses row (arena_of old)) old.notes id
    falls_before supported id live (root j note there r) =
        let same = there_still id live in
        root id note (sym same.note ∙ there)
        (sym (misses_same row (arena_of old) (arena_of added) id note (ap literals_of same.row)) ∙ r)
    falls_before supported id live (rests j on note there r falls) =
        let was : note_at old id ≡ Some note = sym (there_still id live).note ∙ there in
        let a = (supported id note was).antecedents on r in
        rests id on note was r (falls_before supported on (ap is_some a.there) falls)

    pub stays_live : AreSupported old.notes → (id : ℕ) → IsTrue (is_live old id)
        → (Falls (misses row (arena_of old)) old.notes id → ⊥) → IsTrue (is_live new id)
    stays_live supported id live stands =
        ⊎_elim (λ f. absurd (stands (falls_before supported id live f.0)))
        (λ k. ap is_some (k.1 ∙ (there_still id live).note) ∙ live)
        (cubes.exactly.steps id)

    module _ (is_row : IsRow scopes row) (legal : IsLegalFor scopes old) where
      old_kept : IsDerivation scopes (open_clauses new) (filter keep (steps_of old))
      old_kept =
          changed_derivation scopes scopes (open_clauses old) (open_clauses new) (filter keep (steps_of old))
          (extends_itself scopes)
          (λ s i why. let p = filter_at keep (steps_of old) s i in input_kept s p.0 p.1 why s.side refl
          (given_input scopes (open_clauses old) (steps_of old) s s.why why (legal.legal s p.0)))
          (kept_derivation scopes (open_clauses old) (steps_of old) keep closed_old legal)

      input_legal : IsDerivation scopes (open_clauses new) (filter keep (steps_of with_input))
      input_legal =
          rw filter_input
          (one_more_step scopes (open_clauses new) (filter keep (steps_of old)) input old_kept
          (λ s i. rw adds.input.is_next ((stands_at old s (filter_at keep (steps_of old) s i).0).given))
          is_row (rw open_new (contains_last (open_clauses old) row)))

      module _ (differs : reduce Exists scopes row ≢ row_of with_input first)
          (second_adds : Adds with_input added second (note_over with_input first (ReducedFrom first))
          (reduce Exists scopes row)) where
        abbrev reduction : Step
        reduction = record {
          id = second;
          side = side_at with_input first;
          row = reduce Exists scopes row;
          why =
              ReducedFrom first;
        }

        side_first : side_at with_input first ≡ Exists
        side_first = ap side_in input_there

        reduction_stays : keep reduction ≡ true
        reduction_stays =
            let there = second_adds.there in
            ⊎_elim (λ f. absurd
            (over_stays row (arena_of added) added.notes second (note_over with_input first (ReducedFrom first)) first
            there refl first_stays.0 f.0))
            (λ k. ap is_some (k.1 ∙ there))
            (cubes.exactly.steps second)

        both_legal : IsDerivation scopes (open_clauses new) (filter keep (steps_of added))
        both_legal =
            rw (second_adds.steps, filter_push keep (steps_of with_input) reduction reduction_stays)
            (one_more_step scopes (open_clauses new) (filter keep (steps_of with_input)) reduction input_legal
            (λ s i. rw second_adds.is_next
            ((stands_at with_input s (filter_at keep (steps_of with_input) s i).0).given))
            (reduce_row Exists scopes row is_row)
            (record {
              from = record {
                step = input;
                stands = rw filter_input (contains_last (filter keep (steps_of old)) input);
                is = refl;
                earlier = rw second_adds.is_next first_given;
                one_side = sym side_first;
              };
              removes = λ e. differs (e ∙ sym adds.input.has_row);
              result = ap (λ side. reduce side scopes row) (sym side_first);
            }))

      pub legal_input : IsLegalFor scopes new
      legal_input =
          rw cubes.left
          (⊎_elim (λ same. rw same.2 input_legal) (λ more. both_legal more.0 more.1) adds.reduction.cases)
