-- Clauses that come in at once, each with its reduction.
use Rattle.std.proofs.Common.{◌≡◌, ◌≢◌, ℕ, ◌≤◌, ◌<◌, Bool, true, List, [], ◌∷◌, ◌++◌, length, map, filter, Contains, IsTrue, Option, Some, None, is_some, get_or, take, append_assoc, sym, refl, ap, ap₂, subst, ◌∙◌, inl, inr, ⊎_elim, arith}
use Rattle.std.specs.List.{All}
use Rattle.std.proofs.lemmas.Bool.{cases_Bool, cond-false, false≢true}
use Rattle.std.proofs.lemmas.List.{append-nil, length_push, map_push, map-append}
use Rattle.std.proofs.lemmas.List.Elements.{All-contains, Contains-append_cases, Contains-append_left, Contains-append_right, Contains-push_cases}
use lib.Seq.{take-append_seam}
use Rattle.prefix.specs.declared.quant.Quant.{Quant}
use Rattle.prefix.specs.declared.quant.Quant.TheVariants.{Exists, Forall}
use Rattle.prefix.specs.Scopes.{Scope}
use Rattle.rows.specs.Arena.{StoredRow, links_of, literals_of, row_at as stored_at}
use Rattle.calculus.specs.Rows.{Row, IsRow, reduce}
use Rattle.calculus.specs.Derivations.{Step, IsDerivation, IsInput, IsClosed}
use Rattle.calculus.specs.Derivations.Why.{Given, ReducedFrom}
use Rattle.calculus.proofs.Lists.{contains_head, contains_nil, filter_at}
use Rattle.calculus.proofs.StepLemmas.{kept_derivation, one_more_step}
use Rattle.calculus.proofs.Changes.{changed_derivation, extends_itself}
use Rattle.calculus.proofs.RowLaws.{reduce_row}
use Rattle.derive.specs.State.{Note, State, SameStep, IsLegalFor, OpenClause, arena_of, clauses_of, open_clauses, is_live, is_step, may_be_antecedent, next_id, note_at, note_in, row_of, side_at, side_in, steps_of, tag_in, why_in}
use Rattle.derive.specs.Antecedents.{AreSupported}
use Rattle.derive.specs.Adding.{Adds, AddsClause, IsReductionOf, clause_note, note_over}
use Rattle.derive.specs.Cubes.{misses_one}
use Rattle.derive.specs.Dropping.{Drops, Falls, StepTest, is_cube}
use Rattle.derive.specs.Dropping.Falls.{root, rests}
use Rattle.derive.specs.Growing.{AreUnlinked, Grows}
use Rattle.derive.specs.Inputs.{AddsClauses, GainsClauses, InputsClauses, IsWhole, ListsAll, ListsOne}
use Rattle.derive.specs.Inputs.AddsClauses.{no_clause, one_more}
use Rattle.derive.proofs.Legality.{stands_at, contains_last, given_input}
use Rattle.derive.proofs.Additions.{live_below}
use Rattle.derive.proofs.Drops.{clause_side_stays, clauses_same, closed_left, left_hits_all}
use Rattle.derive.proofs.Growth.{grows_by_removal, grows_by_step, grows_itself, grows_twice, same_unlinked}
use Rattle.derive.proofs.Falling.{some_is}
use Rattle.derive.proofs.Inputs.{clauses_more, filter_push}
use Rattle.derive.proofs.Missed.{cubes_missing_one, misses_one_same}

-- steps that stay, one after the other
pub same_then : (first middle last : State) (id : ℕ) → SameStep first middle id → SameStep middle last id
    → SameStep first last id
same_then first middle last id one two = record { note = two.note ∙ one.note; row = two.row ∙ one.row }

live_step : (o : Option Note) → may_be_antecedent o ≡ true → is_some o ≡ true
live_step None is = absurd (false≢true is)
live_step (Some note) is = refl

-- a step of the side of clauses has a note that tells so
pub clause_noted : (o : Option Note) → may_be_antecedent o ≡ true → side_in o ≡ Exists
    → (n : Note) × (o ≡ Some n) × (n.side ≡ Exists)
clause_noted None step side = absurd (false≢true step)
clause_noted (Some n) step side = (n, refl, side)

-- a reduction that stays is that of the same clause
pub reduction_stays : (scopes : List Scope) (old new : State) (c : OpenClause) (id : ℕ) → SameStep old new id
    → IsReductionOf scopes old c id → IsReductionOf scopes new c id
reduction_stays scopes old new c id same r = record {
  step = ap may_be_antecedent same.note ∙ r.step;
  of_side = ap side_in same.note ∙ r.of_side;
  literals = ap literals_of same.row ∙ r.literals;
  tag = ap tag_in same.note ∙ r.tag;
  rests = ⊎_elim inl (λ w. inr (ap why_in same.note ∙ w)) r.rests;
}

-- one clause
module _ (scopes : List Scope) (old new : State) (first second frame : ℕ) (row : Row)
    (adds : AddsClause scopes old new first second frame row) where
  abbrev clause : OpenClause
  clause = record { id = first; frame = frame; row = row }

  pub grown_one : Grows old new
  grown_one =
      grows_by_removal old adds.with_input new second first (ReducedFrom first) (reduce Exists scopes row)
      (grows_by_step old old adds.with_input first (clause_note frame) row (grows_itself old) adds.input)
      adds.reduction

  pub fresh_one : next_id old ≤ first
  fresh_one = let e = adds.input.is_next in omega arith

  second_step : is_step new second ≡ true
  second_step =
      ⊎_elim
      (λ same. ap (λ (d : State). is_step d second) same.2
      ∙ (ap (is_step adds.with_input) same.1 ∙ ap may_be_antecedent adds.input.there))
      (λ more. ap may_be_antecedent more.1.there)
      adds.reduction.cases

  pub reduction_one : IsReductionOf scopes new clause second
  reduction_one = record {
    step = second_step;
    of_side = adds.reduction.has_side ∙ ap side_in adds.input.there;
    literals = adds.reduction.has_row;
    tag = adds.reduction.has_tag ∙ ap tag_in adds.input.there;
    rests = adds.reduction.rests;
  }

-- all of them
pub grown_all : (scopes : List Scope) (frame : ℕ) (old new : State) (rows : List Row) (ids : List ℕ)
    → AddsClauses scopes frame old new rows ids → Grows old new
grown_all scopes frame old new rows ids no_clause = grows_itself old
grown_all scopes frame old new rows ids (one_more middle _ before row earlier first second chain adds) =
    grows_twice old middle new (grown_all scopes frame old middle before earlier chain)
    (grown_one scopes middle new first second frame row adds)

-- the open clauses, and their reductions
pub gained_all : (scopes : List Scope) (frame : ℕ) (old new : State) (rows : List Row) (ids : List ℕ)
    → AddsClauses scopes frame old new rows ids → GainsClauses scopes frame old new rows ids
gained_all scopes frame old new rows ids no_clause = record {
  added = [];
  clauses = sym (append-nil (clauses_of old));
  has_rows = refl;
  of_frame = λ c at. absurd (contains_nil c at);
  fresh = λ c at. absurd (contains_nil c at);
  reductions = λ c at. absurd (contains_nil c at);
  none_else = λ id at. absurd (contains_nil id at);
  count = refl;
}
gained_all scopes frame old new rows ids (one_more middle _ before row earlier first second chain adds) =
    gained_more (gained_all scopes frame old middle before earlier chain)
  where
    gained_more : GainsClauses scopes frame old middle before earlier
        → GainsClauses scopes frame old new (before ++ row ∷ []) (earlier ++ second ∷ [])
    gained_more g =
        let c : OpenClause = record { id = first; frame = frame; row = row } in
        let one = reduction_one scopes middle new first second frame row adds in
        record {
          added = g.added ++ c ∷ [];
          clauses = clauses_more scopes middle new first second frame row adds
              ∙ (ap (λ cs. cs ++ c ∷ []) g.clauses ∙ append_assoc (clauses_of old) g.added (c ∷ []));
          has_rows = map_push (λ (x : OpenClause). x.row) g.added c ∙ ap (λ rs. rs ++ row ∷ []) g.has_rows;
          of_frame = λ x at. ⊎_elim (λ was. g.of_frame x was) (λ e. ap (λ (y : OpenClause). y.frame) (sym e))
              (Contains-push_cases g.added c x at);
          fresh =
              λ x at.
              ⊎_elim (λ was. g.fresh x was)
              (λ e. subst (λ (y : OpenClause). next_id old ≤ y.id) e
              (let longer = (grown_all scopes frame old middle before earlier chain).longer in
              let low = fresh_one scopes middle new first second frame row adds in omega arith))
              (Contains-push_cases g.added c x at);
          reductions =
              λ x at.
              ⊎_elim
              (λ was. let r = g.reductions x was in
              (r.0, Contains-append_left earlier (second ∷ []) r.0 r.1, still x r.0 r.2))
              (λ e. (
                second,
                Contains-append_right earlier (second ∷ []) second (contains_head second []),
                subst
                    (λ (y : OpenClause). IsReductionOf scopes new y second) e one,
              ))
              (Contains-push_cases g.added c x at);
          none_else =
              λ id at.
              ⊎_elim
              (λ was. let r = g.none_else id was in
              (r.0, Contains-append_left g.added (c ∷ []) r.0 r.1, still r.0 id r.2))
              (λ e. (
                c,
                Contains-append_right g.added (c ∷ []) c (contains_head c []),
                subst
                    (λ i. IsReductionOf scopes new c i) e one,
              ))
              (Contains-push_cases earlier second id at);
          count = let a = length_push earlier second in let b = length_push before row in let same = g.count in
              omega arith;
        }
      where
        still : (x : OpenClause) (id : ℕ) → IsReductionOf scopes middle x id → IsReductionOf scopes new x id
        still x id r =
            reduction_stays scopes middle new x id
            ((grown_one scopes middle new first second frame row adds).others id
            (live_step (note_at middle id) r.step)) r

-- nothing comes in where there is no clause
pub none_entered : (scopes : List Scope) (frame : ℕ) (old new : State) (rows : List Row) (ids : List ℕ)
    → AddsClauses scopes frame old new rows ids → rows ≡ [] → new ≡ old
none_entered scopes frame old new rows ids no_clause none = refl
none_entered scopes frame old new rows ids (one_more middle _ before row earlier first second chain adds) none =
    absurd (let long = length_push before row in let empty : length (before ++ row ∷ []) ≡ 0 = ap length none in
    omega arith)

-- the steps of before are there still
more_steps : (scopes : List Scope) (old new : State) (first second frame : ℕ) (row : Row)
    → AddsClause scopes old new first second frame row → (s : Step) → Contains (steps_of old) s
    → Contains (steps_of new) s
more_steps scopes old new first second frame row adds s at =
    let there : Contains (steps_of adds.with_input) s = rw adds.input.steps
    (Contains-append_left (steps_of old) _ s at) in
    ⊎_elim (λ same. rw same.2 there)
    (λ more. rw more.1.steps (Contains-append_left (steps_of adds.with_input) _ s there))
    adds.reduction.cases

all_steps : (scopes : List Scope) (frame : ℕ) (old new : State) (rows : List Row) (ids : List ℕ)
    → AddsClauses scopes frame old new rows ids → (s : Step) → Contains (steps_of old) s → Contains (steps_of new) s
all_steps scopes frame old new rows ids no_clause s at = at
all_steps scopes frame old new rows ids (one_more middle _ before row earlier first second chain adds) s at =
    more_steps scopes middle new first second frame row adds s
    (all_steps scopes frame old middle before earlier chain s at)

-- rows without links, one after the other
pub unlinked_then : (first middle last : State) → AreUnlinked first middle → Grows middle last
    → AreUnlinked middle last → AreUnlinked first last
unlinked_then first middle last one grows two id k dead =
    ⊎_elim
    (λ live. ap (λ (s : Option StoredRow). get_or (links_of s) k None) (grows.others id live).row ∙ one id k dead)
    (λ gone. two id k gone)
    (cases_Bool (is_live middle id))

-- one clause more, and the id of its reduction listed
pub listed_more : (scopes : List Scope) (frame : ℕ) (old middle new : State) (rows : List Row) (row : Row)
    (listed before now : List ℕ) → ListsAll scopes frame old middle rows listed before
    → ListsOne scopes frame middle new row before now → ListsAll scopes frame old new (rows ++ row ∷ []) listed now
listed_more scopes frame old middle new rows row listed before now all one = record {
  ids = all.ids ++ one.second ∷ [];
  adds = one_more middle new rows row all.ids one.first one.second all.adds one.adds;
  unlinked = unlinked_then old middle new all.unlinked
      (grown_one scopes middle new one.first one.second frame row one.adds) one.unlinked;
  lists = one.lists ∙ (ap (λ ids. ids ++ one.second ∷ []) all.lists ∙ append_assoc listed all.ids (one.second ∷ []));
}

pub listed_none : (scopes : List Scope) (frame : ℕ) (d : State) (listed : List ℕ) → AreUnlinked d d
    → ListsAll scopes frame d d [] listed listed
listed_none scopes frame d listed unlinked =
    record { ids = []; adds = no_clause; unlinked = unlinked; lists = sym (append-nil listed) }

-- no link is there where nothing came in
pub unlinked_itself : (d : State) → IsWhole d → AreUnlinked d d
unlinked_itself d whole = let a = some_is d.rows whole.rows_here in same_unlinked d a.0 a.1 (whole.fits a.0 a.1)

-- what was listed is so still
pub listed_front : (scopes : List Scope) (frame : ℕ) (old new : State) (rows : List Row) (listed now : List ℕ)
    → ListsAll scopes frame old new rows listed now → take (length listed) now ≡ listed
listed_front scopes frame old new rows listed now all = ap (λ (ids : List ℕ). take (length listed) ids) all.lists
    ∙ take-append_seam listed all.ids

-- and then the cubes that miss one of the clauses go
module _ (scopes : List Scope) (frame : ℕ) (old new added : State) (rows : List Row) (ids : List ℕ)
    (adds : AddsClauses scopes frame old added rows ids) (supported : AreSupported added.notes)
    (cubes : Drops (misses_one rows (arena_of added)) added new) where
  abbrev test : StepTest
  test = misses_one rows (arena_of added)

  grown : Grows old added
  grown = grown_all scopes frame old added rows ids adds

  -- steps of the side of clauses stay
  clause_stays : (id : ℕ) (note : Note) → note_at added id ≡ Some note → note.side ≡ Exists → SameStep added new id
  clause_stays id note there side =
      cubes.others id (ap is_some
      (clause_side_stays test added new
      (cubes_missing_one rows (arena_of added)) supported cubes id note there side))

  pub all_kept : (id : ℕ) (note : Note) → note_at old id ≡ Some note → note.side ≡ Exists → SameStep old new id
  all_kept id note there side =
      let first = grown.others id (ap is_some there) in
      same_then old added new id first (clause_stays id note (first.note ∙ there) side)

  pub all_others : (id : ℕ) → IsTrue (is_live old id) → IsTrue (is_live new id) → SameStep old new id
  all_others id was is = same_then old added new id (grown.others id was) (cubes.others id is)

  -- what falls would have fallen before
  falls_before : (id : ℕ) → IsTrue (is_live old id) → Falls test added.notes id
      → Falls (misses_one rows (arena_of old)) old.notes id
  falls_before id live (root j note there r) =
      let same = grown.others id live in
      root id note (sym same.note ∙ there)
      (sym (misses_one_same rows (arena_of old) (arena_of added) id note (ap literals_of same.row)) ∙ r)
  falls_before id live (rests j on note there r falls) =
      let before : note_at old id ≡ Some note = sym (grown.others id live).note ∙ there in
      let a = (supported id note there).antecedents on r in
      let given = live_below old.notes id live in
      let earlier = a.earlier in
      rests id on note before r (falls_before on (sym (grown.given on (omega arith)) ∙ ap is_some a.there) falls)

  pub all_stay : (id : ℕ) → IsTrue (is_live old id) → (Falls (misses_one rows (arena_of old)) old.notes id → ⊥)
      → IsTrue (is_live new id)
  all_stay id live stands =
      ⊎_elim (λ f. absurd (stands (falls_before id live f.0)))
      (λ k. ap is_some (k.1 ∙ (grown.others id live).note) ∙ live)
      (cubes.exactly.steps id)

  pub all_unlinked : AreUnlinked old added → AreUnlinked old new
  all_unlinked before id k dead =
      ⊎_elim
      (λ live. ap (λ (s : Option StoredRow). get_or (links_of s) k None) (cubes.others id live).row ∙ before id k dead)
      (λ gone. ap (λ (s : Option StoredRow). get_or (links_of s) k None)
      (cubes.exactly.rows id ∙ cond-false (is_some (note_in new.notes id)) (stored_at (arena_of added) id) None gone))
      (cases_Bool (is_live new id))

  -- the open clauses, and their reductions
  reduction_left : (c : OpenClause) (id : ℕ) → IsReductionOf scopes added c id → IsReductionOf scopes new c id
  reduction_left c id r =
      let n = clause_noted (note_at added id) r.step r.of_side in
      reduction_stays scopes added new c id (clause_stays id n.0 n.1 n.2) r

  abbrev g : GainsClauses scopes frame old added rows ids
  g = gained_all scopes frame old added rows ids adds

  clauses_new : clauses_of new ≡ clauses_of old ++ g.added
  clauses_new = clauses_same test added new cubes (λ c. refl) ∙ g.clauses

  pub all_gained : GainsClauses scopes frame old new rows ids
  all_gained = record {
    added = g.added;
    clauses = clauses_new;
    has_rows = g.has_rows;
    of_frame = g.of_frame;
    fresh = g.fresh;
    reductions = λ c at. let r = g.reductions c at in (r.0, r.1, reduction_left c r.0 r.2);
    none_else = λ id at. let r = g.none_else id at in (r.0, r.1, reduction_left r.0 id r.2);
    count = g.count;
  }

  pub all_input : (listed now : List ℕ) → now ≡ listed ++ ids → InputsClauses scopes frame old new rows listed now
  all_input listed now lists =
      record { ids = ids; lists = lists; added = added; adds = adds; cubes = cubes; gains = all_gained }

  -- each step is legal
  abbrev keep : Step → Bool
  keep s = is_live new s.id

  open_new : open_clauses new ≡ open_clauses old ++ rows
  open_new =
      ap (map (λ (c : OpenClause). c.row)) clauses_new
      ∙ (map-append (λ (c : OpenClause). c.row) (clauses_of old) g.added ∙ ap (λ rs. open_clauses old ++ rs) g.has_rows)

  closed_old : IsClosed keep (steps_of old)
  closed_old s t i j =
      closed_left test added new cubes.has_rows cubes.exactly s t (all_steps scopes frame old added rows ids adds s i)
      (all_steps scopes frame old added rows ids adds t j)

  -- the old inputs fit the new clauses, since the cubes that are left hit the new ones
  input_kept : (s : Step) → Contains (steps_of old) s → keep s ≡ true → s.why ≡ Given → (side : Quant) → s.side ≡ side
      → IsInput side (open_clauses old) s.row → IsInput side (open_clauses new) s.row
  input_kept s i live why Exists side is = rw open_new (Contains-append_left (open_clauses old) rows s.row is)
  input_kept s i live why Forall side is =
      let st = stands_at added s (all_steps scopes frame old added rows ids adds s i) in
      let cube : is_cube st.note.side st.note.why ≡ true = ap₂ is_cube (sym st.side ∙ side) (sym st.why ∙ why) in
      rw open_new (λ clause j.
      ⊎_elim
      (λ before. is clause before)
      (λ last. rw st.row (left_hits_all rows
      (arena_of added) added new cubes s.id st.note st.there cube live clause last))
      (Contains-append_cases (open_clauses old) rows clause j))

  module _ (are_rows : All (IsRow scopes) rows) (legal : IsLegalFor scopes old) where
    old_kept : IsDerivation scopes (open_clauses new) (filter keep (steps_of old))
    old_kept =
        changed_derivation scopes scopes (open_clauses old) (open_clauses new) (filter keep (steps_of old))
        (extends_itself scopes)
        (λ s i why. let p = filter_at keep (steps_of old) s i in input_kept s p.0 p.1 why s.side refl
        (given_input scopes (open_clauses old) (steps_of old) s s.why why (legal.legal s p.0)))
        (kept_derivation scopes (open_clauses old) (steps_of old) keep closed_old legal)

    -- with one clause more
    module _ (before now : State) (first second : ℕ) (row : Row)
        (one : AddsClause scopes before now first second frame row) (grows : Grows now added)
        (among : Contains rows row)
        (so_far : IsDerivation scopes (open_clauses new) (filter keep (steps_of before))) where
      abbrev with_input : State
      with_input = one.with_input

      abbrev input : Step
      input = record { id = first; side = Exists; row = row; why = Given }

      first_given : first < next_id with_input
      first_given = live_below with_input.notes first (ap is_some one.input.there)

      first_now : note_at now first ≡ Some (clause_note frame)
      first_now =
          ⊎_elim (λ same. ap (λ (d : State). note_at d first) same.2 ∙ one.input.there)
          (λ more. (more.1.others first (ap is_some one.input.there)).note ∙ one.input.there)
          one.reduction.cases

      first_kept : keep input ≡ true
      first_kept =
          let there = (grows.others first (ap is_some first_now)).note ∙ first_now in
          ap is_some ((clause_stays first (clause_note frame) there refl).note ∙ there)

      is_row : IsRow scopes row
      is_row = All-contains (IsRow scopes) rows row are_rows among

      filter_input : filter keep (steps_of with_input) ≡ filter keep (steps_of before) ++ input ∷ []
      filter_input = ap (filter keep) one.input.steps ∙ filter_push keep (steps_of before) input first_kept

      input_legal : IsDerivation scopes (open_clauses new) (filter keep (steps_of with_input))
      input_legal =
          rw filter_input
          (one_more_step scopes (open_clauses new) (filter keep (steps_of before)) input so_far
          (λ s i. rw one.input.is_next ((stands_at before s (filter_at keep (steps_of before) s i).0).given))
          is_row (rw open_new (Contains-append_right (open_clauses old) rows row among)))

      module _ (differs : reduce Exists scopes row ≢ row_of with_input first)
          (second_adds : Adds with_input now second (note_over with_input first (ReducedFrom first))
          (reduce Exists scopes row)) where
        abbrev reduction : Step
        reduction = record {
          id = second;
          side = side_at with_input first;
          row = reduce Exists scopes row;
          why =
              ReducedFrom first;
        }

        side_first : side_at with_input first ≡ Exists
        side_first = ap side_in one.input.there

        second_kept : keep reduction ≡ true
        second_kept =
            let there = (grows.others second (ap is_some second_adds.there)).note ∙ second_adds.there in
            ap is_some ((clause_stays second (note_over with_input first (ReducedFrom first)) there side_first).note
            ∙ there)

        both_legal : IsDerivation scopes (open_clauses new) (filter keep (steps_of now))
        both_legal =
            rw (second_adds.steps, filter_push keep (steps_of with_input) reduction second_kept)
            (one_more_step scopes (open_clauses new) (filter keep (steps_of with_input)) reduction input_legal
            (λ s i. rw second_adds.is_next
            ((stands_at with_input s (filter_at keep (steps_of with_input) s i).0).given))
            (reduce_row Exists scopes row is_row)
            (record {
              from = record {
                step = input;
                stands = rw filter_input
                    (contains_last (filter keep (steps_of before)) input);
                is = refl;
                earlier =
                    rw second_adds.is_next first_given;
                one_side = sym side_first;
              };
              removes = λ e. differs (e ∙ sym one.input.has_row);
              result = ap (λ side. reduce side scopes row) (sym side_first);
            }))

      legal_one : IsDerivation scopes (open_clauses new) (filter keep (steps_of now))
      legal_one = ⊎_elim (λ same. rw same.2 input_legal) (λ more. both_legal more.0 more.1) one.reduction.cases

    legal_so_far : (now : State) (some : List Row) (their : List ℕ) → AddsClauses scopes frame old now some their
        → Grows now added → ((row : Row) → Contains some row → Contains rows row)
        → IsDerivation scopes (open_clauses new) (filter keep (steps_of now))
    legal_so_far now some their no_clause grows among = old_kept
    legal_so_far now some their (one_more middle _ before row earlier first second chain one) grows among =
        legal_one middle now first second row one grows
        (among row (Contains-append_right before (row ∷ []) row (contains_head row [])))
        (legal_so_far middle before earlier chain
        (grows_twice middle now added (grown_one scopes middle now first second frame row one) grows)
        (λ r at. among r (Contains-append_left before (row ∷ []) r at)))

    pub all_legal : IsLegalFor scopes new
    all_legal = rw cubes.left (legal_so_far added rows ids adds (grows_itself added) (λ r at. at))
