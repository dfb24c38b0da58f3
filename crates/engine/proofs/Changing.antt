-- What stays of an engine where its formula changes, or where it doesn't.
use Rattle.std.proofs.Common.{◌≡◌, ◌≤◌, ◌<◌, ◌⊎◌, ℕ, ◌+◌, ◌-◌, Bool, true, false, not, ◌||◌, List, [], ◌∷◌, length, Option, Some, None, Result, Ok, Err, IsTrue, IfSome, arith, refl, sym, ap, ap₂, ◌∙◌, subst, ⊎_elim, inl, inr, ◌++◌, length-append}
use Rattle.std.specs.Prelude.{Contains, filter, ◌==◌, if◌then◌else◌, is_some, MatchOption, IsOk, IsOkUnless, OnOk, is_ok}
use Rattle.std.specs.List.{AllByRecursion}
use Rattle.std.specs.Option.{option_map}
use Rattle.std.proofs.lemmas.List.{length-take-le}
use Rattle.std.proofs.lemmas.Bool.Decides.{nat_tests}
use Rattle.std.proofs.lemmas.Bool.{eqb-true, or_cases}
use Rattle.prefix.specs.declared.quant.Quant.{Quant}
use Rattle.prefix.specs.declared.refusal.PrefixRefusal.{PrefixRefusal}
use Rattle.prefix.specs.Literal.{Literal}
use Rattle.prefix.specs.Refusals.{scope_refusal, variable_refusal}
use Rattle.prefix.specs.Scopes.{Scope, all_variables, is_among, level_of, place_of, with_scope, with_variable_at}
use Rattle.prefix.proofs.ScopeLemmas.{all_variables-insert, is_among-all_variables-with}
use Rattle.calculus.specs.Derivations.{Extends, Inference, Step}
use Rattle.calculus.specs.DerivationTheorems.{PrefixesGrow}
use Rattle.calculus.specs.Rows.{IsRow, Row}
use Rattle.calculus.specs.Verdicts.{IsEndRow, finished, proof_of, relevant_of}
use Rattle.calculus.proofs.Lists.{among_at, among_from, contains_nil}
use Rattle.derive.specs.Dropping.{is_outside, mentions}
use Rattle.derive.specs.State.{Note, Notes, OpenClause, State, clauses_of, is_finish, is_live, may_be_antecedent, note_at, note_in, row_of, side_at, side_in, why_at, why_in}
use Rattle.frames.specs.declared.refusal.FrameRefusal.{FrameRefusal}
use Rattle.frames.specs.declared.refusal.FrameRefusal.TheVariants.{AssumptionsHeld, GroupOpen, Limit, NoFrame, NoMemory}
use Rattle.frames.specs.State.{Frame, OpenFormula, clauses_in, depth, empty_frame, leaves_in, popped, pushed, with_leaving, with_variable}
use Rattle.frames.specs.Commands.{Activate, AddScope, AddVariable, CloseGroup, Deactivate, OpenGroup, Pop, Push, first_of, formula_after, is_empty, max_pushed, prefix_refusals, refusal_of, with_row_at}
use Rattle.frames.specs.Groups.{clauses_at, grouped_in, is_active, with_clause_at, with_group, with_mark}
use Rattle.step_core.specs.Cores.{IsFinishAt, end_row_in, proof_at, step_under}
use Rattle.search.specs.Changing.{AddsClause, AddsClauses, IsRoomy, RestingGrows, StaysResting}
use Rattle.search.specs.Finishes.{GainsNoFinish}
use Rattle.search.specs.Counting.{size_of}
use Rattle.search.specs.Forcing.{HasNoCubes}
use Rattle.search.specs.Long.{long_in}
use Rattle.search.specs.Moves.{SameSteps}
use Rattle.search.specs.State.{HasRoom, IsResting, SearchState}
use Rattle.search.proofs.Reducing.{steps_same}
use Rattle.search.proofs.Tallying.{tally_none}
use Rattle.engine.specs.declared.counts.Counts.{Counts}
use Rattle.engine.specs.declared.verdict.Held.{Held}
use Rattle.engine.specs.declared.verdict.Verdict.{Verdict}
use Rattle.engine.specs.Marks.{AreMarked}
use Rattle.engine.specs.Kept.{AddsIn, AreTied, HasFinishesOf, IsEngine, IsFound, IsHeld, group_tag, joined_tag, tag_for, tagged_rows, under}
use Rattle.engine.specs.State.{VerdictState}
use Rattle.engine.specs.Verdicts.{told}
use Rattle.engine.proofs.Framing.{active_opened, all_tagged, apart, dropped_marked, grown_none, is_left, marked_same, other_frames, other_groups, put_marked, rising_grown, rising_marked, rising_opened, rows_gone, rows_leaving, rows_pushed, rows_stay, some_with_leaving, some_with_row, tagged_grown, tagged_with_row, under_added, under_frames, under_left, under_top}
use Rattle.engine.proofs.Marking.{rows_inside}

-- refusals

-- what is accepted wasn't refused
pub accepted : (o : Option FrameRefusal) (r : Result (Unit {0}) FrameRefusal) (u : Unit {0}) → r ≡ Ok u
    → MatchOption o (IsOkUnless r NoMemory) (λ e. r ≡ Err e) → o ≡ None
accepted None r u is m = refl
accepted (Some e) r u is m = absurd (let f : Ok u ≡ Err e = sym is ∙ m in cc)

prefix_accepts : (held : Bool) (o : Option PrefixRefusal)
    → (if held then Some AssumptionsHeld else first_of (prefix_refusals o)) ≡ None → o ≡ None
prefix_accepts true o e = absurd (let f : Some AssumptionsHeld ≡ None = e in cc)
prefix_accepts false None e = refl
prefix_accepts false (Some r) e =
    absurd (let f : is_some (first_of (prefix_refusals (Some r))) ≡ false = ap is_some e in cc)

scope_place : (scopes : List Scope) (at : Option ℕ) → scope_refusal scopes at ≡ None
    → place_of scopes at ≤ length scopes
scope_place scopes None e = omega arith
scope_place scopes (Some n) e = grind (arith, nat_tests)

pub scope_fits : (f : OpenFormula) (quant : Quant) (at : Option ℕ) → refusal_of f (AddScope quant at) ≡ None
    → place_of f.scopes at ≤ length f.scopes
scope_fits f quant at e =
    scope_place f.scopes at (prefix_accepts (not (is_empty f.assumptions)) (scope_refusal f.scopes at) e)

variable_place : (scopes : List Scope) (var scope : ℕ) → variable_refusal scopes var scope ≡ None
    → (scope - 1 < length scopes) × (level_of scopes var ≡ None)
variable_place scopes var scope e = by (level_of scopes var) refl
  where
    by : (o : Option ℕ) → level_of scopes var ≡ o → (scope - 1 < length scopes) × (level_of scopes var ≡ None)
    by None l = (grind (arith, nat_tests), l)
    by (Some n) l = absurd (grind (arith, nat_tests))

pub variable_fits : (f : OpenFormula) (var scope : ℕ) → refusal_of f (AddVariable var scope) ≡ None
    → (scope - 1 < length f.scopes) × (level_of f.scopes var ≡ None)
variable_fits f var scope e =
    variable_place f.scopes var scope (prefix_accepts (not (is_empty f.assumptions))
    (variable_refusal f.scopes var scope) e)

-- prefixes

pub grown : (f : OpenFormula) (scopes : List Scope) (s : SearchState) → AreTied f s → Extends f.scopes scopes
    → HasRoom scopes s → RestingGrows → AreTied (record f { scopes = scopes }) s
grown f scopes s tied extends room grows = record {
  resting = grows f.scopes scopes s extends room tied.resting;
  frames = tied.frames;
  few = tied.few;
  rising = tied.rising;
  clauses = tied.clauses;
}

pub scope_added : (f : OpenFormula) (s : SearchState) (quant : Quant) (at : Option ℕ) → AreTied f s
    → refusal_of f (AddScope quant at) ≡ None → PrefixesGrow → RestingGrows
    → AreTied (formula_after f (AddScope quant at)) s
scope_added f s quant at tied accepts prefixes grows =
    let fits = scope_fits f quant at accepts in
    let same : all_variables (with_scope f.scopes quant at) ≡ all_variables f.scopes =
    all_variables-insert f.scopes (place_of f.scopes at) quant fits in
    let room = tied.resting.intact.room in
    grown f (with_scope f.scopes quant at) s tied (prefixes.scope f.scopes quant at fits)
    (record {
      trail = λ x i. room.trail x (subst (λ vs. Contains vs x) same i);
      signs = λ x i. room.signs x (subst (λ vs. Contains vs x) same i);
    })
    grows

pub reserved : (f : OpenFormula) (old new : SearchState) → StaysResting old new → new.derivation ≡ old.derivation
    → AreTied f old → AreTied f new
reserved f old new stays same tied = record {
  resting = stays f.scopes tied.resting;
  frames = tied.frames;
  few = tied.few;
  rising = tied.rising;
  clauses = λ tag. ap (λ (d : State). under tag (clauses_of d)) same ∙ tied.clauses tag;
}

one_of : (scopes : List Scope) (n v x : ℕ) → n < length scopes
    → Contains (all_variables (with_variable_at scopes n v)) x → (v ≡ x) ⊎ Contains (all_variables scopes) x
one_of scopes n v x within i =
    let among : (v == x || is_among x (all_variables scopes)) ≡ true =
    sym (is_among-all_variables-with scopes n v x within)
    ∙ among_from (all_variables (with_variable_at scopes n v)) x i in
    ⊎_elim (λ t. inl (eqb-true v x t)) (λ t. inr (among_at (all_variables scopes) x t))
    (or_cases (v == x) (is_among x (all_variables scopes)) among)

listed : (f : OpenFormula) (scopes : List Scope) (var : ℕ) (s : SearchState) → AreTied (record f { scopes = scopes }) s
    → AreTied (record f { scopes = scopes; frames = with_variable f.version var f.frames }) s
listed f scopes var s tied = by (leaves_in f.version (depth f.frames))
  where
    by : (b : Bool) → AreTied (record f {
      scopes = scopes;
      frames = if b then with_leaving var f.frames else f.frames;
    }) s
    by false = record {
      resting = tied.resting;
      frames = tied.frames;
      few = tied.few;
      rising = tied.rising;
      clauses = tied.clauses;
    }
    by true = record {
      resting = tied.resting;
      frames = let same = some_with_leaving var f.frames in let some = tied.frames in omega (arith, same, some);
      few = let same = some_with_leaving var f.frames in let few = tied.few in omega (arith, same, few);
      rising = tied.rising;
      clauses = λ tag. tied.clauses tag
          ∙ sym (other_frames f (with_leaving var f.frames) tag (rows_leaving var f.frames tag));
    }

pub variable_added : (f : OpenFormula) (s : SearchState) (var scope : ℕ) → AreTied f s → IsRoomy var s
    → refusal_of f (AddVariable var scope) ≡ None → PrefixesGrow → RestingGrows
    → AreTied (formula_after f (AddVariable var scope)) s
variable_added f s var scope tied roomy accepts prefixes grows =
    let fits = variable_fits f var scope accepts in
    let room = tied.resting.intact.room in
    let one = λ (x : ℕ). one_of f.scopes (scope - 1) var x fits.0 in
    listed f (with_variable_at f.scopes (scope - 1) var) var s
    (grown f (with_variable_at f.scopes (scope - 1) var) s tied
    (prefixes.variable f.scopes (scope - 1) var fits.0 fits.1)
    (record {
      trail = λ x i. ⊎_elim (λ e. roomy.trail x (omega (arith, e))) (λ j. room.trail x j) (one x i);
      signs = λ x i. ⊎_elim (λ e. roomy.signs x (omega (arith, e))) (λ j. room.signs x j) (one x i);
    })
    grows)

-- assumptions

pub without_assumptions : (f : OpenFormula) (s : SearchState) → AreTied f s → AreTied (record f { assumptions = [] }) s
without_assumptions f s tied = record {
  resting = tied.resting;
  frames = tied.frames;
  few = tied.few;
  rising = tied.rising;
  clauses = tied.clauses;
}

pub found_without : (f : OpenFormula) (d : State) (assumptions : List Literal) (v : Verdict)
    → IsFound f d assumptions v → IsFound (record f { assumptions = [] }) d assumptions v
found_without f d assumptions v found = record {
  outer = found.outer;
  ascending = found.ascending;
  outcome = found.outcome;
}

-- frames

push_fits : (held : Bool) (n : ℕ) → first_of ((held, GroupOpen) ∷ (n == max_pushed, Limit) ∷ []) ≡ None
    → (n == max_pushed) ≡ false
push_fits true n e = absurd (let f : Some GroupOpen ≡ None = e in cc)
push_fits false n e = by (n == max_pushed) e
  where
    by : (b : Bool) → first_of ((b, Limit) ∷ []) ≡ None → b ≡ false
    by true e = absurd (let f : Some Limit ≡ None = e in cc)
    by false e = refl

pub frame_pushed : (f : OpenFormula) (s : SearchState) → AreTied f s → refusal_of f Push ≡ None
    → AreTied (formula_after f Push) s
frame_pushed f s tied accepts = record {
  resting = tied.resting;
  frames = let count : length (pushed f.frames) ≡ length f.frames + 1 =
      length-append f.frames (empty_frame ∷ []) in omega (arith, count);
  few =
      let count : length (pushed f.frames) ≡ length f.frames + 1 = length-append f.frames (empty_frame ∷ []) in
      let below = push_fits (is_some f.current) (depth f.frames) accepts in
      let few = tied.few in
      let some = tied.frames in
      let less : depth f.frames < max_pushed = not_most (depth f.frames) max_pushed below few in
      omega (arith, count, less, some);
  rising = tied.rising;
  clauses = λ tag. tied.clauses tag ∙ sym (other_frames f (pushed f.frames) tag (rows_pushed f.frames tag));
}
  where
    not_most : (n most : ℕ) → (n == most) ≡ false → n ≤ most → n < most
    not_most n most e low = grind (arith, nat_tests)

pop_fits : (frames : List Frame) → first_of ((depth frames == 0, NoFrame) ∷ []) ≡ None → 1 ≤ length (popped frames)
pop_fits frames e =
    let deep : 2 ≤ length frames = by (depth frames == 0) refl e in
    let count : length (popped frames) ≡ length frames - 1 = length-take-le (length frames - 1) frames (omega arith) in
    omega (arith, count, deep)
  where
    by : (b : Bool) → (depth frames == 0) ≡ b → first_of ((b, NoFrame) ∷ []) ≡ None → 2 ≤ length frames
    by true t n = absurd (let g : Some NoFrame ≡ None = n in cc)
    by false t n = grind (arith, nat_tests)

pub frame_popped : (f : OpenFormula) (old new : SearchState) → AreTied f old → refusal_of f Pop ≡ None
    → IsResting (formula_after f Pop).scopes new
    → AllByRecursion (IsRow (formula_after f Pop).scopes) (clauses_in (popped f.frames))
    → AllByRecursion (IsRow (formula_after f Pop).scopes) (grouped_in f.groups)
    → clauses_of new.derivation ≡ filter (is_left (depth f.frames) (mentions (is_outside (formula_after f Pop).scopes)))
    (clauses_of old.derivation) → AreTied (formula_after f Pop) new
frame_popped f old new tied accepts resting rows grouped clauses = record {
  resting = resting;
  frames = pop_fits f.frames accepts;
  few =
      let count : length (popped f.frames) ≡ length f.frames - 1 =
      length-take-le (length f.frames - 1) f.frames (omega arith) in
      let few = tied.few in omega (arith, count, few);
  rising = tied.rising;
  clauses = λ tag. ap (under tag) clauses ∙ at tag (tag == depth f.frames) refl;
}
  where
    after : OpenFormula
    after = formula_after f Pop

    test : Row → Bool
    test = mentions (is_outside after.scopes)

    inside : (tag : ℕ) → AllByRecursion (λ (row : Row). test row ≡ false) (tagged_rows after tag)
    inside tag = all_tagged (λ (row : Row). test row ≡ false) after tag
        (rows_inside after.scopes (clauses_in after.frames) rows)
        (rows_inside after.scopes (grouped_in after.groups) grouped)

    at : (tag : ℕ) (b : Bool) → (tag == depth f.frames) ≡ b
        → under tag (filter (is_left (depth f.frames) test) (clauses_of old.derivation)) ≡ tagged_rows after tag
    at tag true e =
        let same : tag ≡ depth f.frames = eqb-true tag (depth f.frames) e in
        let low : tag ≤ max_pushed = (let few = tied.few in omega (arith, same, few)) in
        ap (λ top. under tag (filter (is_left top test) (clauses_of old.derivation))) (sym same)
        ∙ under_top tag test (clauses_of old.derivation)
        ∙ sym (under_frames after tag low ∙ rows_gone f.frames tag same)
    at tag false e =
        let stay : tagged_rows f tag ≡ tagged_rows after tag =
        sym (other_frames f (popped f.frames) tag (rows_stay f.frames tag tied.frames (apart tag (depth f.frames) e)))
        in
        let all = subst (AllByRecursion (λ (row : Row). test row ≡ false)) (sym (tied.clauses tag ∙ stay))
        (inside tag) in
        under_left tag (depth f.frames) test (clauses_of old.derivation) e all ∙ tied.clauses tag ∙ stay

-- clauses

-- the tag under which an accepted clause stands, if it is open
abbrev pub AreAdded : OpenFormula → SearchState → SearchState → Row → Type 0
AreAdded f old new row = AddsIn (joined_tag f) row (clauses_of old.derivation) (clauses_of new.derivation)

pub row_added : (f : OpenFormula) (old new : SearchState) (row : Row) → AreTied f old → IsResting f.scopes new
    → AreAdded f old new row → AreTied (with_row_at f.current row f) new
row_added f old new row tied resting adds = by f.current refl
  where
    none : (clauses_of new.derivation ≡ clauses_of old.derivation) → (n : ℕ) → is_active f.groups n ≡ false
        → AreTied (with_row_at (Some n) row f) new
    none same n off = record {
      resting = resting;
      frames = tied.frames;
      few = tied.few;
      rising = rising_grown row n f.groups tied.rising;
      clauses = λ tag. ap (under tag) same ∙ tied.clauses tag
          ∙ sym (other_groups f (with_clause_at row n f.groups) tag (λ m. grown_none row n m f.groups off));
    }

    group : (n : ℕ) → is_active f.groups n ≡ true
        → AddsClause (group_tag n) row (clauses_of old.derivation) (clauses_of new.derivation)
        → AreTied (with_row_at (Some n) row f) new
    group n on one = record {
      resting = resting;
      frames = tied.frames;
      few = tied.few;
      rising = rising_grown row n f.groups tied.rising;
      clauses = λ tag. under_added (group_tag n) tag row (clauses_of old.derivation) (clauses_of new.derivation) one
          ∙ ap (λ rs. if group_tag n == tag then rs ++ row ∷ [] else rs) (tied.clauses tag)
          ∙ sym (tagged_grown f n row on tag);
    }

    frame : AddsClause (depth f.frames) row (clauses_of old.derivation) (clauses_of new.derivation)
        → AreTied (with_row_at None row f) new
    frame one = record {
      resting = resting;
      frames = let count = some_with_row row f.frames in let some = tied.frames in omega (arith, count, some);
      few = let count = some_with_row row f.frames in let few = tied.few in omega (arith, count, few);
      rising = tied.rising;
      clauses = λ tag. under_added (depth f.frames) tag row (clauses_of old.derivation) (clauses_of new.derivation) one
          ∙ ap (λ rs. if depth f.frames == tag then rs ++ row ∷ [] else rs) (tied.clauses tag)
          ∙ sym (tagged_with_row f row tied.frames tied.few tag);
    }

    by : (o : Option ℕ) → f.current ≡ o → AreTied (with_row_at o row f) new
    by None e = frame (subst (λ o. AddsIn o row (clauses_of old.derivation) (clauses_of new.derivation))
        (ap (tag_for f) e) adds)
    by (Some n) e = turned (is_active f.groups n) refl
        (subst (λ o. AddsIn o row (clauses_of old.derivation) (clauses_of new.derivation)) (ap (tag_for f) e) adds)
      where
        turned : (b : Bool) → is_active f.groups n ≡ b
            → AddsIn (if b then Some (group_tag n) else None) row (clauses_of old.derivation)
            (clauses_of new.derivation)
            → AreTied (with_row_at (Some n) row f) new
        turned true on one = group n on one
        turned false off same = none same n off

-- groups

pub group_opened : (f : OpenFormula) (s : SearchState) (n : ℕ) → AreTied f s → AreTied (formula_after f (OpenGroup n)) s
group_opened f s n tied = record {
  resting = tied.resting;
  frames = tied.frames;
  few = tied.few;
  rising = rising_opened n f.groups tied.rising;
  clauses = λ tag. tied.clauses tag
      ∙ sym (other_groups f (with_group n f.groups) tag (λ m. active_opened n f.groups m tied.rising));
}

pub group_closed : (f : OpenFormula) (s : SearchState) → AreTied f s → AreTied (formula_after f CloseGroup) s
group_closed f s tied = record {
  resting = tied.resting;
  frames = tied.frames;
  few = tied.few;
  rising = tied.rising;
  clauses = tied.clauses;
}

pub group_dropped : (f : OpenFormula) (old new : SearchState) (n : ℕ) → AreTied f old → IsResting f.scopes new
    → clauses_of new.derivation ≡ filter (λ (c : OpenClause). not (c.frame == group_tag n)) (clauses_of old.derivation)
    → AreTied (formula_after f (Deactivate n)) new
group_dropped f old new n tied resting clauses = record {
  resting = resting;
  frames = tied.frames;
  few = tied.few;
  rising = rising_marked false n f.groups tied.rising;
  clauses = λ tag. ap (under tag) clauses ∙ dropped_marked f n (clauses_of old.derivation) tied.clauses tag;
}

-- where a group is made active, its clauses are put in, unless it was active
pub group_put : (f : OpenFormula) (old new : SearchState) (n : ℕ) → AreTied f old → IsResting f.scopes new
    → is_active f.groups n ≡ false
    → AddsClauses (group_tag n) (clauses_at f.groups n) (clauses_of old.derivation) (clauses_of new.derivation)
    → AreTied (formula_after f (Activate n)) new
group_put f old new n tied resting off adds = record {
  resting = resting;
  frames = tied.frames;
  few = tied.few;
  rising = rising_marked true n f.groups tied.rising;
  clauses = put_marked f n (clauses_of old.derivation) (clauses_of new.derivation) tied.clauses off adds;
}

pub group_stays : (f : OpenFormula) (s : SearchState) (n : ℕ) → AreTied f s → is_active f.groups n ≡ true
    → AreTied (formula_after f (Activate n)) s
group_stays f s n tied on = record {
  resting = tied.resting;
  frames = tied.frames;
  few = tied.few;
  rising = rising_marked true n f.groups tied.rising;
  clauses = λ tag. tied.clauses tag
      ∙ sym (other_groups f (with_mark true n f.groups) tag (λ m. marked_same true n f.groups m on));
}

-- where no new finish comes

pub finishes_stay : (d e : State) (v : Option Held) → GainsNoFinish d e → HasFinishesOf v d → HasFinishesOf v e
finishes_stay d e None gains has = λ id is. has id (gains id is)
finishes_stay d e (Some held) gains has = λ id is. has id (gains id is)

-- the same steps tell the same

module _ (d e : State) (same : SameSteps d e) where
  note_kept : (id : ℕ) → note_at e id ≡ note_at d id
  note_kept id = ap (λ (notes : Notes). note_in notes id) same.notes

  under_kept : (id : ℕ) → step_under e id ≡ step_under d id
  under_kept id = ap₂ (λ (row : Row) (note : Option Note).
      record { id = id; side = side_in note; row = row; why = why_in note }) (same.literals id) (note_kept id)

  proof_kept : (assumptions : List Literal) (end : ℕ) → proof_at e assumptions end ≡ proof_at d assumptions end
  proof_kept assumptions end =
      let step : step_under e (end_row_in (why_at e end) end) ≡ step_under d (end_row_in (why_at d end) end)
      = ap (λ note. step_under e (end_row_in (why_in note) end)) (note_kept end)
      ∙ under_kept (end_row_in (why_at d end) end) in
      ap₂ (λ (steps : List Step) (s : Step). proof_of steps s assumptions) (steps_same d e same) step

  told_kept : (held : Held) → told e held ≡ told d held
  told_kept held =
      ap₂ (λ (proof : List Inference) (row : Row). record {
        truth = held.verdict.truth;
        assumptions = held.assumed;
        proof = proof;
        end = held.verdict.end;
        row = row;
        kept = held.kept;
      })
      (proof_kept held.assumed held.verdict.end) (same.literals held.verdict.end)

  pub verdict_kept : (v : Option Held) → option_map (told e) v ≡ option_map (told d) v
  verdict_kept None = refl
  verdict_kept (Some held) = ap Some (told_kept held)

  finish_kept : (scopes : List Scope) (assumptions : List Literal) (end : ℕ) → IsFinishAt scopes assumptions d end
      → IsFinishAt scopes assumptions e end
  finish_kept scopes assumptions end f = record {
    before = f.before;
    step = subst (λ note. IsTrue (may_be_antecedent note)) (sym (note_kept f.before)) f.step;
    end_row = subst (λ note. IsEndRow (side_in note) scopes assumptions (row_of e f.before)) (sym (note_kept f.before))
        (subst (λ row. IsEndRow (side_at d f.before) scopes assumptions row) (sym (same.literals f.before)) f.end_row);
    finish = same.literals end ∙ f.finish ∙ ap (finished assumptions) (sym (same.literals f.before));
    stands = ⊎_elim (λ x. inl x)
        (λ r. inr (ap why_in (note_kept end) ∙ r.0, λ g. r.1 (sym (same.literals end) ∙ g ∙ same.literals f.before)))
        f.stands;
  }

  found_kept : (f : OpenFormula) (assumptions : List Literal) (v : Verdict) → IsFound f d assumptions v
      → IsFound f e assumptions v
  found_kept f assumptions v found = record {
    outer = found.outer;
    ascending = found.ascending;
    outcome = record {
      truth = found.outcome.truth;
      live = subst (λ note. IsTrue (is_some note)) (sym (note_kept v.end)) found.outcome.live;
      of_side = ap side_in (note_kept v.end) ∙ found.outcome.of_side;
      finish = finish_kept f.scopes assumptions v.end found.outcome.finish;
    };
  }

  pub held_kept : (f : OpenFormula) (v : Option Held) → IfSome v (IsHeld f d) → IfSome v (IsHeld f e)
  held_kept f None held = tt
  held_kept f (Some v) held = record {
    found = found_kept f v.assumed v.verdict held.found;
    relevant = held.relevant ∙ ap (relevant_of v.assumed) (sym (same.literals v.verdict.end));
  }

  pub finishes_kept : (v : Option Held) → HasFinishesOf v d → HasFinishesOf v e
  finishes_kept v has = finishes_stay d e v (λ id. subst (λ note. IsTrue (is_finish (why_in note))) (note_kept id)) has

pub cubes_kept : (old new : SearchState) → new.watched ≡ old.watched → new.derivation ≡ old.derivation
    → HasNoCubes old → HasNoCubes new
cubes_kept old new watched derivation none id i live =
    ap (λ (d : State). side_at d id) derivation
    ∙ none id (subst (λ ids. Contains ids id) watched i) (subst (λ (d : State). IsTrue (is_live d id)) derivation live)

-- an engine whose search has more room
pub roomier : (f : OpenFormula) (old new : SearchState) (v : Option Held) (counts : Counts) (marks : List ℕ)
    → StaysResting old new → new.derivation ≡ old.derivation → new.watched ≡ old.watched
    → IsEngine f old v counts marks → IsEngine f new v counts marks
roomier f old new v counts marks stays same watched is = record {
  tied = reserved f old new stays same is.tied;
  held = subst (λ (d : State). IfSome v (IsHeld f d)) (sym same) is.held;
  finishes = subst (HasFinishesOf v) (sym same) is.finishes;
  cubes = λ none. cubes_kept old new watched same (is.cubes none);
  reductions = rw same is.reductions;
  variables = is.variables;
  long = subst (λ (d : State). IfSome v (λ (h : Held). long_in d ≤ h.kept + 1 + size_of f.scopes)) (sym same) is.long;
  marked = subst (AreMarked f.frames marks f.scopes) (sym same) is.marked;
}

-- the variable that a refusal's absence gives
pub variable_is : (o : Option FrameRefusal) (r : Result ℕ FrameRefusal) (v var : ℕ) → r ≡ Ok v
    → MatchOption o (r ≡ Ok var) (λ e. r ≡ Err e) → v ≡ var
variable_is None r v var is m = let f : Ok v ≡ Ok var = sym is ∙ m in cc
variable_is (Some e) r v var is m = absurd (let f : Ok v ≡ Err e = sym is ∙ m in cc)

-- the same where no memory is taken
pub accepted_pop : (o : Option FrameRefusal) (r : Result (Unit {0}) FrameRefusal) (u : Unit {0}) → r ≡ Ok u
    → MatchOption o (IsOk r) (λ e. r ≡ Err e) → o ≡ None
accepted_pop None r u is m = refl
accepted_pop (Some e) r u is m = absurd (let f : Ok u ≡ Err e = sym is ∙ m in cc)

pub on_ok_at : {T E : Type 0} (r : Result T E) (P : Type 0) → is_ok r ≡ true → OnOk r P → P
on_ok_at (Ok x) P e p = p
on_ok_at (Err x) P e p = absurd (cc)

-- what a group's turn ensures where it was asked before whether it is allowed
pub turned : (o : Option FrameRefusal) (may : Result ℕ FrameRefusal) (n m : ℕ) (r : Result (Unit {0}) FrameRefusal)
    (P : Type 0) → may ≡ Ok n → MatchOption o (may ≡ Ok m) (λ e. may ≡ Err e)
    → MatchOption o (IsOk r) (λ e. r ≡ Err e) → OnOk r P → P
turned None may n m r P was asked turns ok = on_ok_at r P turns ok
turned (Some e) may n m r P was asked turns ok = absurd (let f : Ok n ≡ Err e = sym was ∙ asked in cc)

-- nothing refuses a group's turn that was found to be allowed
pub turn_allowed : (o : Option FrameRefusal) (may : Result ℕ FrameRefusal) (n m : ℕ) → may ≡ Ok n
    → MatchOption o (may ≡ Ok m) (λ e. may ≡ Err e) → o ≡ None
turn_allowed None may n m was asked = refl
turn_allowed (Some e) may n m was asked = absurd (let f : Ok n ≡ Err e = sym was ∙ asked in cc)

-- long learned rows

-- none is attached where no row is to be watched
pub none_long : (s : SearchState) → IsResting [] s → s.watched ≡ [] → s.long ≡ 0
none_long s resting none =
    let watched = resting.intact.watched in
    resting.tallied ∙ tally_none s.derivation (λ id. ⊎_elim (λ u. u)
    (λ a. absurd (contains_nil id (subst (λ ids. Contains ids id) none (watched.listed a.0 id a.1))))
    (watched.marked id))

-- with a verdict they are few, also where it is told
pub long_told : (v : Option Held) (d : State) (m n : ℕ) → m ≡ long_in d
    → IfSome v (λ (h : Held). long_in d ≤ h.kept + 1 + n)
    → IfSome (option_map (told d) v) (λ (w : VerdictState). m ≤ w.kept + 1 + n)
long_told None d m n same few = tt
long_told (Some held) d m n same few = omega (arith, same, few)

-- with fewer of them
pub fewer_long : (v : Option Held) (d e : State) (n : ℕ) → long_in e ≤ long_in d
    → IfSome v (λ (h : Held). long_in d ≤ h.kept + 1 + n) → IfSome v (λ (h : Held). long_in e ≤ h.kept + 1 + n)
fewer_long None d e n fewer few = tt
fewer_long (Some held) d e n fewer few = omega arith
