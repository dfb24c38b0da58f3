-- The row of the clause that was accepted last, where it joins the open clauses.
use Rattle.std.proofs.Common.{◌≡◌, ◌≤◌, ℕ, Bool, true, false, [], ◌∷◌, ◌++◌, length, Option, Some, None, refl, sym, ap, ◌∙◌, subst}
use Rattle.std.specs.Prelude.{◌-◌, ◌==◌, if◌then◌else◌, MatchOption, OnErr, OnOk, Result, Ok, Err}
use Rattle.std.specs.List.{AllByRecursion}
use Rattle.std.proofs.lemmas.Bool.{cond-true, eq-eqb}
use Rattle.calculus.specs.Rows.{IsRow, Row}
use Rattle.calculus.proofs.Lists.{all_behind}
use Rattle.derive.specs.State.{clauses_of}
use Rattle.frames.specs.Commands.{max_pushed, with_row_at}
use Rattle.frames.specs.Groups.{grouped_in, is_active}
use Rattle.frames.specs.State.{OpenFormula, clauses_in, depth}
use Rattle.search.specs.Changing.{AddsClause}
use Rattle.search.specs.Moves.{SameSteps}
use Rattle.search.specs.State.{IsResting, SearchState}
use Rattle.engine.specs.Kept.{AddsIn, AreTied, group_tag, joined_tag, tag_for, tagged_rows, under}
use Rattle.engine.proofs.Changing.{row_added}
use Rattle.engine.proofs.Framing.{activity_kept, all_tagged, some_with_row, tagged_grown, tagged_with_row}

-- what stood before
pub the_before : {X : Type 0} (o : Option X) (P : X → Type 0) → MatchOption o ⊥ P → (x : X) × (o ≡ Some x) × P x
the_before None P m = absurd m
the_before (Some x) P m = (x, refl, m)

pub scopes_kept : (o : Option ℕ) (row : Row) (f : OpenFormula) → (with_row_at o row f).scopes ≡ f.scopes
scopes_kept None row f = refl
scopes_kept (Some n) row f = refl

current_kept : (o : Option ℕ) (row : Row) (f : OpenFormula) → (with_row_at o row f).current ≡ f.current
current_kept None row f = refl
current_kept (Some n) row f = refl

tag_kept : (o : Option ℕ) (row : Row) (f : OpenFormula) → tag_for (with_row_at o row f) o ≡ tag_for f o
tag_kept None row f = ap Some (ap (λ n. n - 1) (some_with_row row f.frames))
tag_kept (Some n) row f = ap (λ b. if b then Some (group_tag n) else None) (activity_kept row n f.groups n)

pub joined_kept : (row : Row) (f : OpenFormula) → joined_tag (with_row_at f.current row f) ≡ joined_tag f
joined_kept row f = ap (tag_for (with_row_at f.current row f)) (current_kept f.current row f) ∙ tag_kept f.current row f

-- one that joins stands under its tag
joined_row : (f : OpenFormula) (row : Row) → 1 ≤ length f.frames → depth f.frames ≤ max_pushed
    → (o : Option ℕ) (tag : ℕ)
    → tag_for f o ≡ Some tag → tagged_rows (with_row_at o row f) tag ≡ tagged_rows f tag ++ row ∷ []
joined_row f row some few None tag e =
    let same : depth f.frames ≡ tag = cc in
    tagged_with_row f row some few tag
    ∙ cond-true (depth f.frames == tag) (tagged_rows f tag ++ row ∷ []) (tagged_rows f tag)
    (eq-eqb (depth f.frames) tag same)
joined_row f row some few (Some n) tag e = by (is_active f.groups n) refl e
  where
    by : (b : Bool) → is_active f.groups n ≡ b → (if b then Some (group_tag n) else None) ≡ Some tag
        → tagged_rows (with_row_at (Some n) row f) tag ≡ tagged_rows f tag ++ row ∷ []
    by true on at =
        let same : group_tag n ≡ tag = cc in
        tagged_grown f n row on tag
        ∙ cond-true (group_tag n == tag) (tagged_rows f tag ++ row ∷ []) (tagged_rows f tag)
        (eq-eqb (group_tag n) tag same)
    by false off at = absurd (cc)

module _ (now before : OpenFormula) (row : Row) (s : SearchState) (is : now ≡ with_row_at before.current row before)
    (tied : AreTied before s) where
  pub scopes_stay : now.scopes ≡ before.scopes
  scopes_stay = ap (λ (f : OpenFormula). f.scopes) is ∙ scopes_kept before.current row before

  pub joins : joined_tag now ≡ joined_tag before
  joins = ap joined_tag is ∙ joined_kept row before

  pub resting_still : IsResting now.scopes s
  resting_still = subst (λ scopes. IsResting scopes s) (sym scopes_stay) tied.resting

  -- it is a row, where all rows of the formula are
  pub joined_is_row : AllByRecursion (IsRow now.scopes) (clauses_in now.frames)
      → AllByRecursion (IsRow now.scopes) (grouped_in now.groups) → (tag : ℕ) → joined_tag now ≡ Some tag
      → IsRow now.scopes row
  joined_is_row rows grouped tag at =
      let all : AllByRecursion (IsRow now.scopes) (tagged_rows now tag) =
      all_tagged (IsRow now.scopes) now tag rows grouped in
      let split : tagged_rows now tag ≡ tagged_rows before tag ++ row ∷ [] =
      ap (λ (f : OpenFormula). tagged_rows f tag) is
      ∙ joined_row before row tied.frames tied.few before.current tag (sym joins ∙ at) in
      (all_behind (IsRow now.scopes) (tagged_rows before tag) (row ∷ [])
      (subst (AllByRecursion (IsRow now.scopes)) split all)).0

  pub joined_tied : (new : SearchState) (tag : ℕ) → joined_tag now ≡ Some tag → IsResting now.scopes new
      → AddsClause tag row (clauses_of s.derivation) (clauses_of new.derivation) → AreTied now new
  joined_tied new tag at resting adds = subst (λ (f : OpenFormula). AreTied f new) (sym is)
      (row_added before s new row tied (subst (λ scopes. IsResting scopes new) scopes_stay resting)
      (subst (λ o. AddsIn o row (clauses_of s.derivation) (clauses_of new.derivation)) (sym (sym joins ∙ at)) adds))

  pub aside_tied : joined_tag now ≡ None → AreTied now s
  aside_tied at = subst (λ (f : OpenFormula). AreTied f s) (sym is)
      (row_added before s s row tied tied.resting
      (subst (λ o. AddsIn o row (clauses_of s.derivation) (clauses_of s.derivation)) (sym (sym joins ∙ at)) refl))

-- the same steps are tied as before
pub same_tied : (f : OpenFormula) (old new : SearchState) → SameSteps old.derivation new.derivation
    → IsResting f.scopes new → AreTied f old → AreTied f new
same_tied f old new same resting tied = record {
  resting = resting;
  frames = tied.frames;
  few = tied.few;
  rising = tied.rising;
  clauses = λ tag. ap (under tag) same.clauses ∙ tied.clauses tag;
}

pub on_ok_map : {T E : Type 0} (r : Result T E) (P Q : Type 0) → (P → Q) → OnOk r P → OnOk r Q
on_ok_map (Ok x) P Q f p = f p
on_ok_map (Err e) P Q f p = tt

pub on_err_map : {T E : Type 0} (r : Result T E) (P Q : Type 0) → (P → Q) → OnErr r P → OnErr r Q
on_err_map (Ok x) P Q f p = tt
on_err_map (Err e) P Q f p = f p
