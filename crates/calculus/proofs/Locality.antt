-- What the first-falsified rule gives to a variable rests on variables of earlier scopes, and on assumed ones of the
-- same side.
use Rattle.std.proofs.Common.{◌≡◌, ◌≢◌, ℕ, ◌<◌, Bool, false, ◌&&◌, cond, List, [], ◌∷◌, Contains, Option, Some, None, is_some, option_map, sym, refl, ap, ap₂, ◌∙◌, ⊎_elim}
use Rattle.std.proofs.lemmas.Bool.{cond_both, cases_Bool, cond-true}
use Rattle.prefix.specs.Literal.{Literal}
use Rattle.prefix.specs.Scopes.{Scope, all_variables, quantifier_of}
use Rattle.prefix.specs.declared.quant.Quant.{Quant}
use Rattle.truth.specs.Truth.{assumed_value}
use Rattle.calculus.specs.Derivations.{Inference, Reason}
use Rattle.calculus.specs.Derivations.Reason.{Input, One, Two}
use Rattle.calculus.specs.Plays.{first_forced, first_of_two, forced, forced_by}
use Rattle.calculus.specs.Rows.{Assignment, IsRow, Row, bad_choice, depth_of, is_bad_at, is_bad_throughout, literal_over}
use Rattle.calculus.proofs.Sound.{AreSoundSteps, IsSoundStep}
use Rattle.calculus.proofs.Lists.{contains_head, contains_tail}
use Rattle.calculus.proofs.RowLemmas.{over_at, over_from, IsRemoval, step_removes}

bad_row_same : (pivot : Quant) (v w : Assignment) (row : Row)
    → ((k : Literal) → Contains row k → v k.variable ≡ w k.variable) → is_bad_throughout pivot v row ≡ is_bad_throughout
    pivot w row
bad_row_same pivot v w [] same = refl
bad_row_same pivot v w (l ∷ ls) same =
    ap₂ (λ a b. a && b) (ap (λ b. is_bad_at pivot b l) (same l (contains_head l ls)))
    (bad_row_same pivot v w ls (λ k i. same k (contains_tail l ls k i)))

module _ (pivot : Quant) (scopes : List Scope) (clauses : List Row) (assumptions : List Literal)
    (outer : (x : ℕ) (b : Bool) → assumed_value assumptions x ≡ Some b → depth_of scopes x ≡ 1) (v w : Assignment)
    (x : ℕ) (below : (y : ℕ) → Contains (all_variables scopes) y → depth_of scopes y < depth_of scopes x → v y ≡ w y)
    (fixed : (y : ℕ) (b : Bool) → assumed_value assumptions y ≡ Some b → quantifier_of scopes y ≢ Some pivot
    → v y ≡ w y) where
  forced_by_same : (before after : Row) → IsRow scopes after → IsRemoval pivot scopes assumptions before after
      → (o : Option Literal) → literal_over before x ≡ o → forced_by pivot v x before after ≡ forced_by pivot w x before
      after
  forced_by_same before after is_row removal None e =
      let empty : option_map (bad_choice pivot) (literal_over before x) ≡ None = ap (option_map (bad_choice pivot)) e in
      ⊎_elim (λ t. cond-true (is_some (literal_over after x)) None
      (cond (is_bad_throughout pivot v after) (option_map (bad_choice pivot) (literal_over before x)) None) t
      ∙ sym (cond-true (is_some (literal_over after x)) None
      (cond (is_bad_throughout pivot w after) (option_map (bad_choice pivot) (literal_over before x)) None) t))
      (λ f. none v ∙ sym (none w))
      (cases_Bool (is_some (literal_over after x)))
    where
      none : (u : Assignment) → forced_by pivot u x before after ≡ None
      none u = cond_both (is_some (literal_over after x)) None
          (cond (is_bad_throughout pivot u after) (option_map (bad_choice pivot) (literal_over before x)) None)
          (λ o. o ≡ None) (λ t. refl)
          (λ f. cond_both (is_bad_throughout pivot u after) (option_map (bad_choice pivot) (literal_over before x)) None
          (λ o. o ≡ None) (λ t. ap (option_map (bad_choice pivot)) e) (λ f. refl))
  forced_by_same before after is_row removal (Some l) e =
      let at = over_at before x l e in
      ⊎_elim (λ t. cond-true (is_some (literal_over after x)) None
      (cond (is_bad_throughout pivot v after) (option_map (bad_choice pivot) (literal_over before x)) None) t
      ∙ sym (cond-true (is_some (literal_over after x)) None
      (cond (is_bad_throughout pivot w after) (option_map (bad_choice pivot) (literal_over before x)) None) t))
      (λ f.
      let out : Contains after l → ⊥ = λ j. let r = over_from after l j in
      (let g : is_some (Some r.0) ≡ false = ap is_some (sym r.1 ∙ ap (literal_over after) at.1) ∙ f in absurd (cc))
      in
      let same = bad_row_same pivot v w after
      (λ k j. ⊎_elim (λ (lower : depth_of scopes k.variable < depth_of scopes l.variable). below k.variable
      (is_row.over_prefix k j) (rw at.1 at lower)) (λ r. fixed k.variable r.0 r.1 r.2)
      (removal.earlier l at.0 out k j)) in
      ap (λ b. cond (is_some (literal_over after x)) None
      (cond b (option_map (bad_choice pivot) (literal_over before x)) None)) same)
      (cases_Bool (is_some (literal_over after x)))

  forced_same : (earlier : List Row) (row : Row) (reason : Reason) → IsRow scopes row → IsSoundStep pivot scopes clauses
      assumptions earlier row reason → forced pivot v x row reason ≡ forced pivot w x row reason
  forced_same earlier row Input is_row step = refl
  forced_same earlier row (One before) is_row step = forced_by_same before row is_row
      (step_removes pivot scopes assumptions before row outer step.1) (literal_over before x) refl
  forced_same earlier row (Two a b y) is_row step = refl

  pub first_forced_same : (earlier : List Row) (steps : List Inference) → AreSoundSteps pivot scopes clauses assumptions
      earlier steps → first_forced pivot v x steps ≡ first_forced pivot w x steps
  first_forced_same earlier [] are = refl
  first_forced_same earlier (s ∷ steps) are = ap₂ first_of_two (forced_same earlier s.row s.reason are.0 are.1)
      (first_forced_same (s.row ∷ earlier) steps are.2)
