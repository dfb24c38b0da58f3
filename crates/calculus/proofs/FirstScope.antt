-- On variables of the first scope the rule reads the last step of a proof alone.
use Rattle.std.proofs.Common.{◌≡◌, ℕ, Bool, true, false, cond, List, [], ◌∷◌, ◌++◌, Contains, Option, Some, None, is_some, option_map, sym, refl, ap, ◌∙◌, ⊎_elim, nat_eq}
use Rattle.std.proofs.lemmas.Bool.{cases_Bool, cond_both, cond-true, cond-false, eq-eqb, eqb-true, true≢false}
use Rattle.prefix.specs.Literal.{Literal}
use Rattle.prefix.specs.Scopes.{Scope}
use Rattle.prefix.specs.declared.quant.Quant.{Quant}
use Rattle.truth.specs.Truth.{assumed_value}
use Rattle.calculus.specs.Derivations.{Inference, IsInference, IsLegalAfter, Reason}
use Rattle.calculus.specs.Derivations.Reason.{Input, One, Two}
use Rattle.calculus.specs.Plays.{first_forced, first_of_two, forced, forced_by}
use Rattle.calculus.specs.Rows.{Assignment, Row, bad_choice, depth_of, is_bad_throughout, literal_over, reduce}
use Rattle.calculus.proofs.Sound.{IsSound}
use Rattle.calculus.proofs.RowLemmas.{over_at, over_from, reduction_removes}
use Rattle.calculus.proofs.Verdict.{option_cases}

not_mentioned : (row : Row) (x : ℕ) (l : Literal) → Contains row l → l.variable ≡ x
    → is_some (literal_over row x) ≡ false → ⊥
not_mentioned row x l j e f = let s = over_from row l j in true≢false (ap is_some (sym s.1 ∙ ap (literal_over row) e)
    ∙ f)

probed : (x y : ℕ) → y ≡ x → assumed_value (record { variable = x; positive = true } ∷ []) y ≡ None → ⊥
probed x y e none = absurd (let some : assumed_value (record { variable = x; positive = true } ∷ []) y ≡ Some true =
    cond-true (nat_eq x y) (Some true) None (eq-eqb x y (sym e)) in let g : Some true ≡ None = sym some ∙ none in cc)

probed_level : (scopes : List Scope) (x : ℕ) → depth_of scopes x ≡ 1 → (y : ℕ) (b : Bool)
    → assumed_value (record { variable = x; positive = true } ∷ []) y ≡ Some b → depth_of scopes y ≡ 1
probed_level scopes x first y b e =
    ⊎_elim (λ t. ap (depth_of scopes) (sym (eqb-true x y t)) ∙ first)
    (λ f. absurd (let g : None ≡ Some b = sym (cond-false (nat_eq x y) (Some true) None f) ∙ e in cc))
    (cases_Bool (nat_eq x y))

-- no reduction removes a literal of the first scope
module _ (pivot : Quant) (scopes : List Scope) (values : Assignment) (x : ℕ) (first : depth_of scopes x ≡ 1) where
  reduction_forces_none : (before after : Row) → after ≡ reduce pivot scopes before → forced_by pivot values x before
      after ≡ None
  reduction_forces_none before after is =
      let removal = reduction_removes pivot scopes (record { variable = x; positive = true } ∷ []) before
      (probed_level scopes x first) in
      let found = option_map (bad_choice pivot) (literal_over before x) in
      cond_both (is_some (literal_over after x)) None (cond (is_bad_throughout pivot values after) found None)
      (λ o. o ≡ None) (λ t. refl)
      (λ f. ⊎_elim
      (λ n. let gone : found ≡ None = ap (option_map (bad_choice pivot)) n in
      cond_both (is_bad_throughout pivot values after) found None (λ o. o ≡ None) (λ t. gone) (λ g. refl))
      (λ r.
      let at = over_at before x r.0 r.1 in
      let out : Contains (reduce pivot scopes before) r.0 → ⊥ = λ j. not_mentioned after x r.0 (rw is j) at.1 f in
      absurd (probed x r.0.variable at.1 (removal.unassumed r.0 at.0 out)))
      (option_cases (literal_over before x)))

  legal_forces_none : (clauses earlier : List Row) (row : Row) (reason : Reason) → IsInference pivot scopes clauses
      earlier row reason → forced pivot values x row reason ≡ None
  legal_forces_none clauses earlier row Input step = refl
  legal_forces_none clauses earlier row (One before) step = reduction_forces_none before row step.2
  legal_forces_none clauses earlier row (Two a b y) step = refl

  last_alone : (clauses earlier : List Row) (front : List Inference) (last : Inference)
      → IsLegalAfter pivot scopes clauses earlier front → first_forced pivot values x (front ++ last ∷ []) ≡ forced
      pivot values x last.row last.reason
  last_alone clauses earlier [] last legal = or_none (forced pivot values x last.row last.reason)
    where
      or_none : (o : Option Bool) → first_of_two o None ≡ o
      or_none None = refl
      or_none (Some b) = refl
  last_alone clauses earlier (s ∷ front) last legal =
      ap (λ o. first_of_two o (first_forced pivot values x (front ++ last ∷ [])))
      (legal_forces_none clauses earlier s.row s.reason legal.1)
      ∙ last_alone clauses (s.row ∷ earlier) front last legal.2

pub first_scope_value : (pivot : Quant) (scopes : List Scope) (clauses : List Row) (assumptions : List Literal)
    (steps : List Inference) (proof : IsSound pivot scopes clauses assumptions steps) (values : Assignment) (x : ℕ)
    → depth_of scopes x ≡ 1 → first_forced pivot values x steps ≡ forced pivot values x proof.last.row proof.last.reason
first_scope_value pivot scopes clauses assumptions steps proof values x first =
    ap (first_forced pivot values x) proof.parts ∙ last_alone pivot scopes values x first clauses [] proof.front
    proof.last proof.legal
