-- A legal list stays legal with its input steps first.
use Rattle.std.proofs.Common.{◌≡◌, true, not, List, [], ◌∷◌, ◌++◌, filter, Contains, ap, ⊎_elim}
use Rattle.std.proofs.lemmas.Bool.{cases_Bool, cond-true, cond-false}
use Rattle.prefix.specs.Scopes.{Scope}
use Rattle.prefix.specs.declared.quant.Quant.{Quant}
use Rattle.calculus.specs.Derivations.{Inference, IsInference, IsLegal, IsLegalAfter, Reason, core_order, is_input}
use Rattle.calculus.specs.Derivations.Reason.{Input, One, Two}
use Rattle.calculus.specs.Rows.{Row}
use Rattle.calculus.proofs.Lists.{contains_cons, contains_nil, contains_head, contains_tail}

module _ (pivot : Quant) (scopes : List Scope) (clauses : List Row) where
  step_with_more : (earlier more : List Row) (row : Row) (reason : Reason)
      → ((r : Row) → Contains earlier r → Contains more r) → IsInference pivot scopes clauses earlier row reason
      → IsInference pivot scopes clauses more row reason
  step_with_more earlier more row Input within step = step
  step_with_more earlier more row (One before) within step = (within before step.0, step.1, step.2)
  step_with_more earlier more row (Two a b x) within step = record {
    earlier_positive = within a step.earlier_positive;
    earlier_negative = within b step.earlier_negative;
    has_positive = step.has_positive;
    has_negative = step.has_negative;
    is_pivot_variable = step.is_pivot_variable;
    no_clash = step.no_clash;
    result = step.result;
  }

  input_anywhere : (earlier more : List Row) (row : Row) (reason : Reason) → is_input reason ≡ true
      → IsInference pivot scopes clauses earlier row reason → IsInference pivot scopes clauses more row reason
  input_anywhere earlier more row Input t step = step
  input_anywhere earlier more row (One before) t step = absurd (cc)
  input_anywhere earlier more row (Two a b x) t step = absurd (cc)

  abbrev inputs_of : List Inference → List Inference
  inputs_of steps = filter (λ (s : Inference). is_input s.reason) steps

  abbrev others_of : List Inference → List Inference
  others_of steps = filter (λ (s : Inference). not (is_input s.reason)) steps

  others_legal : (earlier more : List Row) (steps : List Inference) → ((r : Row) → Contains earlier r → Contains more r)
      → ((s : Inference) → Contains (inputs_of steps) s → Contains more s.row) → IsLegalAfter pivot scopes clauses
      earlier steps → IsLegalAfter pivot scopes clauses more (others_of steps)
  others_legal earlier more [] within has legal = tt
  others_legal earlier more (s ∷ steps) within has legal =
      ⊎_elim
      (λ t.
      let skip : others_of (s ∷ steps) ≡ others_of steps = cond-false (not (is_input s.reason)) (s ∷ others_of steps)
      (others_of steps) (ap not t) in
      let first : inputs_of (s ∷ steps) ≡ s ∷ inputs_of steps = cond-true (is_input s.reason) (s ∷ inputs_of steps)
      (inputs_of steps) t in
      rw skip (others_legal (s.row ∷ earlier) more steps
      (λ r i. ⊎_elim (λ e. rw (← e) (has s (rw first (contains_head s (inputs_of steps))))) (λ j. within r j)
      (contains_cons s.row earlier r i))
      (λ u i. has u (rw first (contains_tail s (inputs_of steps) u i)))
      legal.2))
      (λ f.
      let keep : others_of (s ∷ steps) ≡ s ∷ others_of steps = cond-true (not (is_input s.reason)) (s ∷ others_of steps)
      (others_of steps) (ap not f) in
      let rest : inputs_of (s ∷ steps) ≡ inputs_of steps = cond-false (is_input s.reason) (s ∷ inputs_of steps)
      (inputs_of steps) f in
      rw keep (
        legal.0,
        step_with_more earlier more s.row s.reason within legal.1,
        others_legal (s.row ∷ earlier) (s.row ∷ more) steps
            (λ r i. ⊎_elim (λ e. rw e (contains_head r more)) (λ j. contains_tail s.row more r (within r j))
            (contains_cons s.row earlier r i))
            (λ u i. contains_tail s.row more u.row (has u (rw rest i)))
            legal.2,
      ))
      (cases_Bool (is_input s.reason))

  inputs_then : (earlier more : List Row) (steps rest : List Inference) → IsLegalAfter pivot scopes clauses earlier
      steps
      → ((after : List Row) → ((r : Row) → Contains more r → Contains after r)
      → ((s : Inference) → Contains (inputs_of steps) s → Contains after s.row) → IsLegalAfter pivot scopes clauses
      after rest)
      → IsLegalAfter pivot scopes clauses more (inputs_of steps ++ rest)
  inputs_then earlier more [] rest legal go = go more (λ r i. i) (λ s i. absurd (contains_nil s i))
  inputs_then earlier more (s ∷ steps) rest legal go =
      ⊎_elim
      (λ t.
      let first : inputs_of (s ∷ steps) ≡ s ∷ inputs_of steps = cond-true (is_input s.reason) (s ∷ inputs_of steps)
      (inputs_of steps) t in
      rw first (
        legal.0,
        input_anywhere earlier more s.row s.reason t legal.1,
        inputs_then (s.row ∷ earlier) (s.row ∷ more) steps rest legal.2
            (λ after within has. go after (λ r i. within r (contains_tail s.row more r i))
            (λ u i. ⊎_elim (λ e. rw (← e) (within s.row (contains_head s.row more))) (λ j. has u j)
            (contains_cons s (inputs_of steps) u (rw first at i)))),
      ))
      (λ f.
      let rest_only : inputs_of (s ∷ steps) ≡ inputs_of steps = cond-false (is_input s.reason) (s ∷ inputs_of steps)
      (inputs_of steps) f in
      rw rest_only
      (inputs_then (s.row ∷ earlier) more steps rest legal.2
      (λ after within has. go after within (λ u i. has u (rw rest_only at i)))))
      (cases_Bool (is_input s.reason))

  pub core_order_legal : (steps : List Inference) → IsLegal pivot scopes clauses steps → IsLegal pivot scopes clauses
      (core_order steps)
  core_order_legal steps legal = inputs_then [] [] steps (others_of steps) legal
      (λ after within has. others_legal [] after steps (λ r i. absurd (contains_nil r i)) has legal)
