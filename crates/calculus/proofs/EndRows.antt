-- An end row of a legal derivation gives a proof, and decides the truth.
use Rattle.std.proofs.Common.{◌≡◌, ℕ, ◌<◌, ◌⊎◌, Bool, true, false, cond, List, [], ◌∷◌, ◌++◌, filter, Contains, Some, None, is_some, sym, refl, ap, ◌∙◌, inl, inr, ⊎_elim, nat_eq}
use Rattle.std.proofs.lemmas.Bool.{cases_Bool, cond-false, ne_eqb, eqb-true, true≢false, cond_both}
use Rattle.std.proofs.lemmas.List.Kept.{AllPairs-filter}
use Rattle.prefix.specs.Literal.{Literal}
use Rattle.prefix.specs.Scopes.{AreDistinct, Scope, all_variables}
use Rattle.prefix.specs.Sides.{bad_of}
use Rattle.prefix.specs.declared.quant.Quant.{Quant}
use Rattle.truth.specs.Truth.{assumed_value, truth_under}
use Rattle.calculus.specs.Derivations.{Inference, IsLegal, IsLegalAfter, Reason, rows_of}
use Rattle.calculus.specs.Derivations.Reason.{Input, One, Two}
use Rattle.calculus.specs.Rows.{IsRow, Row}
use Rattle.calculus.specs.Verdicts.{AreOuter, IsEndRow, IsFinish, finish_of, mentions, relevant_of}
use Rattle.calculus.proofs.Ascending.{rises, row_of}
use Rattle.calculus.proofs.Sound.{legal_step, AreSoundSteps, IsSound, IsSoundStep}
use Rattle.calculus.proofs.Lists.{contains_cons, contains_nil, contains_head, contains_tail, filter_at, filter_from, filter_same}
use Rattle.calculus.proofs.RowLemmas.{over_from, some_from}
use Rattle.calculus.proofs.Verdict.{proof_decides}

pub filter_row : (scopes : List Scope) (p : Literal → Bool) (row : Row) → IsRow scopes row → IsRow scopes (filter p row)
filter_row scopes p row is_row = row_of scopes (filter p row)
    (AllPairs-filter (λ a b. a.variable < b.variable) p row (rises is_row))
    (λ l i. is_row.over_prefix l (filter_at p row l i).0)

module _ (pivot : Quant) (scopes : List Scope) (clauses : List Row) (assumptions : List Literal) (end : Row)
    (ends : IsEndRow pivot scopes assumptions end) where
  with_finish : (earlier : List Row) (steps : List Inference) → ((r : Row) → Contains earlier r → IsRow scopes r)
      → IsLegalAfter pivot scopes clauses earlier steps → Contains earlier end ⊎ Contains (rows_of steps) end
      → AreSoundSteps pivot scopes clauses assumptions earlier (steps ++ finish_of assumptions end ∷ [])
  with_finish earlier [] are legal where_ =
      let stands : Contains earlier end = ⊎_elim (λ i. i) (λ i. absurd (contains_nil end i)) where_ in (
        filter_row scopes (λ l. is_some (assumed_value assumptions l.variable)) end (are end stands),
        (stands, inr (ends, refl)),
        tt,
      )
  with_finish earlier (s ∷ steps) are legal where_ = (
    legal.0,
    legal_step pivot scopes clauses assumptions earlier s.row s.reason legal.1,
    with_finish (s.row ∷ earlier) steps
        (λ r i. ⊎_elim (λ e. rw (← e) legal.0) (λ j. are r j) (contains_cons s.row earlier r i))
        legal.2
        (⊎_elim (λ i. inl (contains_tail s.row earlier end i))
        (λ i. ⊎_elim (λ e. inl (rw e (contains_head end earlier))) inr (contains_cons s.row (rows_of steps) end i))
        where_),
  )

  pub end_row_proof : (steps : List Inference) → IsLegal pivot scopes clauses steps → Contains (rows_of steps) end
      → IsSound pivot scopes clauses assumptions (steps ++ finish_of assumptions end ∷ [])
  end_row_proof steps legal stands = record {
    front = steps;
    last = finish_of assumptions end;
    parts = refl;
    legal = legal;
    last_step = with_finish [] steps (λ r i. absurd (contains_nil r i)) legal (inr stands);
    decided = λ l i.
        let kept = filter_at (λ l. is_some (assumed_value assumptions l.variable)) end l i in
        let r = some_from (assumed_value assumptions l.variable) kept.1 in
        (r.0, r.1, ends.bad l r.0 kept.0 r.1);
  }

pub end_row_truth : (pivot : Quant) (scopes : List Scope) (clauses : List Row) (assumptions : List Literal)
    (steps : List Inference) (end : Row) → AreDistinct (all_variables scopes) → AreOuter scopes assumptions
    → IsLegal pivot scopes clauses steps → Contains (rows_of steps) end → IsEndRow pivot scopes assumptions end
    → truth_under assumptions scopes clauses ≡ bad_of pivot
end_row_truth pivot scopes clauses assumptions steps end distinct outer legal stands ends =
    proof_decides pivot scopes clauses assumptions (steps ++ finish_of assumptions end ∷ []) distinct outer
    (end_row_proof pivot scopes clauses assumptions end ends steps legal stands)

-- the verdict rests on the assumptions over variables of the last row alone

relevant_value : (assumptions : List Literal) (row : Row) (x : ℕ) → mentions row x ≡ true
    → assumed_value (relevant_of assumptions row) x ≡ assumed_value assumptions x
relevant_value [] row x t = refl
relevant_value (l ∷ ls) row x t =
    cond_both (mentions row l.variable) (l ∷ relevant_of ls row) (relevant_of ls row)
    (λ rest. assumed_value rest x ≡ assumed_value (l ∷ ls) x)
    (λ m. ap (λ o. cond (nat_eq l.variable x) (Some l.positive) o) (relevant_value ls row x t))
    (λ n. ⊎_elim (λ e. absurd (true≢false (sym t ∙ (ap (mentions row) (sym (eqb-true l.variable x e)) ∙ n))))
    (λ ne. relevant_value ls row x t ∙ sym (cond-false (nat_eq l.variable x) (Some l.positive) (assumed_value ls x) ne))
    (cases_Bool (nat_eq l.variable x)))

relevant_none : (assumptions : List Literal) (row : Row) (x : ℕ) → mentions row x ≡ false
    → assumed_value (relevant_of assumptions row) x ≡ None
relevant_none [] row x t = refl
relevant_none (l ∷ ls) row x t =
    cond_both (mentions row l.variable) (l ∷ relevant_of ls row) (relevant_of ls row)
    (λ rest. assumed_value rest x ≡ None)
    (λ m. cond-false (nat_eq l.variable x) (Some l.positive) (assumed_value (relevant_of ls row) x)
    (ne_eqb l.variable x (λ e. true≢false (sym m ∙ (ap (mentions row) e ∙ t)))) ∙ relevant_none ls row x t)
    (λ n. relevant_none ls row x t)

mentioned : (row : Row) (l : Literal) → Contains row l → mentions row l.variable ≡ true
mentioned row l i = let r = over_from row l i in ap is_some r.1

module _ (pivot : Quant) (scopes : List Scope) (clauses : List Row) (assumptions : List Literal) (row : Row) where
  fewer : List Literal
  fewer = relevant_of assumptions row

  -- where the assumptions over the variables of a row are kept, its finish is the same
  relevant_finish : (before : Row) → IsFinish pivot scopes assumptions before row → IsFinish pivot scopes
      (relevant_of assumptions row) before row
  relevant_finish before finish =
      let is_assumed = λ (l : Literal). is_some (assumed_value assumptions l.variable) in
      let is_relevant = λ (l : Literal). is_some (assumed_value (relevant_of assumptions row) l.variable) in
      let kept : (l : Literal) → Contains before l → is_assumed l ≡ true → mentions row l.variable ≡ true =
      λ l i t. mentioned row l (rw finish.1 (filter_from is_assumed before l i t)) in
      let same : (l : Literal) → Contains before l → is_assumed l ≡ is_relevant l = λ l i.
      ⊎_elim (λ t. sym (ap is_some (relevant_value assumptions row l.variable (kept l i t))))
      (λ f. ⊎_elim (λ m. sym (ap is_some (relevant_value assumptions row l.variable m)))
      (λ n. f ∙ sym (ap is_some (relevant_none assumptions row l.variable n)))
      (cases_Bool (mentions row l.variable)))
      (cases_Bool (is_assumed l)) in (
        record {
          pivots = λ l i t. sym (same l i) ∙ finish.0.pivots l i t;
          bad = λ l b i e. finish.0.bad l b i
              (sym (relevant_value assumptions row l.variable (kept l i (same l i ∙ ap is_some e))) ∙ e);
        },
        finish.1 ∙ filter_same is_assumed is_relevant before same,
      )

  relevant_last : (earlier : List Row) (reason : Reason) → IsSoundStep pivot scopes clauses assumptions earlier row
      reason → IsSoundStep pivot scopes clauses (relevant_of assumptions row) earlier row reason
  relevant_last earlier Input step = step
  relevant_last earlier (One before) step = (step.0, ⊎_elim inl (λ f. inr (relevant_finish before f)) step.1)
  relevant_last earlier (Two a b x) step = step

  relevant_steps : (earlier : List Row) (front : List Inference) (reason : Reason) → IsLegalAfter pivot scopes clauses
      earlier front → AreSoundSteps pivot scopes clauses assumptions earlier
      (front ++ record { row = row; reason = reason } ∷ []) → AreSoundSteps pivot scopes clauses
      (relevant_of assumptions row) earlier (front ++ record { row = row; reason = reason } ∷ [])
  relevant_steps earlier [] reason legal are = (are.0, relevant_last earlier reason are.1, tt)
  relevant_steps earlier (s ∷ front) reason legal are = (
    legal.0,
    legal_step pivot scopes clauses (relevant_of assumptions row) earlier s.row s.reason legal.1,
    relevant_steps (s.row ∷ earlier) front reason legal.2 are.2,
  )

pub relevant_proof : (pivot : Quant) (scopes : List Scope) (clauses : List Row) (assumptions : List Literal)
    (steps : List Inference) (proof : IsSound pivot scopes clauses assumptions steps) → IsSound pivot scopes clauses
    (relevant_of assumptions proof.last.row) steps
relevant_proof pivot scopes clauses assumptions steps proof = record {
  front = proof.front;
  last = proof.last;
  parts = proof.parts;
  legal = proof.legal;
  last_step = rw proof.parts (relevant_steps pivot scopes clauses assumptions proof.last.row [] proof.front
      proof.last.reason proof.legal (rw proof.parts at proof.last_step));
  decided = λ l i. let d = proof.decided l i in
      (d.0, relevant_value assumptions proof.last.row l.variable (mentioned proof.last.row l i) ∙ d.1, d.2);
}

pub relevant_outer : (scopes : List Scope) (assumptions : List Literal) (row : Row) → AreOuter scopes assumptions
    → AreOuter scopes (relevant_of assumptions row)
relevant_outer scopes assumptions row outer l i = outer l (filter_at (λ l. mentions row l.variable) assumptions l i).0

pub relevant_truth : (pivot : Quant) (scopes : List Scope) (clauses : List Row) (assumptions : List Literal)
    (steps : List Inference) → AreDistinct (all_variables scopes) → AreOuter scopes assumptions
    → (proof : IsSound pivot scopes clauses assumptions steps) → truth_under (relevant_of assumptions proof.last.row)
    scopes clauses ≡ bad_of pivot
relevant_truth pivot scopes clauses assumptions steps distinct outer proof =
    proof_decides pivot scopes clauses (relevant_of assumptions proof.last.row) steps distinct
    (relevant_outer scopes assumptions proof.last.row outer)
    (relevant_proof pivot scopes clauses assumptions steps proof)
