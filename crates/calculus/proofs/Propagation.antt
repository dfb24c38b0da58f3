-- A quiet assignment without decisions holds all that propagation gives, so where propagation refutes the clauses there
-- is none.
use Rattle.std.proofs.Common.{◌≡◌, ◌≢◌, ℕ, ◌⊎◌, Bool, true, false, List, ◌∷◌, Contains, filter, Option, Some, None, is_none, sym, refl, ap, ◌∙◌, inl, inr, ⊎_elim, nat_eq}
use Rattle.std.specs.List.{list_any}
use Rattle.prefix.specs.Literal.{Literal}
use Rattle.prefix.specs.Scopes.{Scope, quantifier_of}
use Rattle.prefix.specs.declared.quant.Quant.TheVariants.{Exists}
use Rattle.truth.specs.Matrix.{Values, same as same_bool}
use Rattle.truth.specs.Truth.{assumed_value}
use Rattle.calculus.specs.Rows.{Row, is_bad_at, is_blocked, is_pivot, reduce, stays, is_of}
use Rattle.calculus.specs.Search.{Holds, IsPending, IsRefuted, is_bad_if, is_bad_now, IsBadRow, IsUnitIn}
use Rattle.std.proofs.lemmas.Bool.{cases_Bool, cond_both, cond-true, cond-false, true≢false, false≢true, eqb-true, or_left}
use Rattle.calculus.proofs.Lists.{filter_at, filter_from}
use Rattle.calculus.proofs.RowLemmas.{same_true}
use Rattle.calculus.proofs.Verdict.{option_cases}
use Rattle.calculus.specs.Search.IsRefuted.{bad_clause, unit_clause}

still_bad : (values known : Values) (l : Literal) → ((x : ℕ) (b : Bool) → known x ≡ Some b → values x ≡ Some b)
    → (o : Option Bool) → known l.variable ≡ o → is_bad_if Exists o l ≡ true → is_bad_now Exists values l ≡ true
still_bad values known l held None e bad = absurd (false≢true bad)
still_bad values known l held (Some b) e bad = ap (λ o. is_bad_if Exists o l) (held l.variable b e) ∙ bad

is_none_from : (o : Option Bool) → is_none o ≡ true → o ≡ None
is_none_from None e = refl
is_none_from (Some b) e = absurd (false≢true e)

not_pivot : (scopes : List Scope) (l : Literal) → is_pivot Exists scopes l ≡ false → quantifier_of scopes l.variable ≢
    Some Exists
not_pivot scopes l n e = true≢false (sym (ap (λ q. is_of q Exists) e) ∙ n)

-- what is pending under the literals is pending under values that hold them, with no one to keep where that one is bad
-- now
still_pending : (scopes : List Scope) (values : Values) (literals : List Literal) (kept : Option Literal) (row : Row)
    → Holds scopes values literals → IsPending Exists scopes (assumed_value literals) kept row
    → IsPending Exists scopes values kept row
still_pending scopes values literals kept row holds pending l i =
    ⊎_elim inl
    (λ s. inr
    (⊎_elim (λ bad. inl (still_bad values (assumed_value literals) l holds.held (assumed_value literals l.variable)
    refl bad))
    (λ o. inr (
      ap is_none
          (holds.others_open l.variable (not_pivot scopes l o.1)
          (is_none_from (assumed_value literals l.variable) o.0)),
      o.1,
      o.2,
    ))
    s))
    (pending l i)

reduced_within : (scopes : List Scope) (row : Row) (l : Literal) → Contains (reduce Exists scopes row) l
    → Contains row l
reduced_within scopes row l = cond_both (list_any (is_pivot Exists scopes) row) (filter (stays Exists scopes row) row)
    row (λ r. Contains r l → Contains row l) (λ t i. (filter_at (stays Exists scopes row) row l i).0) (λ f i. i)

reduced_keeps : (scopes : List Scope) (row : Row) (l : Literal) → Contains row l → is_pivot Exists scopes l ≡ true
    → Contains (reduce Exists scopes row) l
reduced_keeps scopes row l i p = cond_both (list_any (is_pivot Exists scopes) row)
    (filter (stays Exists scopes row) row) row (λ r. Contains r l)
    (λ t. filter_from (stays Exists scopes row) row l i
    (or_left (is_pivot Exists scopes l) (is_blocked Exists scopes row l) p)) (λ f. i)

-- the value of an assigned literal makes it true or bad
sign_cases : (b : Bool) (l : Literal) → (b ≡ l.positive) ⊎ (is_bad_at Exists b l ≡ true)
sign_cases b l = by_cases b l.positive
  where
    by_cases : (b p : Bool) → (b ≡ p) ⊎ (same_bool (same_bool b p) false ≡ true)
    by_cases true true = inl refl
    by_cases true false = inr refl
    by_cases false true = inr refl
    by_cases false false = inl refl

-- no reduced clause is bad or unit
pub record IsQuietFor (scopes : List Scope) (clauses : List Row) (values : Values) : Type 0 where
  pub none_bad : (clause : Row) → Contains clauses clause → IsBadRow Exists scopes values (reduce Exists scopes clause)
      → ⊥
  pub none_unit : (clause : Row) (literal : Literal) → Contains clauses clause → IsUnitIn Exists scopes values
      (reduce Exists scopes clause) literal → ⊥

pub propagation_refutes : (scopes : List Scope) (clauses : List Row) (values : Values) (literals : List Literal)
    → Holds scopes values literals → IsQuietFor scopes clauses values → IsRefuted scopes clauses literals → ⊥
propagation_refutes scopes clauses values literals holds quiet (bad_clause clause i bad) =
    quiet.none_bad clause i (λ l j. still_pending scopes values literals None clause holds bad l
    (reduced_within scopes clause l j))
propagation_refutes scopes clauses values literals holds quiet (unit_clause clause literal i unit rest) =
    let others : IsPending Exists scopes values (Some literal) clause = still_pending scopes values literals
    (Some literal) clause holds unit.others in
    ⊎_elim
    (λ n. quiet.none_unit clause literal i (record {
      stands = reduced_keeps scopes clause literal unit.stands unit.pivot_type;
      pivot_type = unit.pivot_type;
      open_yet = ap is_none n;
      others = λ l j. others l (reduced_within scopes clause l j);
    }))
    (λ (r : (b : Bool) × (values literal.variable ≡ Some b)). ⊎_elim
    (λ same. propagation_refutes scopes clauses values (literal ∷ literals) (record {
      held = λ x b e. ⊎_elim
          (λ t. let v : Some literal.positive ≡ Some b =
          sym (cond-true (nat_eq literal.variable x) (Some literal.positive) (assumed_value literals x) t) ∙ e in
          ap values (sym (eqb-true literal.variable x t)) ∙ (r.1 ∙ (ap Some same ∙ v)))
          (λ f. holds.held x b
          (sym (cond-false (nat_eq literal.variable x) (Some literal.positive) (assumed_value literals x) f) ∙ e))
          (cases_Bool (nat_eq literal.variable x));
      others_open = λ x q n. ⊎_elim
          (λ t. absurd
          (q (ap (quantifier_of scopes) (sym (eqb-true literal.variable x t))
          ∙ same_true (quantifier_of scopes literal.variable) Exists unit.pivot_type)))
          (λ f. holds.others_open x q
          (sym (cond-false (nat_eq literal.variable x) (Some literal.positive) (assumed_value literals x) f) ∙ n))
          (cases_Bool (nat_eq literal.variable x));
    }) quiet rest)
    (λ bad. quiet.none_bad clause i (λ l j. ⊎_elim
    (λ (k : l ≡ literal). inr (inl (rw k (ap (λ o. is_bad_if Exists o literal) r.1 ∙ bad))))
    (λ s. ⊎_elim (λ b. inr (inl b)) (λ o. inr (inr (o.0, o.1, tt))) s)
    (others l (reduced_within scopes clause l j))))
    (sign_cases r.0 literal))
    (option_cases (values literal.variable))
