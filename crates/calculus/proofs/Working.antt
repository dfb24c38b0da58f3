-- The worked proofs, step by step.
use Rattle.std.proofs.Common.{◌≡◌, ◌≢◌, ℕ, ◌<◌, Bool, true, false, not, List, [], ◌∷◌, length, Contains, ◌++◌, Some, None, subst, refl, ap, inl, inr, ⊎_elim, arith, sym, ◌∙◌}
use Rattle.std.specs.List.{list_all}
use Rattle.std.specs.Prelude.{◌==◌}
use Rattle.prefix.specs.declared.quant.Quant.TheVariants.{Exists, Forall}
use Rattle.prefix.specs.Literal.{Literal}
use Rattle.prefix.specs.Scopes.{Scope, all_variables, is_among, IsAscending}
use Rattle.truth.specs.Truth.{assumed_value}
use Rattle.calculus.specs.Rows.{Row, IsRow, variables_in, is_bad_at}
use Rattle.calculus.specs.Derivations.{Hits, Inference, IsLegal, Reason}
use Rattle.calculus.specs.Derivations.Reason.{Input, One, Two}
use Rattle.calculus.specs.Verdicts.{AreUsed, IsAntecedent, IsProof, IsUsedIn}
use Rattle.calculus.specs.Plays.{played, played_from, with_given, total}
use Rattle.calculus.specs.Worked.{plus, minus, existential, existential_first, universal_first, differ, refutation, model, chained, chained_scopes, chained_clauses, with_unused}
use Rattle.calculus.proofs.Lists.{all_at, among_at, contains_cons, contains_nil, contains_tail}
use Rattle.std.proofs.lemmas.List.Elements.{Contains-append_cases}
use Rattle.truth.specs.Matrix.{matrix_true}

row_by : (scopes : List Scope) (row : Row) → IsAscending (variables_in row)
    → list_all (λ l. is_among l.variable (all_variables scopes)) row ≡ true → IsRow scopes row
row_by scopes row up over = record {
  ascending = up;
  over_prefix = λ l i. among_at (all_variables scopes) l.variable
      (all_at (λ l. is_among l.variable (all_variables scopes)) row over l i);
}

shorter : (a b : Row) (m n : ℕ) → length a ≡ m → length b ≡ n → (m ≡ n → ⊥) → a ≢ b
shorter a b m n p q differ e = differ (sym p ∙ (ap length e ∙ q))

-- the refutation
refuted_legal_first : IsRow existential_first (plus 1 ∷ plus 2 ∷ [])
refuted_legal_first = row_by existential_first (plus 1 ∷ plus 2 ∷ []) ((omega arith, tt), (tt, tt)) refl

refuted_legal_second : IsRow existential_first (minus 1 ∷ minus 2 ∷ [])
refuted_legal_second = row_by existential_first (minus 1 ∷ minus 2 ∷ []) ((omega arith, tt), (tt, tt)) refl

pub refutation_proof : IsProof Exists existential_first differ [] refutation
refutation_proof = record {
  front = record { row = plus 1 ∷ plus 2 ∷ []; reason = Input } ∷ record {
    row = minus 1 ∷ minus 2 ∷ [];
    reason =
        Input;
  } ∷ record { row = plus 2 ∷ []; reason = One (plus 1 ∷ plus 2 ∷ []) } ∷ record
      { row = minus 2 ∷ []; reason = One (minus 1 ∷ minus 2 ∷ []) } ∷ [];
  last = record { row = []; reason = Two (plus 2 ∷ []) (minus 2 ∷ []) 2 };
  parts = refl;
  legal = (
    refuted_legal_first,
    (0, omega arith, refl),
    (
      refuted_legal_second,
      (1, omega arith, refl),
      (
        row_by existential_first (plus 2 ∷ []) (tt, tt) refl,
        ((1, omega arith, refl), shorter (plus 2 ∷ []) (plus 1 ∷ plus 2 ∷ []) 1 2 refl refl (λ e. omega arith), refl),
        (
          row_by existential_first (minus 2 ∷ []) (tt, tt) refl,
          (
            (1, omega arith, refl),
            shorter (minus 2 ∷ []) (minus 1 ∷ minus 2 ∷ []) 1 2 refl refl (λ e. omega arith),
            refl,
          ),
          tt,
        ),
      ),
    ),
  );
  last_row = row_by existential_first [] tt refl;
  last_step = record {
    earlier_positive = (2, omega arith, refl);
    earlier_negative = (3, omega arith, refl);
    has_positive = (0, omega arith, refl);
    has_negative = (0, omega arith, refl);
    is_pivot_variable = refl;
    no_clash =
        refl;
    result = refl;
  };
  decided = λ l i. absurd (contains_nil l i);
  used = (
    (record { row = plus 2 ∷ []; reason = One (plus 1 ∷ plus 2 ∷ []) }, (1, omega arith, refl), refl),
    (
      (record { row = minus 2 ∷ []; reason = One (minus 1 ∷ minus 2 ∷ []) }, (1, omega arith, refl), refl),
      (
        (record { row = []; reason = Two (plus 2 ∷ []) (minus 2 ∷ []) 2 }, (1, omega arith, refl), inl refl),
        ((record { row = []; reason = Two (plus 2 ∷ []) (minus 2 ∷ []) 2 }, (0, omega arith, refl), inr refl), tt),
      ),
    ),
  );
}

pub copies : (b : Bool) → played Exists existential_first [] refutation (λ x. b) 1 ≡ b
unfolding played_from with_given
copies true = refl
copies false = refl

-- the model
hits : (cube : Row) (a b : Literal) → Contains (plus 1 ∷ plus 2 ∷ []) a → Contains cube a
    → Contains (minus 1 ∷ minus 2 ∷ []) b → Contains cube b → Hits cube differ
hits cube a b i j k m clause at =
    ⊎_elim (λ e. (a, rw (← e) i, j)) (λ r. ⊎_elim (λ e. (b, rw (← e) k, m)) (λ n. absurd (contains_nil clause n))
    (contains_cons (minus 1 ∷ minus 2 ∷ []) [] clause r))
    (contains_cons (plus 1 ∷ plus 2 ∷ []) ((minus 1 ∷ minus 2 ∷ []) ∷ []) clause at)

pub model_proof : IsProof Forall universal_first differ [] model
model_proof = record {
  front = record { row = plus 1 ∷ minus 2 ∷ []; reason = Input } ∷ record {
    row = minus 1 ∷ plus 2 ∷ [];
    reason =
        Input;
  } ∷ record { row = plus 1 ∷ []; reason = One (plus 1 ∷ minus 2 ∷ []) } ∷ record
      { row = minus 1 ∷ []; reason = One (minus 1 ∷ plus 2 ∷ []) } ∷ [];
  last = record { row = []; reason = Two (plus 1 ∷ []) (minus 1 ∷ []) 1 };
  parts = refl;
  legal = (
    row_by universal_first (plus 1 ∷ minus 2 ∷ []) ((omega arith, tt), (tt, tt)) refl,
    hits (plus 1 ∷ minus 2 ∷ []) (plus 1) (minus 2) (0, omega arith, refl) (0, omega arith, refl) (1, omega arith, refl)
        (1, omega arith, refl),
    (
      row_by universal_first (minus 1 ∷ plus 2 ∷ []) ((omega arith, tt), (tt, tt)) refl,
      hits (minus 1 ∷ plus 2 ∷ []) (plus 2) (minus 1) (1, omega arith, refl) (1, omega arith, refl)
          (0, omega arith, refl) (0, omega arith, refl),
      (
        row_by universal_first (plus 1 ∷ []) (tt, tt) refl,
        ((1, omega arith, refl), shorter (plus 1 ∷ []) (plus 1 ∷ minus 2 ∷ []) 1 2 refl refl (λ e. omega arith), refl),
        (
          row_by universal_first (minus 1 ∷ []) (tt, tt) refl,
          (
            (1, omega arith, refl),
            shorter (minus 1 ∷ []) (minus 1 ∷ plus 2 ∷ []) 1 2 refl refl (λ e. omega arith),
            refl,
          ),
          tt,
        ),
      ),
    ),
  );
  last_row = row_by universal_first [] tt refl;
  last_step = record {
    earlier_positive = (2, omega arith, refl);
    earlier_negative = (3, omega arith, refl);
    has_positive = (0, omega arith, refl);
    has_negative = (0, omega arith, refl);
    is_pivot_variable = refl;
    no_clash =
        refl;
    result = refl;
  };
  decided = λ l i. absurd (contains_nil l i);
  used = (
    (record { row = plus 1 ∷ []; reason = One (plus 1 ∷ minus 2 ∷ []) }, (1, omega arith, refl), refl),
    (
      (record { row = minus 1 ∷ []; reason = One (minus 1 ∷ plus 2 ∷ []) }, (1, omega arith, refl), refl),
      (
        (record { row = []; reason = Two (plus 1 ∷ []) (minus 1 ∷ []) 1 }, (1, omega arith, refl), inl refl),
        ((record { row = []; reason = Two (plus 1 ∷ []) (minus 1 ∷ []) 1 }, (0, omega arith, refl), inr refl), tt),
      ),
    ),
  );
}

pub opposes_one : (b : Bool) → played Forall universal_first [] model (λ x. b) 2 ≡ not b
unfolding played_from with_given
opposes_one true = refl
opposes_one false = refl

-- the end row that is its own proof
pub assumed_proof : IsProof Exists (existential (1 ∷ 2 ∷ []) ∷ []) ((plus 1 ∷ []) ∷ []) (minus 1 ∷ plus 2 ∷ [])
    (record { row = plus 1 ∷ []; reason = Input } ∷ [])
assumed_proof = record {
  front = [];
  last = record { row = plus 1 ∷ []; reason = Input };
  parts = refl;
  legal = tt;
  last_row = row_by (existential (1 ∷ 2 ∷ []) ∷ []) (plus 1 ∷ []) (tt, tt) refl;
  last_step = (0, omega arith, refl);
  decided = λ l i. ⊎_elim
      (λ e. (
        false,
        ap (λ (m : Literal). assumed_value (minus 1 ∷ plus 2 ∷ []) m.variable) (sym e),
        ap (is_bad_at Exists false) (sym e),
      )) (λ j. absurd (contains_nil l j)) (contains_cons (plus 1) [] l i);
  used = tt;
}

-- the chained refutation
pub chained_proof : IsProof Exists chained_scopes chained_clauses [] chained
chained_proof = record {
  front = record { row = plus 1 ∷ plus 3 ∷ []; reason = Input } ∷ record {
    row = minus 1 ∷ plus 2 ∷ minus 3 ∷ [];
    reason = Input;
  } ∷ record { row = minus 2 ∷ []; reason = Input } ∷ record
      { row = plus 1 ∷ []; reason = One (plus 1 ∷ plus 3 ∷ []) } ∷ record {
        row = plus 2 ∷ minus 3 ∷ [];
        reason =
            Two (plus 1 ∷ []) (minus 1 ∷ plus 2 ∷ minus 3 ∷ []) 1;
      } ∷ record
      { row = plus 2 ∷ []; reason = One (plus 2 ∷ minus 3 ∷ []) } ∷ [];
  last = record { row = []; reason = Two (plus 2 ∷ []) (minus 2 ∷ []) 2 };
  parts = refl;
  legal = (
    row_by chained_scopes (plus 1 ∷ plus 3 ∷ []) ((omega arith, tt), (tt, tt)) refl,
    (0, omega arith, refl),
    (
      row_by chained_scopes (minus 1 ∷ plus 2 ∷ minus 3 ∷ [])
          ((omega arith, (omega arith, tt)), ((omega arith, tt), (tt, tt))) refl,
      (1, omega arith, refl),
      (
        row_by chained_scopes (minus 2 ∷ []) (tt, tt) refl,
        (2, omega arith, refl),
        (
          row_by chained_scopes (plus 1 ∷ []) (tt, tt) refl,
          ((2, omega arith, refl), shorter (plus 1 ∷ []) (plus 1 ∷ plus 3 ∷ []) 1 2 refl refl (λ e. omega arith), refl),
          (
            row_by chained_scopes (plus 2 ∷ minus 3 ∷ []) ((omega arith, tt), (tt, tt)) refl,
            record {
              earlier_positive = (0, omega arith, refl);
              earlier_negative = (2, omega arith, refl);
              has_positive = (0, omega arith, refl);
              has_negative = (0, omega arith, refl);
              is_pivot_variable = refl;
              no_clash = refl;
              result = refl;
            },
            (
              row_by chained_scopes (plus 2 ∷ []) (tt, tt) refl,
              (
                (0, omega arith, refl),
                shorter (plus 2 ∷ []) (plus 2 ∷ minus 3 ∷ []) 1 2 refl refl (λ e. omega arith),
                refl,
              ),
              tt,
            ),
          ),
        ),
      ),
    ),
  );
  last_row = row_by chained_scopes [] tt refl;
  last_step = record {
    earlier_positive = (5, omega arith, refl);
    earlier_negative = (2, omega arith, refl);
    has_positive = (0, omega arith, refl);
    has_negative = (0, omega arith, refl);
    is_pivot_variable = refl;
    no_clash =
        refl;
    result = refl;
  };
  decided = λ l i. absurd (contains_nil l i);
  used = (
    (record { row = plus 1 ∷ []; reason = One (plus 1 ∷ plus 3 ∷ []) }, (2, omega arith, refl), refl),
    (
      (
        record { row = plus 2 ∷ minus 3 ∷ []; reason = Two (plus 1 ∷ []) (minus 1 ∷ plus 2 ∷ minus 3 ∷ []) 1 },
        (2, omega arith, refl),
        inr refl,
      ),
      (
        (record { row = []; reason = Two (plus 2 ∷ []) (minus 2 ∷ []) 2 }, (3, omega arith, refl), inr refl),
        (
          (
            record { row = plus 2 ∷ minus 3 ∷ []; reason = Two (plus 1 ∷ []) (minus 1 ∷ plus 2 ∷ minus 3 ∷ []) 1 },
            (0, omega arith, refl),
            inl refl,
          ),
          (
            (record { row = plus 2 ∷ []; reason = One (plus 2 ∷ minus 3 ∷ []) }, (0, omega arith, refl), refl),
            ((record { row = []; reason = Two (plus 2 ∷ []) (minus 2 ∷ []) 2 }, (0, omega arith, refl), inl refl), tt),
          ),
        ),
      ),
    ),
  );
}

pub falsifies : matrix_true (total (played Exists chained_scopes [] chained (λ x. false))) chained_clauses ≡ false
unfolding played_from with_given
falsifies = refl

pub then_second : played Exists chained_scopes [] chained (λ x. x == 1) 3 ≡ true
unfolding played_from with_given
then_second = refl

pub then_false : played Exists chained_scopes [] chained (λ x. true) 3 ≡ false
unfolding played_from with_given
then_false = refl

pub falsifies_too : matrix_true (total (played Exists chained_scopes [] chained (λ x. true))) chained_clauses ≡ false
unfolding played_from with_given
falsifies_too = refl

-- the list with an unused step
pub unused_legal : IsLegal Exists (existential (1 ∷ 2 ∷ []) ∷ []) ((plus 1 ∷ []) ∷ (minus 1 ∷ []) ∷ (plus 2 ∷ []) ∷ [])
    with_unused
unused_legal = (
  row_by (existential (1 ∷ 2 ∷ []) ∷ []) (plus 1 ∷ []) (tt, tt) refl,
  (0, omega arith, refl),
  (
    row_by (existential (1 ∷ 2 ∷ []) ∷ []) (plus 2 ∷ []) (tt, tt) refl,
    (2, omega arith, refl),
    (
      row_by (existential (1 ∷ 2 ∷ []) ∷ []) (minus 1 ∷ []) (tt, tt) refl,
      (1, omega arith, refl),
      (
        row_by (existential (1 ∷ 2 ∷ []) ∷ []) [] tt refl,
        record {
          earlier_positive = (2, omega arith, refl);
          earlier_negative = (0, omega arith, refl);
          has_positive =
              (0, omega arith, refl);
          has_negative = (0, omega arith, refl);
          is_pivot_variable = refl;
          no_clash = refl;
          result = refl;
        },
        tt,
      ),
    ),
  ),
)

-- a step of the front is used in the whole
used_in : (front : List Inference) (last : Inference) → AreUsed front last → (s : Inference) → Contains front s
    → IsUsedIn (front ++ last ∷ []) s.row
used_in [] last used s i = absurd (contains_nil s i)
used_in (t ∷ front) last used s i =
    ⊎_elim
    (λ e. let u = used.0 in (u.0, contains_tail t (front ++ last ∷ []) u.0 u.1, ap_antecedent e u.0.reason u.2))
    (λ j. let u = used_in front last used.1 s j in (u.0, contains_tail t (front ++ last ∷ []) u.0 u.1, u.2))
    (contains_cons t front s i)
  where
    ap_antecedent : {a b : Inference} → a ≡ b → (r : Reason) → IsAntecedent a.row r → IsAntecedent b.row r
    ap_antecedent e r h = subst (λ (x : Inference). IsAntecedent x.row r) e h

-- no step rests on the clause 2
none_rests : (t : Inference) → Contains with_unused t → IsAntecedent (plus 2 ∷ []) t.reason → ⊥
none_rests t i =
    ⊎_elim (λ e. subst (λ (s : Inference). IsAntecedent (plus 2 ∷ []) s.reason → ⊥) e (λ a. a))
    (λ j. ⊎_elim (λ e. subst (λ (s : Inference). IsAntecedent (plus 2 ∷ []) s.reason → ⊥) e (λ a. a))
    (λ k. ⊎_elim (λ e. subst (λ (s : Inference). IsAntecedent (plus 2 ∷ []) s.reason → ⊥) e (λ a. a))
    (λ m. ⊎_elim (λ e. subst (λ (s : Inference). IsAntecedent (plus 2 ∷ []) s.reason → ⊥) e
    (λ a. ⊎_elim (λ h. apart true h) (λ h. apart false h) a))
    (λ n. absurd (contains_nil t n))
    (contains_cons (record { row = []; reason = Two (plus 1 ∷ []) (minus 1 ∷ []) 1 }) [] t m))
    (contains_cons (record { row = minus 1 ∷ []; reason = Input })
    (record { row = []; reason = Two (plus 1 ∷ []) (minus 1 ∷ []) 1 } ∷ []) t k))
    (contains_cons (record { row = plus 2 ∷ []; reason = Input })
    (record { row = minus 1 ∷ []; reason = Input } ∷ record
    { row = []; reason = Two (plus 1 ∷ []) (minus 1 ∷ []) 1 } ∷ []) t j))
    (contains_cons (record { row = plus 1 ∷ []; reason = Input })
    (record { row = plus 2 ∷ []; reason = Input } ∷ record { row = minus 1 ∷ []; reason = Input } ∷ record
    { row = []; reason = Two (plus 1 ∷ []) (minus 1 ∷ []) 1 } ∷ []) t i)
  where
    differ : (m n : ℕ) → m < n → m ≡ n → ⊥
    differ m n below same = omega arith

    first_number : Row → ℕ
    first_number [] = 0
    first_number (l ∷ ls) = l.variable

    apart : (b : Bool) → record { variable = 1; positive = b } ∷ [] ≡ plus 2 ∷ [] → ⊥
    apart b e = differ 1 2 (omega arith) (ap first_number e)

pub unused_no_proof : IsProof Exists (existential (1 ∷ 2 ∷ []) ∷ [])
    ((plus 1 ∷ []) ∷ (minus 1 ∷ []) ∷ (plus 2 ∷ []) ∷ []) [] with_unused → ⊥
unused_no_proof proof =
    let two : Inference = record { row = plus 2 ∷ []; reason = Input } in
    let stands : Contains (proof.front ++ proof.last ∷ []) two = subst (λ xs. Contains xs two) proof.parts
    (1, omega arith, refl) in
    ⊎_elim
    (λ i. let u = used_in proof.front proof.last proof.used two i in none_rests u.0
    (subst (λ xs. Contains xs u.0) (sym proof.parts) u.1) u.2)
    (λ j. ⊎_elim
    (λ e. let d = proof.decided (plus 2)
    (subst (λ (s : Inference). Contains s.row (plus 2)) (sym e) (0, omega arith, refl)) in let g : None ≡ Some d.0 =
    d.1 in absurd (cc))
    (λ n. contains_nil two n)
    (contains_cons proof.last [] two j))
    (Contains-append_cases proof.front (proof.last ∷ []) two stands)
