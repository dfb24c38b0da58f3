-- What a binary search finds in a row that ascends by variable.
use Rattle.std.proofs.Common.{◌≡◌, ◌≢◌, ◌<◌, ◌≤◌, ℕ, Bool, true, false, List, [], ◌∷◌, length, get_or, Contains, Some, None, option_map, nat_eq, arith, refl, sym, ap, ◌∙◌, ⊎_elim}
use Rattle.std.specs.Prelude.{nat_lt}
use Rattle.std.specs.List.Sorted.{IsNonDecreasingBy, IsPartitionPoint, IsPartitionedBy}
use Rattle.std.proofs.lemmas.Bool.{cases_Bool, cases_order, cond-false, cond-true, ltb-false, ltb-true}
use Rattle.std.proofs.lemmas.List.{get_or_default}
use Rattle.std.proofs.lemmas.List.Sorted.{IsPartitionedBy-ltb}
use Rattle.prefix.specs.Literal.{Literal}
use Rattle.prefix.specs.Scopes.{IsAscending}
use Rattle.truth.specs.Truth.{assumed_value}
use Rattle.calculus.specs.Rows.{Row, literal_over, variables_in}
use Rattle.calculus.proofs.Ascending.{pairs_from}
use Rattle.calculus.proofs.RowLemmas.{one_literal, over_at, over_from}
use Rattle.calculus.proofs.Verdict.{option_cases}

-- whether a literal's variable comes before another
abbrev pub is_before : ℕ → Literal → Bool
is_before x l = nat_lt l.variable x

rising : (row : Row) → IsAscending (variables_in row) → IsNonDecreasingBy (λ (l : Literal). l.variable) row
rising row up i j d le below = ⊎_elim (λ e. ap_le i j e)
    (λ apart. ⊎_elim
    (λ lt. let r : (get_or row i d).variable < (get_or row j d).variable = pairs_from row up i j d lt below in
    omega arith)
    (λ gt. absurd (omega arith)) apart)
    (cases_order i j)
  where
    ap_le : (i j : ℕ) → i ≡ j → (get_or row i d).variable ≤ (get_or row j d).variable
    ap_le i j e = let same : (get_or row i d).variable ≡ (get_or row j d).variable =
        ap (λ k. (get_or row k d).variable) e in omega arith

pub partitioned : (row : Row) (x : ℕ) → IsAscending (variables_in row) → IsPartitionedBy (is_before x) row
partitioned row x up = IsPartitionedBy-ltb (λ (l : Literal). l.variable) row x (rising row up)

-- the place before which all variables come before another, and from which on none does
abbrev pub IsPlaceFor : ℕ → Row → ℕ → Type 0
IsPlaceFor x row i = IsPartitionPoint (λ (l : Literal). is_before x l ≡ true) (λ (l : Literal). is_before x l ≡ false)
    row i

module _ (row : Row) (x i : ℕ) (up : IsAscending (variables_in row)) (place : IsPlaceFor x row i) where
  -- a literal over the variable stands at the place or behind it
  behind : (l : Literal) (j : Contains row l) → l.variable ≡ x → i ≤ j.0
  behind l j e = ⊎_elim (λ same. omega arith)
      (λ apart. ⊎_elim
      (λ lt.
      let before : (get_or row j.0 l).variable < x = ltb-true (get_or row j.0 l).variable x
      (place.0 j.0 l (omega arith) lt) in
      let same : (get_or row j.0 l).variable ≡ l.variable = ap (λ (m : Literal). m.variable) j.2 in
      absurd (omega arith))
      (λ gt. omega arith) apart)
      (cases_order j.0 i)

  pub none_past : i ≡ length row → literal_over row x ≡ None
  none_past last = ⊎_elim (λ n. n)
      (λ r.
      let at = over_at row x r.0 r.1 in
      let below : at.0.0 < length row = at.0.1 in
      let late = behind r.0 at.0 at.1 in
      absurd (omega arith))
      (option_cases (literal_over row x))

  module _ (m : Literal) (below : i < length row) (is : m ≡ get_or row i m) where
    there : Contains row m
    there = (i, below, sym is)

    pub found : m.variable ≡ x → literal_over row x ≡ Some m
    found e =
        let s = over_from row m there in
        let over : literal_over row x ≡ Some s.0 = ap (literal_over row) (sym e) ∙ s.1 in
        let at = over_at row x s.0 over in
        over ∙ ap Some (one_literal row (pairs_from row up) s.0 m at.0 there (at.1 ∙ sym e))

    pub not_found : m.variable ≢ x → literal_over row x ≡ None
    not_found apart = ⊎_elim (λ n. n)
        (λ r.
        let at = over_at row x r.0 r.1 in
        let late : i ≤ at.0.0 = behind r.0 at.0 at.1 in
        let least : x ≤ (get_or row i m).variable = ltb-false (get_or row i m).variable x
        (place.1 i m (omega arith) below) in
        let same : (get_or row i m).variable ≡ m.variable = ap (λ (l : Literal). l.variable) (sym is) in
        let order : (get_or row i r.0).variable ≤ (get_or row at.0.0 r.0).variable =
        rising row up i at.0.0 r.0 late at.0.1 in
        let first : get_or row i m ≡ get_or row i r.0 = get_or_default row i m r.0 below in
        let first_variable = ap (λ (l : Literal). l.variable) first in
        let last : (get_or row at.0.0 r.0).variable ≡ r.0.variable = ap (λ (l : Literal). l.variable) at.0.2 in
        let over : r.0.variable ≡ x = at.1 in
        absurd (apart (omega arith)))
        (option_cases (literal_over row x))

-- assumed values are looked up as literals are

abbrev pub sign : Literal → Bool
sign l = l.positive

pub value_over : (ls : List Literal) (x : ℕ) → assumed_value ls x ≡ option_map sign (literal_over ls x)
value_over [] x = refl
value_over (l ∷ ls) x = ⊎_elim
    (λ t. cond-true (nat_eq l.variable x) (Some l.positive) (assumed_value ls x) t
    ∙ sym (ap (option_map sign) (cond-true (nat_eq l.variable x) (Some l) (literal_over ls x) t)))
    (λ n. cond-false (nat_eq l.variable x) (Some l.positive) (assumed_value ls x) n ∙ value_over ls x
    ∙ sym (ap (option_map sign) (cond-false (nat_eq l.variable x) (Some l) (literal_over ls x) n)))
    (cases_Bool (nat_eq l.variable x))
