-- The row of a clause, from its codes sorted and without repeats.
use Rattle.std.proofs.Common.{◌≡◌, ℕ, zero, suc, ◌+◌, ◌*◌, ◌/◌, ◌%◌, ◌<◌, ℤ, pos, negsuc, nat_abs, Bool, true, false, ◌||◌, cond, List, [], ◌∷◌, length, map, get_or, refl, sym, ap, subst, ◌∙◌, arith}
use Rattle.std.specs.Prelude.{◌==◌, neg_ℤ, Some, None, if◌then◌else◌}
use Rattle.std.specs.Ordering.{int_eq, nat_cmp}
use Rattle.std.specs.List.{AllByRecursion, list_any, dedup, dedup_from}
use Rattle.std.specs.List.Sorted.{IsPermutation, IsSorted, IsStrictlySortedBy}
use Rattle.std.proofs.lemmas.Bool.{eqb-true, eqb-false, eq-eqb, ne_eqb, false_from_ne_true, or_left, or_parts, or_right}
use Rattle.std.proofs.lemmas.Bool.Decides.{nat_tests}
use Rattle.prefix.specs.Scopes.{is_among, IsAscending}
use Rattle.clauses.specs.Clause.{has_literal, is_tautology, as_row, row_unless_tautology}
use Rattle.clauses.specs.Codes.{code_of, codes_of, has_pair, literal_of}
use Rattle.clauses.proofs.Ascending.{ascending_of, all_from, below_all, permuted_among, true_is_not}
use Rattle.std.proofs.lemmas.Map.Keys.{IsStrictlyIncreasing-dedup, sorted_from_strictly_increasing, below_from_sorted}

-- membership in halves
half_is : (x v : ℕ) → (x / 2 == v) ≡ ((x == 2 * v) || (x == 2 * v + 1))
half_is x v = grind (arith, nat_tests)

or_four : (a b c d : Bool) → ((a || b) || (c || d)) ≡ ((a || c) || (b || d))
or_four true b c d = refl
or_four false true true d = refl
or_four false true false d = refl
or_four false false c d = refl

pub halves_among : (v : ℕ) (xs : List ℕ) → is_among v (map (λ c. c / 2) xs) ≡
    (is_among (2 * v) xs || is_among (2 * v + 1) xs)
halves_among v [] = refl
halves_among v (x ∷ xs) = ap (λ b. b || is_among v (map (λ c. c / 2) xs)) (half_is x v)
    ∙ ap (λ b. ((x == 2 * v) || (x == 2 * v + 1)) || b) (halves_among v xs) ∙ or_four (x == 2 * v) (x == 2 * v + 1)
    (is_among (2 * v) xs) (is_among (2 * v + 1) xs)

code_half : (n : ℤ) → code_of n / 2 ≡ nat_abs n
code_half (pos n) = let h : (2 * n + 1) / 2 ≡ n = omega arith in h
code_half (negsuc n) = let h : (2 * (n + 1)) / 2 ≡ suc n = omega arith in h

pub codes_half : (clause : List ℤ) → map (λ c. c / 2) (codes_of clause) ≡ map nat_abs clause
codes_half [] = refl
codes_half (n ∷ ns) = ap (λ a. a ∷ map (λ c. c / 2) (codes_of ns)) (code_half n) ∙ ap (λ r. nat_abs n ∷ r)
    (codes_half ns)

-- halves ascend where there is no pair
pub halves_ascend : (xs : List ℕ) → IsAscending xs → has_pair xs ≡ false → IsAscending (map (λ c. c / 2) xs)
halves_ascend [] a e = tt
halves_ascend (x ∷ []) a e = (tt, tt)
halves_ascend (x ∷ y ∷ xs) a e =
    let parts : ((x / 2 == y / 2) ≡ false) × (has_pair (y ∷ xs) ≡ false) = or_parts (x / 2 == y / 2) (has_pair (y ∷ xs))
    e in
    let rest : IsAscending (map (λ c. c / 2) (y ∷ xs)) = halves_ascend (y ∷ xs) a.1 parts.1 in
    let other : x / 2 ≡ y / 2 → ⊥ = eqb-false (x / 2) (y / 2) parts.0 in
    let below : x < y = a.0.0 in
    let less : x / 2 < y / 2 = omega (arith, other, below) in (
      (less, all_from (λ z. y / 2 < z) (λ z. x / 2 < z) (map (λ c. c / 2) xs) (λ z h. omega (arith, h, less)) rest.0),
      rest,
    )

-- a positive literal is found by its code
pos_code : (v : ℕ) (n : ℤ) → int_eq (pos v) n ≡ (code_of n == 2 * v + 1)
pos_code v (pos m) = grind (arith, nat_tests)
pos_code v (negsuc m) = grind (arith, nat_tests)

pub positive_among : (v : ℕ) (ls : List ℤ) → has_literal (pos v) ls ≡ is_among (2 * v + 1) (codes_of ls)
positive_among v [] = refl
positive_among v (n ∷ ns) = ap (λ b. b || has_literal (pos v) ns) (pos_code v n)
    ∙ ap (λ b. (code_of n == 2 * v + 1) || b) (positive_among v ns)

neg_code : (v : ℕ) (n : ℤ) → int_eq (neg_ℤ (pos (suc v))) n ≡ (code_of n == 2 * suc v)
neg_code v (pos m) = grind (arith, nat_tests)
neg_code v (negsuc m) = grind (arith, nat_tests)

pub negative_among : (v : ℕ) (ls : List ℤ) → has_literal (neg_ℤ (pos (suc v))) ls ≡ is_among (2 * suc v) (codes_of ls)
negative_among v [] = refl
negative_among v (n ∷ ns) = ap (λ b. b || has_literal (neg_ℤ (pos (suc v))) ns) (neg_code v n)
    ∙ ap (λ b. (code_of n == 2 * suc v) || b) (negative_among v ns)

-- dedup keeps each number
dedup_from_among : (w k : ℕ) (xs : List ℕ) → is_among w (dedup_from (λ a b. a == b) k xs) ≡ (k == w || is_among w xs)
dedup_from_among w k [] = refl
dedup_from_among w k (x ∷ xs) = by (x == k) refl (dedup_from_among w k xs) (dedup_from_among w x xs)
  where
    absorbed : (a b : Bool) → (a || b) ≡ (a || (a || b))
    absorbed true b = refl
    absorbed false b = refl

    by : (t : Bool) → (x == k) ≡ t → is_among w (dedup_from (λ a b. a == b) k xs) ≡ (k == w || is_among w xs)
        → is_among w (dedup_from (λ a b. a == b) x xs) ≡ (x == w || is_among w xs)
        → is_among w (cond t (dedup_from (λ a b. a == b) k xs) (k ∷ dedup_from (λ a b. a == b) x xs)) ≡
        (k == w || (x == w || is_among w xs))
    by true e h i = h ∙ absorbed (k == w) (is_among w xs) ∙ ap (λ z. k == w || (z == w || is_among w xs))
        (sym (eqb-true x k e))
    by false e h i = ap (λ b. k == w || b) i

pub dedup_among : (w : ℕ) (xs : List ℕ) → is_among w (dedup (λ a b. a == b) xs) ≡ is_among w xs
dedup_among w [] = refl
dedup_among w (x ∷ xs) = dedup_from_among w x xs

-- both signs of a variable stand side by side, or not both
pub pair_witness : (xs : List ℕ) → IsAscending xs → has_pair xs ≡ true → (v : ℕ) × (is_among (2 * v) xs ≡ true)
    × (is_among (2 * v + 1) xs ≡ true)
pair_witness [] a e = cc
pair_witness (x ∷ []) a e = cc
pair_witness (x ∷ y ∷ xs) a e = by (x / 2 == y / 2) refl e (pair_witness (y ∷ xs) a.1)
  where
    here : (x / 2 == y / 2) ≡ true → (v : ℕ) × (is_among (2 * v) (x ∷ y ∷ xs) ≡ true)
        × (is_among (2 * v + 1) (x ∷ y ∷ xs) ≡ true)
    here e =
        let same : x / 2 ≡ y / 2 = eqb-true (x / 2) (y / 2) e in
        let below : x < y = a.0.0 in
        let first : x ≡ 2 * (x / 2) = omega (arith, same, below) in
        let second : y ≡ 2 * (x / 2) + 1 = omega (arith, same, below) in (
          x / 2,
          ap (λ b. b || is_among (2 * (x / 2)) (y ∷ xs)) (eq-eqb x (2 * (x / 2)) first),
          or_right (x == 2 * (x / 2) + 1) _
              (ap (λ b. b || is_among (2 * (x / 2) + 1) xs) (eq-eqb y (2 * (x / 2) + 1) second)),
        )

    by : (b : Bool) → (x / 2 == y / 2) ≡ b → (b || has_pair (y ∷ xs)) ≡ true
        → (has_pair (y ∷ xs) ≡ true → (v : ℕ) × (is_among (2 * v) (y ∷ xs) ≡ true)
        × (is_among (2 * v + 1) (y ∷ xs) ≡ true))
        → (v : ℕ) × (is_among (2 * v) (x ∷ y ∷ xs) ≡ true) × (is_among (2 * v + 1) (x ∷ y ∷ xs) ≡ true)
    by true f e h = here f
    by false f e h = let w = h e in (w.0, or_right (x == 2 * w.0) _ w.1, or_right (x == 2 * w.0 + 1) _ w.2)

-- where halves ascend, only one of two codes is there
pub apart : (xs : List ℕ) → IsAscending (map (λ c. c / 2) xs) → (v : ℕ) → is_among (2 * v) xs ≡ true
    → is_among (2 * v + 1) xs ≡ false
apart [] a v e = cc
apart (x ∷ xs) a v e = by (x == 2 * v) (x == 2 * v + 1) refl refl e (apart xs a.1 v)
  where
    rest_none : x / 2 ≡ v → (is_among (2 * v) xs || is_among (2 * v + 1) xs) ≡ false
    rest_none h = sym (halves_among v xs) ∙ below_all v (map (λ c. c / 2) xs)
        (subst (λ z. AllByRecursion (λ y. z < y) (map (λ c. c / 2) xs)) h a.0)

    by : (p q : Bool) → (x == 2 * v) ≡ p → (x == 2 * v + 1) ≡ q → (p || is_among (2 * v) xs) ≡ true
        → (is_among (2 * v) xs ≡ true → is_among (2 * v + 1) xs ≡ false) → (q || is_among (2 * v + 1) xs) ≡ false
    by true true f g e h = absurd (let i : x ≡ 2 * v = eqb-true x (2 * v) f in let j : x ≡ 2 * v + 1 =
        eqb-true x (2 * v + 1) g in omega (arith, i, j))
    by true false f g e h =
        let i : x ≡ 2 * v = eqb-true x (2 * v) f in
        let k : x / 2 ≡ v = omega (arith, i) in
        (or_parts (is_among (2 * v) xs) (is_among (2 * v + 1) xs) (rest_none k)).1
    by false true f g e h =
        let i : x ≡ 2 * v + 1 = eqb-true x (2 * v + 1) g in
        let k : x / 2 ≡ v = omega (arith, i) in
        true_is_not (sym e ∙ (or_parts (is_among (2 * v) xs) (is_among (2 * v + 1) xs) (rest_none k)).0)
    by false false f g e h = h e

none_neg : (full xs : List ℤ) → AllByRecursion (λ n. 0 < nat_abs n) xs
    → ((v : ℕ) → is_among (2 * v) (codes_of xs) ≡ true → has_literal (pos v) full ≡ false)
    → ((m : ℕ) → is_among (2 * suc m + 1) (codes_of xs) ≡ true → has_literal (neg_ℤ (pos (suc m))) full ≡ false)
    → list_any (λ l. has_literal (neg_ℤ l) full) xs ≡ false
none_neg full [] all h i = refl
none_neg full (pos zero ∷ ns) all h i = absurd (let z : 0 < 0 = all.0 in omega (arith, z))
none_neg full (pos (suc m) ∷ ns) all h i =
    ap (λ b. b || list_any (λ l. has_literal (neg_ℤ l) full) ns)
    (i m (or_left (2 * suc m + 1 == 2 * suc m + 1) _ (eq-eqb (2 * suc m + 1) (2 * suc m + 1) refl)))
    ∙ none_neg full ns all.1 (λ v e. h v (or_right (2 * suc m + 1 == 2 * v) _ e))
    (λ k e. i k (or_right (2 * suc m + 1 == 2 * suc k + 1) _ e))
none_neg full (negsuc m ∷ ns) all h i =
    let next : m + 1 ≡ suc m = omega arith in
    let here : has_literal (pos (suc m)) full ≡ false = ap (λ k. has_literal (pos k) full) (sym next)
    ∙ h (m + 1) (or_left (2 * (m + 1) == 2 * (m + 1)) _ (eq-eqb (2 * (m + 1)) (2 * (m + 1)) refl)) in
    ap (λ b. b || list_any (λ l. has_literal (neg_ℤ l) full) ns) here
    ∙ none_neg full ns all.1 (λ v e. h v (or_right (2 * (m + 1) == 2 * v) _ e))
    (λ k e. i k (or_right (2 * (m + 1) == 2 * suc k + 1) _ e))

any_neg : (full xs : List ℤ) (v : ℕ) → is_among (2 * v) (codes_of xs) ≡ true → has_literal (pos v) full ≡ true
    → list_any (λ l. has_literal (neg_ℤ l) full) xs ≡ true
any_neg full [] v e h = cc
any_neg full (pos m ∷ ns) v e h =
    let odd : (2 * m + 1 == 2 * v) ≡ false = ne_eqb (2 * m + 1) (2 * v) (λ q. omega (arith, q)) in
    or_right (has_literal (neg_ℤ (pos m)) full) _
    (any_neg full ns v (ap (λ b. b || is_among (2 * v) (codes_of ns)) (sym odd) ∙ e) h)
any_neg full (negsuc m ∷ ns) v e h = by (2 * (m + 1) == 2 * v) refl e (λ r. any_neg full ns v r h)
  where
    by : (b : Bool) → (2 * (m + 1) == 2 * v) ≡ b → (b || is_among (2 * v) (codes_of ns)) ≡ true
        → (is_among (2 * v) (codes_of ns) ≡ true → list_any (λ l. has_literal (neg_ℤ l) full) ns ≡ true)
        → (has_literal (pos (suc m)) full || list_any (λ l. has_literal (neg_ℤ l) full) ns) ≡ true
    by true f e r =
        let double : 2 * (m + 1) ≡ 2 * v = eqb-true (2 * (m + 1)) (2 * v) f in
        let same : suc m ≡ v = omega (arith, double) in
        or_left (has_literal (pos (suc m)) full) _ (ap (λ k. has_literal (pos k) full) same ∙ h)
    by false f e r = or_right (has_literal (pos (suc m)) full) _ (r e)

row_signs : (clause : List ℤ) (xs : List ℕ)
    → ((c : ℕ) → is_among c xs ≡ true → (c % 2 == 1) ≡ has_literal (pos (c / 2)) clause)
    → map literal_of xs ≡ map (λ v. record { variable = v; positive = has_literal (pos v) clause })
    (map (λ c. c / 2) xs)
row_signs clause [] h = refl
row_signs clause (x ∷ xs) h =
    ap (λ b. record { variable = x / 2; positive = b } ∷ map literal_of xs)
    (h x (or_left (x == x) (is_among x xs) (eq-eqb x x refl)))
    ∙ ap (λ r. record { variable = x / 2; positive = has_literal (pos (x / 2)) clause } ∷ r)
    (row_signs clause xs (λ c e. h c (or_right (x == c) _ e)))

-- sorted codes of a clause
module _ (clause : List ℤ) (done : List ℕ) (all : AllByRecursion (λ n. 0 < nat_abs n) clause)
    (rising : IsAscending done) (same : (c : ℕ) → is_among c done ≡ is_among c (codes_of clause)) where
  pub is_taut : has_pair done ≡ true → is_tautology clause ≡ true
  is_taut e =
      let w = pair_witness done rising e in
      any_neg clause clause w.0 (sym (same (2 * w.0)) ∙ w.1) (positive_among w.0 clause ∙ sym (same (2 * w.0 + 1))
      ∙ w.2)

  pub not_taut : has_pair done ≡ false → is_tautology clause ≡ false
  not_taut e =
      let up : IsAscending (map (λ c. c / 2) done) = halves_ascend done rising e in
      none_neg clause clause all (λ v f. positive_among v clause ∙ sym (same (2 * v + 1))
      ∙ apart done up v (same (2 * v) ∙ f))
      (λ m f. false_from_ne_true (has_literal (neg_ℤ (pos (suc m))) clause)
      (λ g. true_is_not {A = ⊥}
      (sym (same (2 * suc m + 1) ∙ f) ∙ apart done up (suc m) (same (2 * suc m) ∙ sym (negative_among m clause)
      ∙ g))))

  sign_is : has_pair done ≡ false → (c : ℕ) → is_among c done ≡ true → (c % 2 == 1) ≡ has_literal (pos (c / 2)) clause
  sign_is e c f = by (c % 2 == 1) refl ∙ same (2 * (c / 2) + 1) ∙ sym (positive_among (c / 2) clause)
    where
      up : IsAscending (map (λ c. c / 2) done)
      up = halves_ascend done rising e

      by : (b : Bool) → (c % 2 == 1) ≡ b → (c % 2 == 1) ≡ is_among (2 * (c / 2) + 1) done
      by true g =
          let one : c % 2 ≡ 1 = eqb-true (c % 2) 1 g in
          let odd : c ≡ 2 * (c / 2) + 1 = omega (arith, one) in
          g ∙ sym (ap (λ d. is_among d done) (sym odd) ∙ f)
      by false g =
          let other : c % 2 ≡ 1 → ⊥ = eqb-false (c % 2) 1 g in
          let even : c ≡ 2 * (c / 2) = omega (arith, other) in
          g ∙ sym (apart done up (c / 2) (ap (λ d. is_among d done) (sym even) ∙ f))

  pub row_is : has_pair done ≡ false → map literal_of done ≡ as_row clause
  row_is e = row_signs clause done (sign_is e)
      ∙ ap (map (λ v. record { variable = v; positive = has_literal (pos v) clause }))
      (ascending_of (map (λ c. c / 2) done) (map nat_abs clause) (halves_ascend done rising e)
      (λ v. halves_among v done ∙ ap (λ b. b || is_among (2 * v + 1) done) (same (2 * v))
      ∙ ap (λ b. is_among (2 * v) (codes_of clause) || b) (same (2 * v + 1))
      ∙ sym (halves_among v (codes_of clause)) ∙ ap (is_among v) (codes_half clause)))

all_index : (P : ℕ → Type 0) (xs : List ℕ) → ((j : ℕ) → j < length xs → P (get_or xs j 0)) → AllByRecursion P xs
all_index P [] h = tt
all_index P (x ∷ xs) h = (h 0 (omega arith), all_index P xs (λ j l. h (suc j) (omega (arith, l))))

-- ascending, by places
by_place : (xs : List ℕ) → ((i j d : ℕ) → i < j → j < length xs → get_or xs i d < get_or xs j d) → IsAscending xs
by_place [] h = tt
by_place (x ∷ xs) h = (
  all_index (λ y. x < y) xs (λ j l. h 0 (suc j) 0 (omega arith) (omega (arith, l))),
  by_place xs (λ i j d lt l. h (suc i) (suc j) d (omega (arith, lt)) (omega (arith, l))),
)

pub ascending_from : (xs : List ℕ) → IsStrictlySortedBy nat_cmp xs → IsAscending xs
ascending_from xs h = by_place xs (λ i j d lt l. below_from_sorted xs i j d h lt l)

-- what is left of a clause's codes
pub codes_left : (clause : List ℤ) (begun sorted done : List ℕ) → begun ≡ codes_of clause → IsPermutation begun sorted
    → IsSorted nat_cmp sorted → done ≡ dedup (λ a b. a == b) sorted
    → IsAscending done × ((c : ℕ) → is_among c done ≡ is_among c (codes_of clause))
codes_left clause begun sorted done is moved order left = (
  rw left (ascending_from (dedup (λ a b. a == b) sorted) (sorted_from_strictly_increasing (dedup (λ a b. a == b) sorted)
      (IsStrictlyIncreasing-dedup sorted order))),
  λ c. ap (is_among c) left ∙ dedup_among c sorted ∙ sym (permuted_among c begun sorted moved) ∙ ap (is_among c) is,
)

-- the row from a clause's codes
module _ (clause : List ℤ) (codes sorted done : List ℕ) (all : AllByRecursion (λ n. 0 < nat_abs n) clause)
    (is : codes ≡ codes_of clause) (moved : IsPermutation codes sorted) (order : IsSorted nat_cmp sorted)
    (left : done ≡ dedup (λ a b. a == b) sorted) where
  left_is : IsAscending done × ((c : ℕ) → is_among c done ≡ is_among c (codes_of clause))
  left_is = codes_left clause codes sorted done is moved order left

  pub no_row : has_pair done ≡ true → None ≡ row_unless_tautology clause
  no_row e = ap (λ t. if t then None else Some (as_row clause)) (sym (is_taut clause done all left_is.0 left_is.1 e))

  pub row_made : has_pair done ≡ false → Some (map literal_of done) ≡ row_unless_tautology clause
  row_made e = ap Some (row_is clause done all left_is.0 left_is.1 e)
      ∙ ap (λ t. if t then None else Some (as_row clause)) (sym (not_taut clause done all left_is.0 left_is.1 e))
