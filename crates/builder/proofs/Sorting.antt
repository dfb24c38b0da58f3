-- The row of a clause, from its circuit literals sorted and without repeats.
use Rattle.std.proofs.Common.{◌≡◌, ℕ, ◌+◌, ◌*◌, ◌/◌, ◌<◌, ⊎_elim, Bool, true, false, not, ◌&&◌, ◌||◌, cond, List, [], ◌∷◌, length, map, filter, refl, sym, ap, ◌∙◌, get_or, arith, nat_eq}
use Rattle.std.specs.List.{AllByRecursion, list_any, dedup}
use Rattle.std.specs.List.Sorted.{IsPermutation, IsSorted}
use Rattle.std.specs.Ordering.{nat_cmp}
use Rattle.std.proofs.lemmas.Bool.{cases_Bool, eqb-true, eq-eqb, or_cases, or_left, or_right, true≢false}
use Rattle.std.proofs.lemmas.Map.Keys.{IsStrictlyIncreasing-dedup, sorted_from_strictly_increasing}
use Rattle.prefix.specs.Scopes.{is_among, IsAscending}
use Rattle.clauses.specs.Codes.{has_pair}
use Rattle.clauses.proofs.Ascending.{ascending_of, all_from, below_all, permuted_among}
use Rattle.clauses.proofs.Rows.{dedup_among, ascending_from, pair_witness, apart, halves_ascend}
use Rattle.builder.specs.Rows.{flipped, literal_of, is_left_out, as_row}
use Rattle.builder.specs.Building.{has_one, row_of_sorted}
use Rattle.builder.proofs.Lists.{among_get, any_at, any_from, same_bools}
use Rattle.builder.proofs.Opposites.{flip_even, flip_odd, parity}

-- what sorting and leaving out repeats gives
pub sorted_left : (begun sorted done : List ℕ) → IsPermutation begun sorted → IsSorted nat_cmp sorted
    → done ≡ dedup (λ a b. nat_eq a b) sorted
    → IsAscending done × ((c : ℕ) → is_among c done ≡ is_among c begun)
sorted_left begun sorted done moved order left = (
  rw left
      (ascending_from (dedup (λ a b. nat_eq a b) sorted)
      (sorted_from_strictly_increasing (dedup (λ a b. nat_eq a b) sorted) (IsStrictlyIncreasing-dedup sorted order))),
  λ c. ap (is_among c) left ∙ dedup_among c sorted ∙ sym (permuted_among c begun sorted moved),
)

-- 1 is the first, or the second behind 0
one_first : (done : List ℕ) → IsAscending done → is_among 1 done ≡ true → (has_one done || has_pair done) ≡ true
one_first [] up t = cc
one_first (x ∷ []) up t =
    ⊎_elim (λ e. or_left (nat_eq x 1) false e) (λ e. absurd (let g : false ≡ true = e in cc))
    (or_cases (nat_eq x 1) false t)
one_first (x ∷ y ∷ ys) up t =
    ⊎_elim (λ e. or_left (nat_eq x 1) (has_pair (x ∷ y ∷ ys)) e)
    (λ e.
    let low : x < y = up.0.0 in
    let second : y ≡ 1 = ⊎_elim (λ f. eqb-true y 1 f)
    (λ f. absurd
    (true≢false
    (sym f ∙ below_all 1 ys (all_from (λ z. y < z) (λ z. 1 < z) ys (λ z h. omega (arith, h, low)) up.1.0))))
    (or_cases (nat_eq y 1) (is_among 1 ys) e) in
    let half : x / 2 ≡ y / 2 = omega (arith, low, second) in
    or_right (nat_eq x 1) (has_pair (x ∷ y ∷ ys))
    (or_left (nat_eq (x / 2) (y / 2)) (has_pair (y ∷ ys)) (eq-eqb (x / 2) (y / 2) half)))
    (or_cases (nat_eq x 1) (is_among 1 (y ∷ ys)) t)

one_there : (done : List ℕ) → has_one done ≡ true → is_among 1 done ≡ true
one_there [] t = cc
one_there (x ∷ xs) t = or_left (nat_eq x 1) (is_among 1 xs) t

abbrev keeps : ℕ → Bool
keeps n = not (nat_eq n 0)

all_filter : (P : ℕ → Type 0) (xs : List ℕ) → AllByRecursion P xs → AllByRecursion P (filter keeps xs)
all_filter P [] h = tt
all_filter P (x ∷ xs) h = by (keeps x) (all_filter P xs h.1)
  where
    by : (b : Bool) → AllByRecursion P (filter keeps xs)
        → AllByRecursion P (cond b (x ∷ filter keeps xs) (filter keeps xs))
    by true rest = (h.0, rest)
    by false rest = rest

filter_up : (xs : List ℕ) → IsAscending xs → IsAscending (filter keeps xs)
filter_up [] h = tt
filter_up (x ∷ xs) h = by (keeps x) (filter_up xs h.1)
  where
    by : (b : Bool) → IsAscending (filter keeps xs) → IsAscending (cond b (x ∷ filter keeps xs) (filter keeps xs))
    by true rest = (all_filter (λ y. x < y) xs h.0, rest)
    by false rest = rest

filter_among : (v : ℕ) (xs : List ℕ) → is_among v (filter keeps xs) ≡ (is_among v xs && keeps v)
filter_among v [] = refl
filter_among v (x ∷ xs) = by (keeps x) refl (filter_among v xs)
  where
    yes_ : (a b c : Bool) → (a ≡ true → c ≡ true) → (a || (b && c)) ≡ ((a || b) && c)
    yes_ true b c f = sym (f refl)
    yes_ false b c f = refl

    no_ : (a b c : Bool) → (a ≡ true → c ≡ false) → (b && c) ≡ ((a || b) && c)
    no_ true true c f = refl
    no_ true false c f = sym (f refl)
    no_ false b c f = refl

    by : (b : Bool) → keeps x ≡ b → is_among v (filter keeps xs) ≡ (is_among v xs && keeps v)
        → is_among v (cond b (x ∷ filter keeps xs) (filter keeps xs)) ≡ ((nat_eq x v || is_among v xs) && keeps v)
    by true e rest = ap (λ r. nat_eq x v || r) rest ∙ yes_ (nat_eq x v) (is_among v xs) (keeps v)
        (λ t. ap keeps (sym (eqb-true x v t)) ∙ e)
    by false e rest = rest ∙ no_ (nat_eq x v) (is_among v xs) (keeps v) (λ t. ap keeps (sym (eqb-true x v t)) ∙ e)

module _ (clause done : List ℕ) (up : IsAscending done) (same : (c : ℕ) → is_among c done ≡ is_among c clause) where
  pub left_out_is : (has_one done || has_pair done) ≡ is_left_out clause
  left_out_is = same_bools (has_one done || has_pair done) (is_left_out clause) forth back
    where
      forth : (has_one done || has_pair done) ≡ true → is_left_out clause ≡ true
      forth t =
          ⊎_elim (λ e. or_left (is_among 1 clause) (list_any (λ n. is_among (flipped n) clause) clause)
          (sym (same 1) ∙ one_there done e))
          (λ e.
          let w = pair_witness done up e in
          let next : flipped (2 * w.0) ≡ 2 * w.0 + 1 = flip_even (2 * w.0) w.0 refl in
          or_right (is_among 1 clause) (list_any (λ n. is_among (flipped n) clause) clause)
          (any_from (λ n. is_among (flipped n) clause) clause (2 * w.0) (sym (same (2 * w.0)) ∙ w.1)
          (ap (λ n. is_among n clause) next ∙ sym (same (2 * w.0 + 1)) ∙ w.2)))
          (or_cases (has_one done) (has_pair done) t)

      both_signs : (n : ℕ) → is_among n done ≡ true → is_among (flipped n) done ≡ true → has_pair done ≡ true
      both_signs n a b =
          ⊎_elim (λ t. t)
          (λ f.
          let halves = halves_ascend done up f in
          absurd (⊎_elim
          (λ (e : n ≡ 2 * (n / 2)).
          let here : is_among (2 * (n / 2)) done ≡ true = ap (λ k. is_among k done) (sym e) ∙ a in
          let there : is_among (2 * (n / 2) + 1) done ≡ true =
          ap (λ k. is_among k done) (sym (flip_even n (n / 2) e)) ∙ b in
          true≢false (sym there ∙ apart done halves (n / 2) here))
          (λ (o : n ≡ 2 * (n / 2) + 1).
          let there : is_among (2 * (n / 2) + 1) done ≡ true = ap (λ k. is_among k done) (sym o) ∙ a in
          let here : is_among (2 * (n / 2)) done ≡ true = ap (λ k. is_among k done) (sym (flip_odd n (n / 2) o)) ∙ b in
          true≢false (sym there ∙ apart done halves (n / 2) here))
          (parity n)))
          (cases_Bool (has_pair done))

      back : is_left_out clause ≡ true → (has_one done || has_pair done) ≡ true
      back t =
          ⊎_elim (λ e. one_first done up (same 1 ∙ e))
          (λ e.
          let r = any_at (λ n. is_among (flipped n) clause) clause e in
          or_right (has_one done) (has_pair done)
          (both_signs r.0 (same r.0 ∙ r.1) (same (flipped r.0) ∙ r.2)))
          (or_cases (is_among 1 clause) (list_any (λ n. is_among (flipped n) clause) clause) t)

  pub row_is : row_of_sorted done ≡ as_row clause
  row_is = ap (map literal_of) (ascending_of (filter keeps done) (filter keeps clause) (filter_up done up)
      (λ v. filter_among v done ∙ ap (λ b. b && keeps v) (same v) ∙ sym (filter_among v clause)))

-- a clause that isn't left out has no 1
pub no_one : (done : List ℕ) → IsAscending done → (has_one done || has_pair done) ≡ false → (k d : ℕ)
    → k < length done → get_or done k d ≡ 1 → ⊥
no_one done up f k d below e =
    true≢false (sym (one_first done up (ap (λ n. is_among n done) (sym e) ∙ among_get done k d below)) ∙ f)
