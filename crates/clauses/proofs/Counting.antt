-- How many variables a clause has.
use Rattle.std.proofs.Common.{◌≡◌, ℕ, zero, suc, ◌+◌, ◌<◌, ℤ, nat_abs, Bool, true, false, ◌||◌, cond, List, [], ◌∷◌, ◌++◌, length, map, take, get_or, refl, sym, ap, ◌∙◌, arith}
use Rattle.std.specs.Prelude.{◌==◌, nat_lt, if◌then◌else◌}
use Rattle.std.specs.List.{list_any}
use Rattle.std.proofs.lemmas.Bool.{ne_eqb, eqb-true, eqb-false, eq-eqb}
use Rattle.std.proofs.lemmas.Bool.Decides.{nat_tests}
use Rattle.prefix.specs.Scopes.{is_among, IsAscending}
use Rattle.clauses.specs.Clause.{put, ascending, variables_of}
use Rattle.clauses.proofs.Ascending.{all_from, below_all, ascending_same, ascending_is, ascending_among}

-- a number is among the variables where one of the literals is over it
pub map_among : (v : ℕ) (xs : List ℤ) → is_among v (map nat_abs xs) ≡ list_any (λ m. nat_abs m == v) xs
map_among v [] = refl
map_among v (x ∷ xs) = ap (λ b. nat_abs x == v || b) (map_among v xs)

put_length : (n : ℕ) (ms : List ℕ) → IsAscending ms → length (put n ms) ≡ cond (is_among n ms) (length ms)
    (suc (length ms))
put_length n [] a = refl
put_length n (m ∷ ms) a = by (nat_lt n m) (n == m) refl refl (put_length n ms a.1)
  where
    suc_cond : (b : Bool) (k : ℕ) → suc (cond b k (suc k)) ≡ cond b (suc k) (suc (suc k))
    suc_cond true k = refl
    suc_cond false k = refl

    by : (b c : Bool) → nat_lt n m ≡ b → (n == m) ≡ c → length (put n ms) ≡ cond (is_among n ms) (length ms)
        (suc (length ms))
        → length (if b then n ∷ m ∷ ms else if c then m ∷ ms else m ∷ put n ms) ≡ cond (m == n || is_among n ms)
        (suc (length ms)) (suc (suc (length ms)))
    by true c e f later =
        let low : n < m = grind (arith, nat_tests, e) in
        let none : (m == n || is_among n ms) ≡ false = below_all n (m ∷ ms)
        (low, all_from (λ z. m < z) (λ z. n < z) ms (λ z h. omega (arith, h, low)) a.0) in
        ap (λ b. cond b (suc (length ms)) (suc (suc (length ms)))) (sym none)
    by false true e f later =
        let same : (m == n) ≡ true = eq-eqb m n (sym (eqb-true n m f)) in
        ap (λ b. cond (b || is_among n ms) (suc (length ms)) (suc (suc (length ms)))) (sym same)
    by false false e f later =
        let other : (m == n) ≡ false = ne_eqb m n (λ q. eqb-false n m f (sym q)) in
        ap suc later ∙ suc_cond (is_among n ms) (length ms)
        ∙ ap (λ b. cond (b || is_among n ms) (suc (length ms)) (suc (suc (length ms)))) (sym other)

or_regrouped : (a b c : Bool) → (a || (b || c)) ≡ (b || (a || c))
or_regrouped true true c = refl
or_regrouped true false c = refl
or_regrouped false b c = refl

last_among : (v : ℕ) (xs : List ℕ) (w : ℕ) → is_among w (xs ++ v ∷ []) ≡ is_among w (v ∷ xs)
last_among v [] w = refl
last_among v (x ∷ xs) w = ap (λ b. x == w || b) (last_among v xs w) ∙ or_regrouped (x == w) (v == w) (is_among w xs)

map_last : (xs : List ℤ) (x : ℤ) → map nat_abs (xs ++ x ∷ []) ≡ map nat_abs xs ++ nat_abs x ∷ []
map_last [] x = refl
map_last (y ∷ ys) x = ap (λ r. nat_abs y ∷ r) (map_last ys x)

take_last : (xs : List ℤ) (i : ℕ) (d : ℤ) → i < length xs → take (suc i) xs ≡ take i xs ++ get_or xs i d ∷ []
take_last [] i d low = absurd (omega arith)
take_last (x ∷ xs) zero d low = refl
take_last (x ∷ xs) (suc i) d low = ap (λ r. x ∷ r) (take_last xs i d (omega arith))

-- one more literal
pub variables_more : (xs : List ℤ) (i : ℕ) (d : ℤ) → i < length xs
    → length (variables_of (take (i + 1) xs)) ≡ cond (is_among (nat_abs (get_or xs i d)) (map nat_abs (take i xs)))
    (length (variables_of (take i xs))) (suc (length (variables_of (take i xs))))
variables_more xs i d low =
    let v : ℕ = nat_abs (get_or xs i d) in
    let vs : List ℕ = map nat_abs (take i xs) in
    let plus : i + 1 ≡ suc i = omega arith in
    ap (λ m. length (variables_of (take m xs))) plus
    ∙ ap (λ ys. length (variables_of ys)) (take_last xs i d low)
    ∙ ap (λ us. length (ascending us)) (map_last (take i xs) (get_or xs i d))
    ∙ ap length (ascending_same (vs ++ v ∷ []) (v ∷ vs) (last_among v vs))
    ∙ put_length v (ascending vs) (ascending_is vs)
    ∙ ap (λ b. cond b (length (ascending vs)) (suc (length (ascending vs)))) (ascending_among v vs)

pub variables_kept : (xs : List ℤ) (i count : ℕ) (d : ℤ) → i < length xs
    → list_any (λ m. nat_abs m == nat_abs (get_or xs i d)) (take i xs) ≡ true
    → count ≡ length (variables_of (take i xs)) → count ≡ length (variables_of (take (i + 1) xs))
variables_kept xs i count d low e is = is
    ∙ sym (variables_more xs i d low
    ∙ ap (λ b. cond b (length (variables_of (take i xs))) (suc (length (variables_of (take i xs)))))
    (map_among (nat_abs (get_or xs i d)) (take i xs) ∙ e))

pub variables_grown : (xs : List ℤ) (i count : ℕ) (d : ℤ) → i < length xs
    → list_any (λ m. nat_abs m == nat_abs (get_or xs i d)) (take i xs) ≡ false
    → count ≡ length (variables_of (take i xs)) → count + 1 ≡ length (variables_of (take (i + 1) xs))
variables_grown xs i count d low e is =
    let more : length (variables_of (take (i + 1) xs)) ≡ suc (length (variables_of (take i xs))) =
    variables_more xs i d low
    ∙ ap (λ b. cond b (length (variables_of (take i xs))) (suc (length (variables_of (take i xs)))))
    (map_among (nat_abs (get_or xs i d)) (take i xs) ∙ e) in
    omega (arith, is, more)
