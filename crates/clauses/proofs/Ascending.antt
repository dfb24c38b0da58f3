-- Ascending lists.
use Rattle.std.proofs.Common.{◌≡◌, ℕ, suc, ◌<◌, ◌≤◌, Bool, true, false, ◌||◌, List, [], ◌∷◌, length, refl, sym, ap, ◌∙◌, ⊎_elim, arith}
use Rattle.std.specs.Prelude.{◌==◌, nat_lt, if◌then◌else◌}
use Rattle.std.specs.List.{AllByRecursion, list_any}
use Rattle.std.specs.List.Sorted.{IsPermutation}
use Rattle.std.proofs.lemmas.List.Sorted.{list_any-IsPermutation}
use Rattle.std.proofs.lemmas.Bool.{ne_eqb, eqb-true, eqb-false, eq-eqb, cases_eq, cases_lt, ltb-false, or_left}
use Rattle.std.proofs.lemmas.Bool.Decides.{nat_tests}
use Rattle.prefix.specs.Scopes.{is_among, IsAscending}
use Rattle.clauses.specs.Clause.{put, ascending}

-- what holds of all holds of what holds where it does
pub all_from : (P Q : ℕ → Type 0) (xs : List ℕ) → ((x : ℕ) → P x → Q x) → AllByRecursion P xs → AllByRecursion Q xs
all_from P Q [] f all = tt
all_from P Q (x ∷ xs) f all = (f x all.0, all_from P Q xs f all.1)

-- a number below all is none of them
pub below_all : (v : ℕ) (xs : List ℕ) → AllByRecursion (λ y. v < y) xs → is_among v xs ≡ false
below_all v [] all = refl
below_all v (x ∷ xs) all =
    let e : (x == v) ≡ false = ne_eqb x v (λ q. let low : v < x = all.0 in omega (arith, q, low)) in
    ap (λ b. b || is_among v xs) e ∙ below_all v xs all.1

pub true_is_not : {A : Type 0} → true ≡ false → A
true_is_not e = absurd (let f : true ≡ false = e in cc)

head_same : (x y : ℕ) (xs ys : List ℕ) → AllByRecursion (λ z. x < z) xs → AllByRecursion (λ z. y < z) ys
    → ((v : ℕ) → is_among v (x ∷ xs) ≡ is_among v (y ∷ ys)) → (x < y) → ⊥
head_same x y xs ys low high same lt =
    let none : is_among x (y ∷ ys) ≡ false = below_all x (y ∷ ys)
    (lt, all_from (λ z. y < z) (λ z. x < z) ys (λ z h. omega (arith, h, lt)) high) in
    let some : is_among x (x ∷ xs) ≡ true = or_left (x == x) (is_among x xs) (eq-eqb x x refl) in
    true_is_not (sym some ∙ same x ∙ none)

tail_same : (x : ℕ) (xs ys : List ℕ) → AllByRecursion (λ z. x < z) xs → AllByRecursion (λ z. x < z) ys
    → ((v : ℕ) → is_among v (x ∷ xs) ≡ is_among v (x ∷ ys)) → (v : ℕ) → is_among v xs ≡ is_among v ys
tail_same x xs ys low high same v = by (x == v) refl
  where
    by : (b : Bool) → (x == v) ≡ b → is_among v xs ≡ is_among v ys
    by true e = rw (← eqb-true x v e) (below_all x xs low ∙ sym (below_all x ys high))
    by false e = ap (λ b. b || is_among v xs) (sym e) ∙ same v ∙ ap (λ b. b || is_among v ys) e

-- ascending lists with the same elements are the same
pub same_elements : (xs ys : List ℕ) → IsAscending xs → IsAscending ys → ((v : ℕ) → is_among v xs ≡ is_among v ys)
    → xs ≡ ys
same_elements [] [] a b same = refl
same_elements [] (y ∷ ys) a b same = true_is_not (sym (or_left (y == y) (is_among y ys) (eq-eqb y y refl))
    ∙ sym (same y))
same_elements (x ∷ xs) [] a b same = true_is_not (sym (or_left (x == x) (is_among x xs) (eq-eqb x x refl)) ∙ same x)
same_elements (x ∷ xs) (y ∷ ys) a b same =
    let first : x ≡ y = ⊎_elim (λ e. e)
    (λ n. absurd
    (⊎_elim (λ lt. head_same x y xs ys a.0 b.0 same lt)
    (λ ge. head_same y x ys xs b.0 a.0 (λ v. sym (same v)) (omega (arith, ge, n))) (cases_lt x y)))
    (cases_eq x y) in
    let above : AllByRecursion (λ z. x < z) ys = rw first b.0 in
    let same_tails : (v : ℕ) → is_among v xs ≡ is_among v ys = tail_same x xs ys a.0 above
    (λ v. same v ∙ ap (λ z. is_among v (z ∷ ys)) (sym first)) in
    ap (λ z. z ∷ xs) first ∙ ap (λ zs. y ∷ zs) (same_elements xs ys a.1 b.1 same_tails)

-- a number put in
pub put_among : (w n : ℕ) (ms : List ℕ) → is_among w (put n ms) ≡ (n == w || is_among w ms)
put_among w n [] = refl
put_among w n (m ∷ ms) = grind (arith, nat_tests, put_among w n ms)

put_above : (x n : ℕ) (ms : List ℕ) → x < n → AllByRecursion (λ z. x < z) ms → AllByRecursion (λ z. x < z) (put n ms)
put_above x n [] low all = (low, tt)
put_above x n (m ∷ ms) low all = by (nat_lt n m) (n == m) (put_above x n ms low all.1)
  where
    by : (a b : Bool) → AllByRecursion (λ z. x < z) (put n ms) → AllByRecursion (λ z. x < z)
        (if a then n ∷ m ∷ ms else if b then m ∷ ms else m ∷ put n ms)
    by true true later = (low, all)
    by true false later = (low, all)
    by false true later = all
    by false false later = (all.0, later)

put_ascending : (n : ℕ) (ms : List ℕ) → IsAscending ms → IsAscending (put n ms)
put_ascending n [] a = (tt, tt)
put_ascending n (m ∷ ms) a = by (nat_lt n m) (n == m) refl refl (put_ascending n ms a.1)
  where
    by : (b c : Bool) → nat_lt n m ≡ b → (n == m) ≡ c → IsAscending (put n ms)
        → IsAscending (if b then n ∷ m ∷ ms else if c then m ∷ ms else m ∷ put n ms)
    by true c e f later = let low : n < m = grind (arith, nat_tests, e) in
        ((low, all_from (λ z. m < z) (λ z. n < z) ms (λ z h. omega (arith, h, low)) a.0), a)
    by false true e f later = a
    by false false e f later =
        let other : n ≡ m → ⊥ = eqb-false n m f in
        let least : m ≤ n = ltb-false n m e in
        (put_above m n ms (omega (arith, other, least)) a.0, later)

pub ascending_is : (ns : List ℕ) → IsAscending (ascending ns)
ascending_is [] = tt
ascending_is (n ∷ ns) = put_ascending n (ascending ns) (ascending_is ns)

pub ascending_among : (w : ℕ) (ns : List ℕ) → is_among w (ascending ns) ≡ is_among w ns
ascending_among w [] = refl
ascending_among w (n ∷ ns) = put_among w n (ascending ns) ∙ ap (λ b. n == w || b) (ascending_among w ns)

-- it has no more of them
put_short : (n : ℕ) (ms : List ℕ) → length (put n ms) ≤ suc (length ms)
put_short n [] = omega arith
put_short n (m ∷ ms) = by (nat_lt n m) (n == m) (put_short n ms)
  where
    by : (b c : Bool) → length (put n ms) ≤ suc (length ms)
        → length (if b then n ∷ m ∷ ms else if c then m ∷ ms else m ∷ put n ms) ≤ suc (suc (length ms))
    by true c h = omega arith
    by false true h = omega arith
    by false false h = omega (arith, h)

pub ascending_short : (ns : List ℕ) → length (ascending ns) ≤ length ns
ascending_short [] = omega arith
ascending_short (n ∷ ns) = omega (arith, put_short n (ascending ns), ascending_short ns)

-- the ascending list of the same elements
pub ascending_of : (xs ns : List ℕ) → IsAscending xs → ((v : ℕ) → is_among v xs ≡ is_among v ns) → xs ≡ ascending ns
ascending_of xs ns a same = same_elements xs (ascending ns) a (ascending_is ns)
    (λ v. same v ∙ sym (ascending_among v ns))

pub ascending_same : (xs ys : List ℕ) → ((v : ℕ) → is_among v xs ≡ is_among v ys) → ascending xs ≡ ascending ys
ascending_same xs ys same = ascending_of (ascending xs) ys (ascending_is xs) (λ v. ascending_among v xs ∙ same v)

-- a list in another order has the same elements
among_any : (v : ℕ) (xs : List ℕ) → is_among v xs ≡ list_any (λ x. x == v) xs
among_any v [] = refl
among_any v (x ∷ xs) = ap (λ b. x == v || b) (among_any v xs)

pub permuted_among : (v : ℕ) (xs ys : List ℕ) → IsPermutation xs ys → is_among v xs ≡ is_among v ys
permuted_among v xs ys p = among_any v xs ∙ list_any-IsPermutation (λ x. x == v) xs ys p ∙ sym (among_any v ys)
