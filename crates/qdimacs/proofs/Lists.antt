-- What holds of each element of a list, and one more element.
use Rattle.std.proofs.Common.{◌≡◌, ℕ, zero, suc, ◌<◌, false, ◌||◌, List, [], ◌∷◌, ◌++◌, length, take, drop, refl, sym, ap, ◌∙◌, arith}
use Rattle.std.specs.Prelude.{◌==◌}
use Rattle.std.specs.List.{AllByRecursion}
use Rattle.std.proofs.lemmas.Bool.{eqb-false, ne_eqb, or_parts}
use Rattle.prefix.specs.Scopes.{is_among, AreDistinct, IsAscending}
use Rattle.clauses.proofs.Ascending.{below_all}

pub all_more : {X : Type 0} (P : X → Type 0) (xs : List X) (x : X) → AllByRecursion P xs → P x → AllByRecursion P
    (xs ++ x ∷ [])
all_more P [] x all h = (h, tt)
all_more P (y ∷ ys) x all h = (all.0, all_more P ys x all.1 h)

pub all_joined : {X : Type 0} (P : X → Type 0) (xs ys : List X) → AllByRecursion P xs → AllByRecursion P ys
    → AllByRecursion P (xs ++ ys)
all_joined P [] ys h k = k
all_joined P (x ∷ xs) ys h k = (h.0, all_joined P xs ys h.1 k)

pub all_kept : {X : Type 0} (P Q : X → Type 0) (xs : List X) → ((x : X) → P x → Q x) → AllByRecursion P xs
    → AllByRecursion Q xs
all_kept P Q [] f h = tt
all_kept P Q (x ∷ xs) f h = (f x h.0, all_kept P Q xs f h.1)

pub all_taken : {X : Type 0} (P : X → Type 0) (n : ℕ) (xs : List X) → AllByRecursion P xs
    → AllByRecursion P (take n xs)
all_taken P zero xs h = tt
all_taken P (suc n) [] h = tt
all_taken P (suc n) (x ∷ xs) h = (h.0, all_taken P n xs h.1)

pub all_first : {X : Type 0} (P : X → Type 0) (xs ys : List X) → AllByRecursion P (xs ++ ys) → AllByRecursion P xs
all_first P [] ys h = tt
all_first P (x ∷ xs) ys h = (h.0, all_first P xs ys h.1)

pub all_second : {X : Type 0} (P : X → Type 0) (xs ys : List X) → AllByRecursion P (xs ++ ys) → AllByRecursion P ys
all_second P [] ys h = h
all_second P (x ∷ xs) ys h = all_second P xs ys h.1

none_taken : {X : Type 0} (P : X → Type 0) (n : ℕ) → AllByRecursion P (take n [])
none_taken P zero = tt
none_taken P (suc n) = tt

pub on_more : {X : Type 0} (P : X → Type 0) (n : ℕ) (xs : List X) (x : X) → AllByRecursion P (take n xs)
    → (length xs < n → P x) → AllByRecursion P (take n (xs ++ x ∷ []))
on_more P zero xs x all h = tt
on_more P (suc n) [] x all h = (h (omega arith), none_taken P n)
on_more P (suc n) (y ∷ ys) x all h = (all.0, on_more P n ys x all.1 (λ lt. h (omega arith)))

pub fifth_more : {X : Type 0} (P : X → Type 0) (n : ℕ) (xs : List X) (x : X) → AllByRecursion P (take 1 (drop n xs))
    → (length xs ≡ n → P x) → AllByRecursion P (take 1 (drop n (xs ++ x ∷ [])))
fifth_more P zero [] x all h = (h refl, tt)
fifth_more P zero (y ∷ ys) x all h = (all.0, tt)
fifth_more P (suc zero) [] x all h = tt
fifth_more P (suc (suc n)) [] x all h = tt
fifth_more P (suc n) (y ∷ ys) x all h = fifth_more P n ys x all (λ e. h (ap suc e))

new_last : (u : ℕ) (us : List ℕ) (v : ℕ) → is_among u us ≡ false → (u == v) ≡ false → is_among u (us ++ v ∷ []) ≡ false
new_last u [] v h e = ap (λ t. t || false) (ne_eqb v u (λ q. eqb-false u v e (sym q)))
new_last u (w ∷ ws) v h e = let parts : ((w == u) ≡ false) × (is_among u ws ≡ false) = or_parts (w == u) (is_among u ws)
    h in ap (λ t. t || is_among u (ws ++ v ∷ [])) parts.0 ∙ new_last u ws v parts.1 e

pub distinct_more : (vs : List ℕ) (v : ℕ) → AreDistinct vs → is_among v vs ≡ false → AreDistinct (vs ++ v ∷ [])
distinct_more [] v all h = (refl, tt)
distinct_more (u ∷ us) v all h =
    let parts : ((u == v) ≡ false) × (is_among v us ≡ false) = or_parts (u == v) (is_among v us) h in
    (new_last u us v all.0 parts.0, distinct_more us v all.1 parts.1)

pub ascending_distinct : (xs : List ℕ) → IsAscending xs → AreDistinct xs
ascending_distinct [] h = tt
ascending_distinct (x ∷ xs) h = (below_all x xs h.0, ascending_distinct xs h.1)
