-- What is among the numbers of a list.
use Rattle.std.proofs.Common.{◌≡◌, ℕ, zero, suc, ◌<◌, ⊎_elim, Bool, true, false, ◌||◌, List, [], ◌∷◌, length, get_or, refl, sym, ap, ◌∙◌, arith, nat_eq}
use Rattle.std.specs.List.{list_any}
use Rattle.std.proofs.lemmas.Bool.{eqb-true, eq-eqb, or_cases, or_left, or_right, true≢false}
use Rattle.prefix.specs.Scopes.{is_among}

pub same_bools : (a b : Bool) → (a ≡ true → b ≡ true) → (b ≡ true → a ≡ true) → a ≡ b
same_bools true b f g = sym (f refl)
same_bools false true f g = g refl
same_bools false false f g = refl

pub or_off : (b : Bool) → (b || false) ≡ b
or_off true = refl
or_off false = refl

among_any : (v : ℕ) (xs : List ℕ) → is_among v xs ≡ list_any (λ x. nat_eq x v) xs
among_any v [] = refl
among_any v (x ∷ xs) = ap (λ b. nat_eq x v || b) (among_any v xs)

pub among_get : (xs : List ℕ) (j d : ℕ) → j < length xs → is_among (get_or xs j d) xs ≡ true
among_get [] j d low = absurd (omega arith)
among_get (x ∷ xs) zero d low = or_left (nat_eq x x) (is_among x xs) (eq-eqb x x refl)
among_get (x ∷ xs) (suc j) d low =
    or_right (nat_eq x (get_or xs j d)) (is_among (get_or xs j d) xs) (among_get xs j d (omega arith))

-- a test that one of the numbers passes
pub any_from : (p : ℕ → Bool) (xs : List ℕ) (n : ℕ) → is_among n xs ≡ true → p n ≡ true → list_any p xs ≡ true
any_from p [] n i h = absurd (true≢false (sym i))
any_from p (x ∷ xs) n i h =
    ⊎_elim (λ e. or_left (p x) (list_any p xs) (ap p (eqb-true x n e) ∙ h))
    (λ e. or_right (p x) (list_any p xs) (any_from p xs n e h)) (or_cases (nat_eq x n) (is_among n xs) i)

pub any_at : (p : ℕ → Bool) (xs : List ℕ) → list_any p xs ≡ true → (n : ℕ) × (is_among n xs ≡ true) × (p n ≡ true)
any_at p [] h = absurd (true≢false (sym h))
any_at p (x ∷ xs) h =
    ⊎_elim (λ e. (x, or_left (nat_eq x x) (is_among x xs) (eq-eqb x x refl), e))
    (λ e. let r = any_at p xs e in (r.0, or_right (nat_eq x r.0) (is_among r.0 xs) r.1, r.2))
    (or_cases (p x) (list_any p xs) h)
