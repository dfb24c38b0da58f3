-- Membership in lists, by cases.
use Rattle.std.proofs.Common.{◌≡◌, ℕ, zero, suc, ◌+◌, ◌<◌, ◌⊎◌, inl, inr, ⊎_elim, List, [], ◌∷◌, length, map, take, get_or, Contains, refl, ap, ap₂, subst, arith}
use Rattle.std.proofs.lemmas.List.{get_or_default, take_more}
use Rattle.std.proofs.lemmas.List.Elements.{Contains-append_cases}

at_cons : {X : Type 0} (y : X) (ys : List X) (x : X) (k : ℕ) → k < length (y ∷ ys) → get_or (y ∷ ys) k x ≡ x
    → (y ≡ x) ⊎ Contains ys x
at_cons y ys x zero below e = inl e
at_cons y ys x (suc k) below e = inr (k, omega arith, e)

pub contains_cons : {X : Type 0} (y : X) (ys : List X) (x : X) → Contains (y ∷ ys) x → (y ≡ x) ⊎ Contains ys x
contains_cons y ys x h = at_cons y ys x h.0 h.1 h.2

pub contains_nil : {X : Type 0} (x : X) → Contains [] x → ⊥
contains_nil x h = let below : h.0 < 0 = h.1 in omega arith

pub contains_head : {X : Type 0} (x : X) (xs : List X) → Contains (x ∷ xs) x
contains_head x xs = (zero, omega arith, refl)

pub contains_tail : {X : Type 0} (y : X) (ys : List X) (x : X) → Contains ys x → Contains (y ∷ ys) x
contains_tail y ys x h = let below : h.0 < length ys = h.1 in (suc h.0, omega arith, h.2)

pub contains_more : {X : Type 0} (xs : List X) (i : ℕ) (d x : X) → i < length xs → Contains (take (i + 1) xs) x
    → Contains (take i xs) x ⊎ (get_or xs i d ≡ x)
contains_more xs i d x below h =
    ⊎_elim inl (λ j. ⊎_elim inr (λ k. absurd (contains_nil x k)) (contains_cons (get_or xs i d) [] x j))
    (Contains-append_cases (take i xs) (get_or xs i d ∷ []) x (rw (take_more xs i d below) at h))

pub contains_at : {X : Type 0} (xs : List X) (i : ℕ) (d : X) → i < length xs → Contains xs (get_or xs i d)
contains_at xs i d below = (i, below, get_or_default xs i (get_or xs i d) d below)

pub contains_map : {X Y : Type 0} (f : X → Y) (xs : List X) (x : X) → Contains xs x → Contains (map f xs) (f x)
contains_map {X} f [] x h = absurd (contains_nil x h)
contains_map {X} f (y ∷ ys) x h =
    ⊎_elim (λ (e : y ≡ x). subst (λ (z : X). Contains (f y ∷ map f ys) (f z)) e (contains_head (f y) (map f ys)))
    (λ j. contains_tail (f y) (map f ys) (f x) (contains_map f ys x j))
    (contains_cons y ys x h)

-- two functions that agree on the elements of a list
pub map_same : {X Y : Type 0} (f g : X → Y) (xs : List X) → ((x : X) → Contains xs x → f x ≡ g x)
    → map f xs ≡ map g xs
map_same f g [] h = refl
map_same f g (x ∷ xs) h =
    ap₂ (λ y ys. y ∷ ys) (h x (contains_head x xs)) (map_same f g xs (λ z i. h z (contains_tail x xs z i)))

pub map_map : {X Y Z : Type 0} (f : X → Y) (g : Y → Z) (xs : List X) → map g (map f xs) ≡ map (λ x. g (f x)) xs
map_map f g [] = refl
map_map f g (x ∷ xs) = ap (λ ys. g (f x) ∷ ys) (map_map f g xs)
