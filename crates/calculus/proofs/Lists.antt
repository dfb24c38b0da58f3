-- Membership and tests over lists, by cases on the list.
use Rattle.std.proofs.Common.{◌≡◌, ℕ, suc, zero, ◌<◌, ◌⊎◌, Bool, true, false, ◌||◌, cond, List, [], ◌∷◌, ◌++◌, length, map, take, subst, get_or, Contains, AllPairs, filter, sym, refl, ap, ap₂, ◌∙◌, inl, inr, ⊎_elim, arith, nat_eq}
use Rattle.std.specs.List.{AllByRecursion, list_any, list_all}
use Rattle.std.proofs.lemmas.Bool.{cases_Bool, and_parts, or_cases, and_from, or_left, or_right, eqb-true, eq-eqb, true≢false, false≢true, cond-true, cond-false}
use Rattle.std.proofs.lemmas.List.Elements.{Contains-get_or}
use Rattle.prefix.specs.Scopes.{is_among}

-- membership

at_cons : {X : Type 0} (y : X) (ys : List X) (x : X) (k : ℕ) → k < length (y ∷ ys) → get_or (y ∷ ys) k x ≡ x → (y ≡ x)
    ⊎ Contains ys x
at_cons y ys x zero below e = inl e
at_cons y ys x (suc k) below e = inr (k, omega arith, e)

pub contains_cons : {X : Type 0} (y : X) (ys : List X) (x : X) → Contains (y ∷ ys) x → (y ≡ x) ⊎ Contains ys x
contains_cons y ys x h = at_cons y ys x h.0 h.1 h.2

pub contains_nil : {X : Type 0} (x : X) → Contains [] x → ⊥
contains_nil x h = let below : h.0 < 0 = h.1 in omega arith

pub contains_head : {X : Type 0} (x : X) (xs : List X) → Contains (x ∷ xs) x
contains_head x xs = (zero, omega arith, refl)

pub contains_tail : {X : Type 0} (y : X) (ys : List X) (x : X) → Contains ys x → Contains (y ∷ ys) x
contains_tail y ys x h = let below : h.0 < length ys = h.1 in (suc h.0, omega arith, h.2)

pub contains_map_of : {X Y : Type 0} (f : X → Y) (xs : List X) (x : X) → Contains xs x → Contains (map f xs) (f x)
contains_map_of f [] x i = absurd (contains_nil x i)
contains_map_of f (y ∷ ys) x i = ⊎_elim (λ e. rw (← e) (contains_head (f y) (map f ys)))
    (λ j. contains_tail (f y) (map f ys) (f x) (contains_map_of f ys x j)) (contains_cons y ys x i)

pub contains_map : {X Y : Type 0} (f : X → Y) (xs : List X) (y : Y) → Contains (map f xs) y → (x : X) × Contains xs x
    × (f x ≡ y)
contains_map f [] y i = absurd (contains_nil y i)
contains_map f (x ∷ xs) y i =
    ⊎_elim (λ e. (x, contains_head x xs, e))
    (λ j. let r = contains_map f xs y j in (r.0, contains_tail x xs r.0 r.1, r.2))
    (contains_cons (f x) (map f xs) y i)

-- what holds of each element

pub all_of : {X : Type 0} (P : X → Type 0) (xs : List X) (x : X) → AllByRecursion P xs → Contains xs x → P x
all_of P [] x all c = absurd (contains_nil x c)
all_of P (y ∷ ys) x all c =
    ⊎_elim (λ e. subst P e all.0) (λ d. all_of P ys x all.1 d) (contains_cons y ys x c)

pub all_map : {X : Type 0} (P Q : X → Type 0) (xs : List X) → ((x : X) → P x → Q x) → AllByRecursion P xs
    → AllByRecursion Q xs
all_map P Q [] h all = tt
all_map P Q (x ∷ xs) h all = (h x all.0, all_map P Q xs h all.1)

pub all_more : {X : Type 0} (P : X → Type 0) (xs : List X) (x : X) → AllByRecursion P xs → P x
    → AllByRecursion P (xs ++ x ∷ [])
all_more P [] x all p = (p, tt)
all_more P (y ∷ ys) x all p = (all.0, all_more P ys x all.1 p)

pub all_taken : {X : Type 0} (P : X → Type 0) (n : ℕ) (xs : List X) → AllByRecursion P xs
    → AllByRecursion P (take n xs)
all_taken P zero xs all = tt
all_taken P (suc n) [] all = tt
all_taken P (suc n) (x ∷ xs) all = (all.0, all_taken P n xs all.1)

pub all_front : {X : Type 0} (P : X → Type 0) (xs ys : List X) → AllByRecursion P (xs ++ ys) → AllByRecursion P xs
all_front P [] ys all = tt
all_front P (x ∷ xs) ys all = (all.0, all_front P xs ys all.1)

pub all_behind : {X : Type 0} (P : X → Type 0) (xs ys : List X) → AllByRecursion P (xs ++ ys) → AllByRecursion P ys
all_behind P [] ys all = all
all_behind P (x ∷ xs) ys all = all_behind P xs ys all.1

pub all_append : {X : Type 0} (P : X → Type 0) (xs ys : List X) → AllByRecursion P xs → AllByRecursion P ys
    → AllByRecursion P (xs ++ ys)
all_append P [] ys all more = more
all_append P (x ∷ xs) ys all more = (all.0, all_append P xs ys all.1 more)

-- maps that agree on the elements

pub map_same : {X Y : Type 0} (f g : X → Y) (xs : List X) → ((x : X) → Contains xs x → f x ≡ g x) → map f xs ≡ map g xs
map_same f g [] same = refl
map_same f g (x ∷ xs) same =
    ap₂ (λ y ys. y ∷ ys) (same x (contains_head x xs)) (map_same f g xs (λ z i. same z (contains_tail x xs z i)))

-- tests

pub or_none : (b : Bool) → (b || false) ≡ b
or_none true = refl
or_none false = refl

pub all_at : {X : Type 0} (p : X → Bool) (xs : List X) → list_all p xs ≡ true → (x : X) → Contains xs x → p x ≡ true
all_at p [] h x c = absurd (contains_nil x c)
all_at p (y ∷ ys) h x c =
    let parts = and_parts (p y) (list_all p ys) h in
    ⊎_elim (λ e. ap p (sym e) ∙ parts.0) (λ d. all_at p ys parts.1 x d) (contains_cons y ys x c)

pub all_from : {X : Type 0} (p : X → Bool) (xs : List X) → ((x : X) → Contains xs x → p x ≡ true) → list_all p xs ≡ true
all_from p [] h = refl
all_from p (y ∷ ys) h = and_from (p y) (list_all p ys) (h y (contains_head y ys))
    (all_from p ys (λ x c. h x (contains_tail y ys x c)))

pub any_at : {X : Type 0} (p : X → Bool) (xs : List X) → list_any p xs ≡ true → (x : X) × Contains xs x × (p x ≡ true)
any_at p [] h = absurd (false≢true h)
any_at p (y ∷ ys) h =
    ⊎_elim (λ e. (y, contains_head y ys, e))
    (λ e. let r = any_at p ys e in (r.0, contains_tail y ys r.0 r.1, r.2))
    (or_cases (p y) (list_any p ys) h)

pub any_from : {X : Type 0} (p : X → Bool) (xs : List X) (x : X) → Contains xs x → p x ≡ true → list_any p xs ≡ true
any_from p [] x c h = absurd (contains_nil x c)
any_from p (y ∷ ys) x c h =
    ⊎_elim (λ e. or_left (p y) (list_any p ys) (ap p e ∙ h))
    (λ d. or_right (p y) (list_any p ys) (any_from p ys x d h))
    (contains_cons y ys x c)

-- filters

pub filter_at : {X : Type 0} (p : X → Bool) (xs : List X) (x : X) → Contains (filter p xs) x → Contains xs x
    × (p x ≡ true)
filter_at p [] x c = absurd (contains_nil x c)
filter_at p (y ∷ ys) x c =
    ⊎_elim (λ t. let d = rw (cond-true (p y) (y ∷ filter p ys) (filter p ys) t) at c in
    ⊎_elim (λ e. (rw e (contains_head x ys), ap p (sym e) ∙ t))
    (λ r. let s = filter_at p ys x r in (contains_tail y ys x s.0, s.1)) (contains_cons y (filter p ys) x d))
    (λ f. let s = filter_at p ys x (rw (cond-false (p y) (y ∷ filter p ys) (filter p ys) f) at c) in
    (contains_tail y ys x s.0, s.1))
    (cases_Bool (p y))

pub filter_from : {X : Type 0} (p : X → Bool) (xs : List X) (x : X) → Contains xs x → p x ≡ true
    → Contains (filter p xs) x
filter_from p [] x c h = absurd (contains_nil x c)
filter_from p (y ∷ ys) x c h =
    ⊎_elim (λ t. rw (cond-true (p y) (y ∷ filter p ys) (filter p ys) t)
    (⊎_elim (λ e. rw e (contains_head x (filter p ys))) (λ d. contains_tail y (filter p ys) x (filter_from p ys x d h))
    (contains_cons y ys x c)))
    (λ f. rw (cond-false (p y) (y ∷ filter p ys) (filter p ys) f)
    (⊎_elim (λ e. absurd (true≢false (sym h ∙ (ap p (sym e) ∙ f)))) (λ d. filter_from p ys x d h)
    (contains_cons y ys x c)))
    (cases_Bool (p y))

pub among_at : (xs : List ℕ) (x : ℕ) → is_among x xs ≡ true → Contains xs x
among_at [] x h = absurd (false≢true h)
among_at (y ∷ ys) x h =
    ⊎_elim (λ e. rw (← eqb-true y x e) (contains_head y ys)) (λ r. contains_tail y ys x (among_at ys x r))
    (or_cases (nat_eq y x) (is_among x ys) h)

pub among_from : (xs : List ℕ) (x : ℕ) → Contains xs x → is_among x xs ≡ true
among_from [] x i = absurd (contains_nil x i)
among_from (y ∷ ys) x i =
    ⊎_elim (λ e. or_left (nat_eq y x) (is_among x ys) (eq-eqb y x e))
    (λ j. or_right (nat_eq y x) (is_among x ys) (among_from ys x j)) (contains_cons y ys x i)

-- tests that agree on the elements
pub filter_same : {X : Type 0} (p q : X → Bool) (xs : List X) → ((x : X) → Contains xs x → p x ≡ q x)
    → filter p xs ≡ filter q xs
filter_same p q [] same = refl
filter_same p q (x ∷ xs) same = ap₂ (λ b rest. cond b (x ∷ rest) rest) (same x (contains_head x xs))
    (filter_same p q xs (λ y i. same y (contains_tail x xs y i)))

pub filter_all : {X : Type 0} (p : X → Bool) (xs : List X) → ((x : X) → Contains xs x → p x ≡ true) → filter p xs ≡ xs
filter_all p [] all = refl
filter_all p (x ∷ xs) all = cond-true (p x) (x ∷ filter p xs) (filter p xs) (all x (contains_head x xs))
    ∙ ap (λ rest. x ∷ rest) (filter_all p xs (λ y i. all y (contains_tail x xs y i)))

pub any_same : {X : Type 0} (p q : X → Bool) (xs : List X) → ((x : X) → Contains xs x → p x ≡ q x)
    → list_any p xs ≡ list_any q xs
any_same p q [] same = refl
any_same p q (x ∷ xs) same = ap₂ (λ a b. a || b) (same x (contains_head x xs))
    (any_same p q xs (λ y i. same y (contains_tail x xs y i)))

-- pairs by cases on the list
pub pairs_head : {X : Type 0} (R : X → X → Type 0) (x : X) (xs : List X) → AllPairs R (x ∷ xs) → (y : X) → Contains xs y
    → R x y
pairs_head R x xs pairs y i = let r : R x (get_or xs i.0 y) = pairs zero (suc i.0) y (omega arith)
    (let b : i.0 < length xs = i.1 in omega arith) in rw i.2 at r

pub pairs_tail : {X : Type 0} (R : X → X → Type 0) (x : X) (xs : List X) → AllPairs R (x ∷ xs) → AllPairs R xs
pairs_tail R x xs pairs i j d below fits = pairs (suc i) (suc j) d (omega arith) (omega arith)

-- pairs by cases on the list, the other way
pub pairs_nil : {X : Type 0} (R : X → X → Type 0) → AllPairs R []
pairs_nil R i j d below fits = absurd (omega arith)

pairs_at : {X : Type 0} (R : X → X → Type 0) (x : X) (xs : List X) → ((y : X) → Contains xs y → R x y) → AllPairs R xs
    → (i j : ℕ) (d : X) → i < j → j < length (x ∷ xs) → R (get_or (x ∷ xs) i d) (get_or (x ∷ xs) j d)
pairs_at R x xs first rest zero zero d below fits = absurd (omega arith)
pairs_at R x xs first rest (suc i) zero d below fits = absurd (omega arith)
pairs_at R x xs first rest zero (suc j) d below fits = first (get_or xs j d) (Contains-get_or xs j d (omega arith))
pairs_at R x xs first rest (suc i) (suc j) d below fits = rest i j d (omega arith) (omega arith)

pub pairs_cons : {X : Type 0} (R : X → X → Type 0) (x : X) (xs : List X) → ((y : X) → Contains xs y → R x y)
    → AllPairs R xs → AllPairs R (x ∷ xs)
pairs_cons R x xs first rest = pairs_at R x xs first rest
