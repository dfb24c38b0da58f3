-- What holds of each element of a list.
use Rattle.std.proofs.Common.{◌≡◌, ℕ, true, List, [], ◌∷◌, ◌++◌, map, refl, ap, subst, ⊎_elim}
use Rattle.std.specs.Prelude.{◌==◌, flat_map}
use Rattle.std.specs.List.{AllByRecursion, AllZip}
use Rattle.std.proofs.lemmas.Bool.{eq-eqb, eqb-true, or_cases, or_left, or_right, false≢true}
use Rattle.prefix.specs.Scopes.{is_among}
use Rattle.qdimacs.proofs.Lists.{all_first, all_joined, all_second}

pub all_mapped : {X Y : Type 0} (P : Y → Type 0) (f : X → Y) (xs : List X) → AllByRecursion (λ x. P (f x)) xs
    → AllByRecursion P (map f xs)
all_mapped P f [] h = tt
all_mapped P f (x ∷ xs) h = (h.0, all_mapped P f xs h.1)

pub all_flat : {X Y : Type 0} (P : Y → Type 0) (f : X → List Y) (xs : List X)
    → AllByRecursion (λ x. AllByRecursion P (f x)) xs → AllByRecursion P (flat_map f xs)
all_flat P f [] h = tt
all_flat P f (x ∷ xs) h = all_joined P (f x) (flat_map f xs) h.0 (all_flat P f xs h.1)

pub zip_joined : {X Y : Type 0} (R : X → Y → Type 0) (xs us : List X) (ys vs : List Y) → AllZip R xs ys
    → AllZip R us vs
    → AllZip R (xs ++ us) (ys ++ vs)
zip_joined R [] us [] vs h k = k
zip_joined R [] us (y ∷ ys) vs h k = absurd h
zip_joined R (x ∷ xs) us [] vs h k = absurd h
zip_joined R (x ∷ xs) us (y ∷ ys) vs h k = (h.0, zip_joined R xs us ys vs h.1 k)

pub zip_mapped : {X Y Z : Type 0} (R : Y → Z → Type 0) (f : X → Y) (g : X → Z) (xs : List X)
    → AllByRecursion (λ x. R (f x) (g x)) xs → AllZip R (map f xs) (map g xs)
zip_mapped R f g [] h = tt
zip_mapped R f g (x ∷ xs) h = (h.0, zip_mapped R f g xs h.1)

-- of numbers, by whether they are there

pub at_among : (P : ℕ → Type 0) (v : ℕ) (xs : List ℕ) → AllByRecursion P xs → is_among v xs ≡ true → P v
at_among P v [] h there = absurd (false≢true there)
at_among P v (x ∷ xs) h there = ⊎_elim
    (λ (e : (x == v) ≡ true). subst P (eqb-true x v e) h.0)
    (λ (e : is_among v xs ≡ true). at_among P v xs h.1 e) (or_cases (x == v) (is_among v xs) there)

pub from_among : (P : ℕ → Type 0) (xs : List ℕ) → ((v : ℕ) → is_among v xs ≡ true → P v) → AllByRecursion P xs
from_among P [] f = tt
from_among P (x ∷ xs) f = (
  f x (or_left (x == x) (is_among x xs) (eq-eqb x x refl)),
  from_among P xs (λ v there. f v (or_right (x == v) (is_among v xs) there)),
)

pub all_parts : {X Y : Type 0} (P : Y → Type 0) (f : X → List Y) (xs : List X) → AllByRecursion P (flat_map f xs)
    → AllByRecursion (λ x. AllByRecursion P (f x)) xs
all_parts P f [] h = tt
all_parts P f (x ∷ xs) h = (
  all_first P (f x) (flat_map f xs) h,
  all_parts P f xs (all_second P (f x) (flat_map f xs) h),
)

pub flat_over : {X Y Z : Type 0} (f : Y → List Z) (g : X → Y) (xs : List X)
    → flat_map f (map g xs) ≡ flat_map (λ x. f (g x)) xs
flat_over f g [] = refl
flat_over f g (x ∷ xs) = ap (λ zs. f (g x) ++ zs) (flat_over f g xs)
