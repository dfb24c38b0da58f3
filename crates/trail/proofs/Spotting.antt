-- Where variables stand, as it is kept, read and written.
use Rattle.std.proofs.Common.{◌≡◌, ℕ, zero, suc, ◌-◌, ◌+◌, ◌≤◌, Bool, List, [], ◌∷◌, ◌++◌, length, get_or, set, take, replicate, Option, None, Some, refl, sym, ap, ap₂, ◌∙◌, arith, is_some, nat_lt, true, false, ◌<◌}
use Rattle.std.proofs.lemmas.Bool.Decides.{nat_tests}
use Rattle.std.specs.Option.{option_map}
use Rattle.trail.specs.declared.entry.Spot.{Spot}
use Rattle.trail.specs.Spots.{ArePlaced, place_of, spot_of, spots_of, value_of}

-- what is read
spot_kept : (values : List (Option Bool)) (places : List ℕ) (k d : ℕ) → length values ≤ length places
    → get_or (spots_of values places) k None ≡ spot_of (get_or values k None, get_or places k d)
spot_kept [] [] k d e = refl
spot_kept [] (p ∷ places) k d e = refl
spot_kept (v ∷ values) [] k d e = absurd (omega arith)
spot_kept (v ∷ values) (p ∷ places) zero d e = refl
spot_kept (v ∷ values) (p ∷ places) (suc k) d e = spot_kept values places k d (omega arith)

value_back : (value : Option Bool) (place : ℕ) → option_map value_of (spot_of (value, place)) ≡ value
value_back None place = refl
value_back (Some b) place = refl

pub value_kept : (values : List (Option Bool)) (places : List ℕ) (k : ℕ) → length values ≤ length places
    → get_or values k None ≡ option_map value_of (get_or (spots_of values places) k None)
value_kept values places k e =
    sym (ap (option_map value_of) (spot_kept values places k 0 e) ∙ value_back (get_or values k None) (get_or places k 0))

told : (value : Option Bool) (place : ℕ) → is_some value ≡ nat_lt place 4294967295 → place < 4294967295
    → Some place ≡ option_map place_of (spot_of (value, place))
told None place e h = absurd (let f : false ≡ nat_lt place 4294967295 = e in grind (arith, nat_tests))
told (Some b) place e h = refl

untold : (value : Option Bool) (place : ℕ) → is_some value ≡ nat_lt place 4294967295 → 4294967295 ≤ place
    → None ≡ option_map place_of (spot_of (value, place))
untold None place e h = refl
untold (Some b) place e h = absurd (let f : true ≡ nat_lt place 4294967295 = e in grind (arith, nat_tests))

-- the place that is found
module _ (values : List (Option Bool)) (places : List ℕ) (k : ℕ) (few : length values ≤ length places)
    (placed : ArePlaced values places) where
  pub place_told : get_or places k 4294967295 < 4294967295
      → Some (get_or places k 4294967295) ≡ option_map place_of (get_or (spots_of values places) k None)
  place_told h =
      told (get_or values k None) (get_or places k 4294967295) (placed k) h
      ∙ ap (option_map place_of) (sym (spot_kept values places k 4294967295 few))

  pub place_untold : 4294967295 ≤ get_or places k 4294967295
      → None ≡ option_map place_of (get_or (spots_of values places) k None)
  place_untold h =
      untold (get_or values k None) (get_or places k 4294967295) (placed k) h
      ∙ ap (option_map place_of) (sym (spot_kept values places k 4294967295 few))

-- as many as there are values
pub spots_length : (values : List (Option Bool)) (places : List ℕ) → length values ≤ length places
    → length (spots_of values places) ≡ length values
spots_length [] [] e = refl
spots_length [] (p ∷ places) e = refl
spots_length (v ∷ values) [] e = absurd (omega arith)
spots_length (v ∷ values) (p ∷ places) e = ap suc (spots_length values places (omega arith))

-- a spot is written
pub spot_set : (values : List (Option Bool)) (places : List ℕ) (k : ℕ) (s : Spot) → length values ≤ length places
    → spots_of (set values k (Some s.value)) (set places k s.place) ≡ set (spots_of values places) k (Some s)
spot_set [] [] k s e = refl
spot_set [] (p ∷ places) zero s e = refl
spot_set [] (p ∷ places) (suc k) s e = refl
spot_set (v ∷ values) [] k s e = absurd (omega arith)
spot_set (v ∷ values) (p ∷ places) zero s e = refl
spot_set (v ∷ values) (p ∷ places) (suc k) s e =
    ap (λ rest. spot_of (v, p) ∷ rest) (spot_set values places k s (omega arith))

-- and taken away, with its place
pub spot_cleared : (values : List (Option Bool)) (places : List ℕ) (k none : ℕ) → length values ≤ length places
    → spots_of (set values k None) (set places k none) ≡ set (spots_of values places) k None
spot_cleared [] [] k none e = refl
spot_cleared [] (p ∷ places) zero none e = refl
spot_cleared [] (p ∷ places) (suc k) none e = refl
spot_cleared (v ∷ values) [] k none e = absurd (omega arith)
spot_cleared (v ∷ values) (p ∷ places) zero none e = refl
spot_cleared (v ∷ values) (p ∷ places) (suc k) none e =
    ap (λ rest. spot_of (v, p) ∷ rest) (spot_cleared values places k none (omega arith))

-- the first ones
pub spots_taken : (values : List (Option Bool)) (places : List ℕ) (k : ℕ) → length values ≤ length places
    → spots_of (take k values) (take k places) ≡ take k (spots_of values places)
spots_taken values places zero e = refl
spots_taken [] [] (suc k) e = refl
spots_taken [] (p ∷ places) (suc k) e = refl
spots_taken (v ∷ values) [] (suc k) e = absurd (omega arith)
spots_taken (v ∷ values) (p ∷ places) (suc k) e =
    ap (λ rest. spot_of (v, p) ∷ rest) (spots_taken values places k (omega arith))

-- the same with more places behind
pub spots_front : (values : List (Option Bool)) (places more : List ℕ) → length values ≤ length places
    → take (length places) more ≡ places → spots_of values more ≡ spots_of values places
spots_front [] places more e h = refl
spots_front (v ∷ values) [] more e h = absurd (omega arith)
spots_front (v ∷ values) (p ∷ places) [] e h = absurd (let n : [] ≡ p ∷ places = h in cc)
spots_front (v ∷ values) (p ∷ places) (q ∷ more) e h =
    let first : q ≡ p = cc in
    let rest : take (length places) more ≡ places = cc in
    ap₂ (λ (n : ℕ) (xs : List (Option Spot)). spot_of (v, n) ∷ xs) first
    (spots_front values places more (omega arith) rest)

none_stand : (more : ℕ) (places : List ℕ) → more ≤ length places
    → spots_of (replicate more None) places ≡ replicate more None
none_stand zero places e = refl
none_stand (suc more) [] e = absurd (omega arith)
none_stand (suc more) (p ∷ places) e = ap (λ rest. None ∷ rest) (none_stand more places (omega arith))

behind : (values : List (Option Bool)) (places more : List ℕ) (n : ℕ) → length values ≤ length places
    → take (length places) more ≡ places → length values + n ≤ length more
    → spots_of (values ++ replicate n None) more ≡ spots_of values places ++ replicate n None
behind [] places more n e h l = none_stand n more (omega arith)
behind (v ∷ values) [] more n e h l = absurd (omega arith)
behind (v ∷ values) (p ∷ places) [] n e h l = absurd (omega arith)
behind (v ∷ values) (p ∷ places) (q ∷ more) n e h l =
    let first : q ≡ p = cc in
    let rest : take (length places) more ≡ places = cc in
    ap₂ (λ (n : ℕ) (xs : List (Option Spot)). spot_of (v, n) ∷ xs) first
    (behind values places more n (omega arith) rest (omega arith))

-- and more of them
pub spots_more : (values : List (Option Bool)) (places more : List ℕ) (count : ℕ) → length values ≤ length places
    → take (length places) more ≡ places → length values ≤ count → count ≤ length more
    → spots_of (values ++ replicate (count - length values) None) more
    ≡ spots_of values places ++ replicate (count - length (spots_of values places)) None
spots_more values places more count e h l m =
    behind values places more (count - length values) e h (omega arith)
    ∙ ap (λ n. spots_of values places ++ replicate (count - n) None) (sym (spots_length values places e))

-- a place is kept where there is a value, and none elsewhere
pub placed_set : (values : List (Option Bool)) (places : List ℕ) (k : ℕ) (v : Option Bool) (p : ℕ)
    → is_some v ≡ nat_lt p 4294967295 → k < length values → k < length places → ArePlaced values places
    → ArePlaced (set values k v) (set places k p)
placed_set [] places k v p e a b h i = absurd (omega arith)
placed_set (w ∷ values) [] k v p e a b h i = absurd (omega arith)
placed_set (w ∷ values) (q ∷ places) zero v p e a b h zero = e
placed_set (w ∷ values) (q ∷ places) zero v p e a b h (suc i) = h (suc i)
placed_set (w ∷ values) (q ∷ places) (suc k) v p e a b h zero = h zero
placed_set (w ∷ values) (q ∷ places) (suc k) v p e a b h (suc i) =
    placed_set values places k v p e (omega arith) (omega arith) (λ j. h (suc j)) i

nowhere_taken : (places : List ℕ) (k : ℕ) → ((i : ℕ) → false ≡ nat_lt (get_or places i 4294967295) 4294967295)
    → (i : ℕ) → false ≡ nat_lt (get_or (take k places) i 4294967295) 4294967295
nowhere_taken places zero h i = refl
nowhere_taken [] (suc k) h i = refl
nowhere_taken (p ∷ places) (suc k) h zero = h zero
nowhere_taken (p ∷ places) (suc k) h (suc i) = nowhere_taken places k (λ j. h (suc j)) i

pub placed_taken : (values : List (Option Bool)) (places : List ℕ) (k : ℕ) → length values ≤ length places
    → ArePlaced values places → ArePlaced (take k values) (take k places)
placed_taken values places zero e h i = refl
placed_taken [] places (suc k) e h i = nowhere_taken places (suc k) h i
placed_taken (v ∷ values) [] (suc k) e h i = absurd (omega arith)
placed_taken (v ∷ values) (p ∷ places) (suc k) e h zero = h zero
placed_taken (v ∷ values) (p ∷ places) (suc k) e h (suc i) =
    placed_taken values places k (omega arith) (λ j. h (suc j)) i

-- what is read within a list
pub by_any : {X : Type 0} (xs : List X) (k : ℕ) (d e : X) → k < length xs → get_or xs k d ≡ get_or xs k e
by_any [] k d e h = absurd (omega arith)
by_any (x ∷ xs) zero d e h = refl
by_any (x ∷ xs) (suc k) d e h = by_any xs k d e (omega arith)

-- there is no place behind
pub missing_place : (places : List ℕ) (k : ℕ) → length places ≤ k → 4294967295 ≤ get_or places k 4294967295
missing_place [] k e = omega arith
missing_place (p ∷ places) zero e = absurd (omega arith)
missing_place (p ∷ places) (suc k) e = missing_place places k (omega arith)

pub padded : {X : Type 0} (xs : List X) (n k : ℕ) (d : X) → get_or (xs ++ replicate n d) k d ≡ get_or xs k d
padded [] zero k d = refl
padded [] (suc n) zero d = refl
padded [] (suc n) (suc k) d = padded [] n k d
padded (x ∷ xs) n zero d = refl
padded (x ∷ xs) n (suc k) d = padded xs n k d

pub placed_wider : (values : List (Option Bool)) (places more : List ℕ) (n : ℕ)
    → ((k : ℕ) → get_or more k 4294967295 ≡ get_or places k 4294967295) → ArePlaced values places
    → ArePlaced (values ++ replicate n None) more
placed_wider values places more n same h k =
    ap is_some (padded values n k None) ∙ (h k ∙ ap (λ p. nat_lt p 4294967295) (sym (same k)))
