-- Values and places on a trail with one more literal, and on one without its last.
use Rattle.std.proofs.Common.{◌≡◌, ℕ, zero, suc, ◌<◌, ◌≤◌, ◌⊎◌, Bool, true, List, [], ◌∷◌, ◌++◌, length, Option, Some, None, is_some, refl, sym, ap, ◌∙◌, inl, inr, ⊎_elim, arith, nat_eq, append-nil}
use Rattle.std.specs.Prelude.{IfSome, slice_get}
use Rattle.std.specs.Option.{option_map}
use Rattle.std.proofs.lemmas.Bool.{cases_Bool, cases_lt, eq-eqb, ne_eqb}
use Rattle.std.proofs.lemmas.Option.{slice_get_within}
use Rattle.std.proofs.lemmas.List.{length_push}
use Rattle.calculus.specs.Search.{Placed, Trail, place_on, value_on}
use Rattle.calculus.proofs.Trails.{place_here, place_past, value_here, value_past}
use Rattle.calculus.proofs.TrailMoves.{place_front, front_has, value_new}
use Rattle.trail.specs.declared.entry.Spot.{Spot}
use Rattle.trail.specs.Spots.{place_of}
use Rattle.trail.specs.Table.{spot_on}

-- reading a list with one more element

pub slice_get_before : {X : Type 0} (xs : List X) (x : X) (k : ℕ) → k < length xs
    → slice_get (xs ++ x ∷ []) k ≡ slice_get xs k
slice_get_before [] x k h = absurd (omega arith)
slice_get_before (y ∷ xs) x zero h = refl
slice_get_before (y ∷ xs) x (suc k) h = slice_get_before xs x k (omega arith)

pub slice_get_last : {X : Type 0} (xs : List X) (x : X) → slice_get (xs ++ x ∷ []) (length xs) ≡ Some x
slice_get_last [] x = refl
slice_get_last (y ∷ xs) x = slice_get_last xs x

-- a test on an option that both sides have
cases_option : (o : Option Bool) → (o ≡ None) ⊎ (is_some o ≡ true)
cases_option None = inl refl
cases_option (Some b) = inr refl

-- a variable that isn't the last one's stands as before
pub value_other : (trail : Trail) (p : Placed) (y : ℕ) → (p.literal.variable ≡ y → ⊥)
    → value_on (trail ++ p ∷ []) y ≡ value_on trail y
value_other [] p y differs = value_past p [] y (ne_eqb p.literal.variable y differs)
value_other (q ∷ trail) p y differs =
    ⊎_elim (λ t. value_here q (trail ++ p ∷ []) y t ∙ sym (value_here q trail y t))
    (λ f. value_past q (trail ++ p ∷ []) y f ∙ (value_other trail p y differs ∙ sym (value_past q trail y f)))
    (cases_Bool (nat_eq q.literal.variable y))

spot_from : (trail more : Trail) (y : ℕ) → value_on more y ≡ value_on trail y
    → (is_some (value_on trail y) ≡ true → place_on more y ≡ place_on trail y) → spot_on more y ≡ spot_on trail y
spot_from trail more y same places = by_value (value_on trail y) (value_on more y) same places
  where
    by_value : (o n : Option Bool) → n ≡ o → (is_some o ≡ true → place_on more y ≡ place_on trail y)
        → option_map {U = Spot} (λ b. record { value = b; place = place_on more y }) n ≡ option_map {U = Spot}
        (λ b. record { value = b; place = place_on trail y }) o
    by_value None None e h = refl
    by_value None (Some b) e h = absurd (cc)
    by_value (Some b) None e h = absurd (cc)
    by_value (Some b) (Some c) e h =
        let place : place_on more y ≡ place_on trail y = h refl in
        let value : c ≡ b = cc in
        λ i. Some (record { value = value i; place = place i })

pub spot_other : (trail : Trail) (p : Placed) (y : ℕ) → (p.literal.variable ≡ y → ⊥)
    → spot_on (trail ++ p ∷ []) y ≡ spot_on trail y
spot_other trail p y differs = spot_from trail (trail ++ p ∷ []) y (value_other trail p y differs)
    (λ a. (place_front trail (p ∷ []) y a).0)

-- the last one stands at the end
pub spot_last : (trail : Trail) (p : Placed) → value_on trail p.literal.variable ≡ None
    → spot_on (trail ++ p ∷ []) p.literal.variable ≡ Some (record { value = p.literal.positive; place = length trail })
spot_last trail p fresh =
    let new = value_new trail p fresh in
    let value : value_on (trail ++ p ∷ []) p.literal.variable ≡ Some p.literal.positive = new.0 in
    let place : place_on (trail ++ p ∷ []) p.literal.variable ≡ length trail = new.1 in
    ap (λ o. option_map {U = Spot} (λ b. record { value = b; place = place_on (trail ++ p ∷ []) p.literal.variable }) o)
    value
    ∙ ap (λ n. Some (record { value = p.literal.positive; place = n })) place

pub spot_none : (trail : Trail) (x : ℕ) → value_on trail x ≡ None → spot_on trail x ≡ None
spot_none trail x e = ap (λ o. option_map {U = Spot} (λ b. record { value = b; place = place_on trail x }) o) e

-- no variable stands twice
abbrev pub IsOnce : Trail → Type 0
IsOnce trail = (i : ℕ) (p : Placed) → slice_get trail i ≡ Some p → place_on trail p.literal.variable ≡ i

-- a variable with a place has a value
pub placed_known : (trail : Trail) (x : ℕ) → place_on trail x < length trail → is_some (value_on trail x) ≡ true
placed_known trail x below = front_has trail [] x (rw append-nil below)

pub once_more : (trail : Trail) (p : Placed) → value_on trail p.literal.variable ≡ None → IsOnce trail
    → IsOnce (trail ++ p ∷ [])
once_more trail p fresh once i q at =
    ⊎_elim
    (λ (below : i < length trail).
    let there : slice_get trail i ≡ Some q = sym (slice_get_before trail p i below) ∙ at in
    let place : place_on trail q.literal.variable ≡ i = once i q there in
    let known = placed_known trail q.literal.variable (omega arith) in
    (place_front trail (p ∷ []) q.literal.variable known).0 ∙ place)
    (λ (above : length trail ≤ i).
    let within : i < length (trail ++ p ∷ []) = slice_get_within (trail ++ p ∷ []) i q at in
    let long = length_push trail p in
    let last : i ≡ length trail = omega arith in
    let is : Some p ≡ Some q = sym (slice_get_last trail p) ∙ (ap (slice_get (trail ++ p ∷ [])) (sym last) ∙ at) in
    let same : p ≡ q = cc in
    ap (λ (r : Placed). place_on (trail ++ p ∷ []) r.literal.variable) (sym same)
    ∙ ((value_new trail p fresh).1 ∙ sym last))
    (cases_lt i (length trail))

-- the last one stood nowhere before
pub last_new : (trail : Trail) (p : Placed) → IsOnce (trail ++ p ∷ []) → value_on trail p.literal.variable ≡ None
last_new trail p once =
    ⊎_elim (λ e. e)
    (λ known.
    let last : place_on (trail ++ p ∷ []) p.literal.variable ≡ length trail = once (length trail) p
    (slice_get_last trail p) in
    let front = place_front trail (p ∷ []) p.literal.variable known in
    let same = front.0 in
    let below = front.1 in
    absurd (omega arith))
    (cases_option (value_on trail p.literal.variable))

pub once_less : (trail : Trail) (p : Placed) → IsOnce (trail ++ p ∷ []) → IsOnce trail
once_less trail p once i q at =
    let below : i < length trail = slice_get_within trail i q at in
    let place : place_on (trail ++ p ∷ []) q.literal.variable ≡ i = once i q (slice_get_before trail p i below ∙ at) in
    let known = front_has trail (p ∷ []) q.literal.variable (omega arith) in
    sym (place_front trail (p ∷ []) q.literal.variable known).0 ∙ place

-- a variable that stands somewhere stands on the trail
pub spot_place : (trail : Trail) (x : ℕ) (s : Spot) → Some s ≡ spot_on trail x → s.place < length trail
spot_place trail x s e = by_value (value_on trail x) refl e
  where
    by_value : (o : Option Bool) → value_on trail x ≡ o → Some s ≡ option_map {U = Spot}
        (λ b. record { value = b; place = place_on trail x }) o → s.place < length trail
    by_value None is h = absurd (cc)
    by_value (Some b) is h =
        let known : is_some (value_on trail x) ≡ true = ap is_some is in
        let same : s ≡ record { value = b; place = place_on trail x } = cc in
        let place : s.place ≡ place_on trail x = ap (λ (t : Spot). t.place) same in
        let below = (place_front trail [] x known).1 in
        omega arith

-- the value of the variable that stands at its place
pub value_at : (trail : Trail) (i : ℕ) (p : Placed) → slice_get trail i ≡ Some p → place_on trail p.literal.variable ≡ i
    → value_on trail p.literal.variable ≡ Some p.literal.positive
value_at [] i p at place = absurd (let g : None ≡ Some p = at in cc)
value_at (q ∷ trail) zero p at place =
    let same : q ≡ p = (let g : Some q ≡ Some p = at in cc) in
    value_here q trail p.literal.variable
    (eq-eqb q.literal.variable p.literal.variable (ap (λ (r : Placed). r.literal.variable) same))
    ∙ ap (λ (r : Placed). Some r.literal.positive) same
value_at (q ∷ trail) (suc i) p at place =
    ⊎_elim
    (λ t. absurd (let here = place_here q trail p.literal.variable t in omega arith))
    (λ f.
    let past = place_past q trail p.literal.variable f in
    value_past q trail p.literal.variable f ∙ value_at trail i p at (omega arith))
    (cases_Bool (nat_eq q.literal.variable p.literal.variable))

-- the place that a variable has, if it is assigned
pub place_told : (trail : Trail) (x : ℕ) → option_map place_of (spot_on trail x)
    ≡ option_map (λ b. place_on trail x) (value_on trail x)
place_told trail x =
    elim (value_on trail x) as (λ (n : Option Bool). option_map place_of
    (option_map {U = Spot} (λ b. record { value = b; place = place_on trail x }) n)
    ≡ option_map (λ b. place_on trail x) n) [
      | None ↦ refl
      | Some b ↦ refl
    ]

pub place_within : (trail : Trail) (x : ℕ) → IfSome (option_map place_of (spot_on trail x)) (λ n. n < length trail)
place_within trail x = within (spot_on trail x) (λ s e. spot_place trail x s (sym e))
  where
    within : (o : Option Spot) → ((s : Spot) → o ≡ Some s → s.place < length trail)
        → IfSome (option_map place_of o) (λ n. n < length trail)
    within None h = tt
    within (Some s) h = h s refl
