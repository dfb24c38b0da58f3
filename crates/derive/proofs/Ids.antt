-- Lists of what stands under the ids given so far.
use Rattle.std.proofs.Common.{◌≡◌, ℕ, zero, suc, ◌+◌, ◌<◌, ◌≤◌, ◌⊎◌, Bool, true, false, cond, List, [], ◌∷◌, ◌++◌, filter, Contains, Option, Some, None, refl, ap, ap₂, ◌∙◌, inl, inr, ⊎_elim, arith, zero-add}
use Rattle.std.specs.List.{filter_map, range_with_len, cons_option}
use Rattle.std.proofs.lemmas.List.Elements.{filter_map-append}
use Rattle.calculus.proofs.Lists.{contains_cons, contains_nil, contains_head, contains_tail}

-- the ids from a on, with one more at the end
pub range-push : (a n : ℕ) → range_with_len a (suc n) ≡ range_with_len a n ++ (a + n) ∷ []
range-push a zero = ap (λ m. m ∷ []) (omega arith)
range-push a (suc n) = ap (λ ms. a ∷ ms) (range-push (a + 1) n ∙ ap (λ m. range_with_len (a + 1) n ++ m ∷ [])
    (omega arith))

pub in_range : (a n k : ℕ) → a ≤ k → k < a + n → Contains (range_with_len a n) k
in_range a zero k low high = absurd (omega arith)
in_range a (suc n) k low high =
    elim (cases_from a k low) [
      | inl e ↦ rw (← e) (contains_head a (range_with_len (a + 1) n))
      | inr h ↦ contains_tail a (range_with_len (a + 1) n) k (in_range (a + 1) n k h (omega arith))
    ]
  where
    cases_from : (m k : ℕ) → m ≤ k → (m ≡ k) ⊎ (m + 1 ≤ k)
    cases_from m k h = grind arith

pub range_has : (a n k : ℕ) → Contains (range_with_len a n) k → (a ≤ k) × (k < a + n)
range_has a zero k i = absurd (contains_nil k i)
range_has a (suc n) k i =
    ⊎_elim (λ e. (omega arith, omega arith))
    (λ j. let p = range_has (a + 1) n k j in let low = p.0 in let high = p.1 in (omega arith, omega arith))
    (contains_cons a (range_with_len (a + 1) n) k i)

-- an option in front of a list
cons_option-append : {X : Type 0} (o : Option X) (xs : List X) → cons_option o xs ≡ cons_option o [] ++ xs
cons_option-append None xs = refl
cons_option-append (Some x) xs = refl

-- functions that agree on the ids list the same
pub listed_same : {X : Type 0} (f g : ℕ → Option X) (a n : ℕ) → ((k : ℕ) → a ≤ k → k < a + n → f k ≡ g k)
    → filter_map f (range_with_len a n) ≡ filter_map g (range_with_len a n)
listed_same f g a zero same = refl
listed_same f g a (suc n) same = ap₂ cons_option (same a (omega arith) (omega arith))
    (listed_same f g (a + 1) n (λ k low high. same k (omega arith) (omega arith)))

-- one id more
pub listed_push : {X : Type 0} (f g : ℕ → Option X) (n : ℕ) (o : Option X) → ((k : ℕ) → k < n → g k ≡ f k) → g n ≡ o
    → filter_map g (range_with_len 0 (suc n)) ≡ filter_map f (range_with_len 0 n) ++ cons_option o []
listed_push f g n o same last =
    ap (filter_map g) (range-push 0 n)
    ∙ filter_map-append g (range_with_len 0 n) ((0 + n) ∷ [])
    ∙ ap₂ (λ xs p. xs ++ cons_option p []) (listed_same g f 0 n (λ k low high. same k (omega arith)))
    (ap g (zero-add n) ∙ last)

-- an option that a test keeps
abbrev pub kept_if : {X : Type 0} → (X → Bool) → Option X → Option X
kept_if keep None = None
kept_if keep (Some x) = cond (keep x) (Some x) None

filter-cons_option : {X : Type 0} (keep : X → Bool) (o : Option X) (xs : List X) → cons_option (kept_if keep o)
    (filter keep xs) ≡ filter keep (cons_option o xs)
filter-cons_option keep None xs = refl
filter-cons_option keep (Some x) xs = cons_cond (keep x) x (filter keep xs)
  where
    cons_cond : {X : Type 0} (b : Bool) (x : X) (xs : List X) → cons_option (cond b (Some x) None) xs ≡ cond b
        (x ∷ xs) xs
    cons_cond true x xs = refl
    cons_cond false x xs = refl

-- a test of what is listed
pub listed_filter : {X : Type 0} (f g : ℕ → Option X) (keep : X → Bool) (a n : ℕ) → ((k : ℕ) → g k ≡ kept_if keep (f k))
    → filter_map g (range_with_len a n) ≡ filter keep (filter_map f (range_with_len a n))
listed_filter f g keep a zero same = refl
listed_filter f g keep a (suc n) same = ap₂ cons_option (same a) (listed_filter f g keep (a + 1) n same)
    ∙ filter-cons_option keep (f a) (filter_map f (range_with_len (a + 1) n))

-- what is listed stands under an id
listed_first : {X : Type 0} (f : ℕ → Option X) (a n : ℕ) (x : X)
    → (Contains (filter_map f (range_with_len (a + 1) n)) x → (m : ℕ) × (a ≤ m) × (m < a + suc n) × (f m ≡ Some x))
    → (o : Option X) → f a ≡ o → Contains (cons_option o (filter_map f (range_with_len (a + 1) n))) x → (m : ℕ)
    × (a ≤ m) × (m < a + suc n) × (f m ≡ Some x)
listed_first f a n x later None e i = later i
listed_first f a n x later (Some y) e i = ⊎_elim (λ s. (a, omega arith, omega arith, e ∙ ap Some s)) later
    (contains_cons y (filter_map f (range_with_len (a + 1) n)) x i)

pub listed_at : {X : Type 0} (f : ℕ → Option X) (a n : ℕ) (x : X) → Contains (filter_map f (range_with_len a n)) x
    → (k : ℕ) × (a ≤ k) × (k < a + n) × (f k ≡ Some x)
listed_at f a zero x i = absurd (contains_nil x i)
listed_at f a (suc n) x i =
    listed_first f a n x
    (λ j. let p = listed_at f (a + 1) n x j in let low = p.1 in let high = p.2 in (p.0, omega arith, omega arith, p.3))
    (f a) refl i

in_cons_option : {X : Type 0} (o : Option X) (xs : List X) (x : X) → Contains xs x → Contains (cons_option o xs) x
in_cons_option None xs x i = i
in_cons_option (Some y) xs x i = contains_tail y xs x i

pub listed_from : {X : Type 0} (f : ℕ → Option X) (a n : ℕ) (x : X) (k : ℕ) → a ≤ k → k < a + n → f k ≡ Some x
    → Contains (filter_map f (range_with_len a n)) x
listed_from f a zero x k low high e = absurd (omega arith)
listed_from f a (suc n) x k low high e =
    elim (cases_from a k low) [
      | inl s ↦ rw (ap f s ∙ e) (contains_head x (filter_map f (range_with_len (a + 1) n)))
      | inr h ↦ in_cons_option (f a) (filter_map f (range_with_len (a + 1) n)) x
          (listed_from f (a + 1) n x k h (omega arith) e)
    ]
  where
    cases_from : (m k : ℕ) → m ≤ k → (m ≡ k) ⊎ (m + 1 ≤ k)
    cases_from m k h = grind arith
