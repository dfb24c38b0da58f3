-- What a search in ascending assumptions finds.
use Rattle.std.proofs.Common.{◌≡◌, ℕ, zero, suc, ◌+◌, ◌<◌, ◌≤◌, true, false, List, [], ◌∷◌, length, get_or, is_some, Some, sym, refl, ap, ◌∙◌, ⊎_elim, arith, nat_eq}
use Rattle.std.proofs.lemmas.Bool.{cases_Bool, cases_lt, cond-true, cond-false, eq-eqb, eqb-true}
use Rattle.std.proofs.lemmas.List.{get_or_default}
use Rattle.std.specs.List.{AllByRecursion}
use Rattle.prefix.specs.Literal.{Literal}
use Rattle.prefix.specs.Scopes.{IsAscending}
use Rattle.truth.specs.Truth.{assumed_value}
use Rattle.calculus.specs.Rows.{variables_in}

-- a literal of the list gives its variable a value
value_at : (xs : List Literal) (i v : ℕ) (d : Literal) → i < length xs → (get_or xs i d).variable ≡ v
    → is_some (assumed_value xs v) ≡ true
value_at [] i v d h e = absurd (let l : length {A = Literal} [] ≡ 0 = refl in omega arith)
value_at (x ∷ xs) zero v d h e = ap is_some (cond-true (nat_eq x.variable v) (Some x.positive) (assumed_value xs v)
    (eq-eqb x.variable v e))
value_at (x ∷ xs) (suc i) v d h e =
    ⊎_elim
    (λ t. ap is_some (cond-true (nat_eq x.variable v) (Some x.positive) (assumed_value xs v) t))
    (λ f. ap is_some (cond-false (nat_eq x.variable v) (Some x.positive) (assumed_value xs v) f) ∙ value_at xs i v d
    (omega arith) e)
    (cases_Bool (nat_eq x.variable v))

-- where no literal is over a variable it has none
value_none : (xs : List Literal) (v : ℕ) (d : Literal) → ((k : ℕ) → k < length xs → (get_or xs k d).variable ≡ v → ⊥)
    → is_some (assumed_value xs v) ≡ false
value_none [] v d none = refl
value_none (x ∷ xs) v d none =
    ⊎_elim
    (λ t. absurd (none 0 (omega arith) (eqb-true x.variable v t)))
    (λ f. ap is_some (cond-false (nat_eq x.variable v) (Some x.positive) (assumed_value xs v) f) ∙ value_none xs v d
    (λ k h e. none (suc k) (omega arith) e))
    (cases_Bool (nat_eq x.variable v))

-- an item of a list of which all are above a number
above : (xs : List Literal) (n j : ℕ) (d : Literal) → AllByRecursion (λ y. n < y) (variables_in xs) → j < length xs
    → n < (get_or xs j d).variable
above [] n j d all h = absurd (let l : length {A = Literal} [] ≡ 0 = refl in omega arith)
above (x ∷ xs) n zero d all h = all.0
above (x ∷ xs) n (suc j) d all h = above xs n j d all.1 (omega arith)

-- ascending variables don't fall
rising : (xs : List Literal) → IsAscending (variables_in xs) → (i j : ℕ) (d : Literal) → i ≤ j → j < length xs
    → (get_or xs i d).variable ≤ (get_or xs j d).variable
rising [] up i j d le h = absurd (let l : length {A = Literal} [] ≡ 0 = refl in omega arith)
rising (x ∷ xs) up zero zero d le h = omega arith
rising (x ∷ xs) up zero (suc j) d le h = let a : x.variable < (get_or xs j d).variable = above xs x.variable j d up.0
    (omega arith) in omega arith
rising (x ∷ xs) up (suc i) zero d le h = absurd (omega arith)
rising (x ∷ xs) up (suc i) (suc j) d le h = rising xs up.1 i j d (omega arith) (omega arith)

-- a variable is above all assumed ones before a place, and below all from another on
pub record IsBetween (xs : List Literal) (v low high : ℕ) : Type 0 where
  pub ordered : low ≤ high
  pub within : high ≤ length xs
  pub below : (k : ℕ) (d : Literal) → k < low → (get_or xs k d).variable < v
  pub above : (k : ℕ) (d : Literal) → high ≤ k → k < length xs → v < (get_or xs k d).variable

pub between_all : (xs : List Literal) (v : ℕ) → IsBetween xs v 0 (length xs)
between_all xs v = record {
  ordered = omega arith;
  within = omega arith;
  below = λ k d h. absurd (omega arith);
  above = λ k d from h. absurd (omega arith);
}

pub between_up : (xs : List Literal) (v low high middle : ℕ) (l : Literal) → IsAscending (variables_in xs)
    → IsBetween xs v low high → middle < high → l ≡ get_or xs middle l → l.variable < v
    → IsBetween xs v (middle + 1) high
between_up xs v low high middle l up between inside is less =
    let end : high ≤ length xs = between.within in
    record {
      ordered = omega arith;
      within = between.within;
      below = λ k d h.
          let rises : (get_or xs k d).variable ≤ (get_or xs middle d).variable = rising xs up k middle d (omega arith)
          (omega arith) in
          let there : (get_or xs middle d).variable ≡ l.variable = ap (λ (m : Literal). m.variable)
          (get_or_default xs middle d l (omega arith) ∙ sym is) in
          omega arith;
      above = between.above;
    }

pub between_down : (xs : List Literal) (v low high middle : ℕ) (l : Literal) → IsAscending (variables_in xs)
    → IsBetween xs v low high → low ≤ middle → middle < high → l ≡ get_or xs middle l → v < l.variable
    → IsBetween xs v low middle
between_down xs v low high middle l up between from inside is more =
    let end : high ≤ length xs = between.within in
    record {
      ordered = from;
      within = omega arith;
      below = between.below;
      above = λ k d after h.
          let rises : (get_or xs middle d).variable ≤ (get_or xs k d).variable = rising xs up middle k d after h in
          let there : (get_or xs middle d).variable ≡ l.variable = ap (λ (m : Literal). m.variable)
          (get_or_default xs middle d l (omega arith) ∙ sym is) in
          omega arith;
    }

pub between_none : (xs : List Literal) (v low high : ℕ) → IsBetween xs v low high → high ≤ low
    → is_some (assumed_value xs v) ≡ false
between_none xs v low high between met =
    let d : Literal = record { variable = 0; positive = false } in
    value_none xs v d
    (λ k h e. ⊎_elim
    (λ (early : k < low). let less : (get_or xs k d).variable < v = between.below k d early in omega arith)
    (λ (late : low ≤ k). let more : v < (get_or xs k d).variable = between.above k d (omega arith) h in omega arith)
    (cases_lt k low))

pub found_at : (xs : List Literal) (v middle : ℕ) (l : Literal) → middle < length xs → l ≡ get_or xs middle l
    → l.variable ≡ v → is_some (assumed_value xs v) ≡ true
found_at xs v middle l h is e = value_at xs middle v l h (ap (λ (m : Literal). m.variable) (sym is) ∙ e)
