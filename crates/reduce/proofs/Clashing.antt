-- Clashes of ascending rows, one literal at a time.
use Rattle.std.proofs.Common.{◌≡◌, ℕ, ◌+◌, ◌<◌, ◌≤◌, ◌⊎◌, Bool, true, false, not, ◌&&◌, ◌||◌, List, [], ◌∷◌, length, get_or, drop, sym, refl, ap, ap₂, ◌∙◌, ⊎_elim, arith, nat_eq}
use Rattle.std.specs.List.{AllByRecursion}
use Rattle.std.specs.Bool.{beq}
use Rattle.std.proofs.lemmas.Bool.{eq-eqb, ne_eqb, true≢false}
use Rattle.std.proofs.lemmas.List.{drop_more, drop_all}
use Rattle.prefix.specs.Literal.{Literal}
use Rattle.prefix.specs.Scopes.{IsAscending}
use Rattle.truth.specs.Matrix.{same}
use Rattle.calculus.specs.Rows.{Row, variables_in, opposes, clashes}
use Rattle.calculus.proofs.Merging.{beq_refl}

and_none : (b : Bool) → (b && false) ≡ false
and_none true = refl
and_none false = refl

or_none : (b : Bool) → (b || false) ≡ b
or_none true = refl
or_none false = refl

all_lower : (k n : ℕ) (xs : List ℕ) → k < n → AllByRecursion (λ y. n < y) xs → AllByRecursion (λ y. k < y) xs
all_lower k n [] below above = tt
all_lower k n (x ∷ xs) below above = (
  let first : n < x = above.0 in let r : k < x = omega arith in r,
  all_lower k n xs below above.1,
)

-- a row above a literal doesn't oppose it
opposes_above : (l : Literal) (b : Row) → AllByRecursion (λ y. l.variable < y) (variables_in b) → opposes l b ≡ false
opposes_above l [] above = refl
opposes_above l (m ∷ ms) above =
    let first : l.variable < m.variable = above.0 in
    let apart : nat_eq l.variable m.variable ≡ false = ne_eqb l.variable m.variable
    (λ e. let f : l.variable ≡ m.variable = e in omega arith) in
    ap₂ (λ t r. (t && not (same l.positive m.positive)) || r) apart (opposes_above l ms above.1)

-- a literal below a row clashes with none of it
skip_right : (x : ℕ) (a : Row) (m : Literal) (ms : Row) → AllByRecursion (λ y. m.variable < y) (variables_in a)
    → clashes a (m ∷ ms) x ≡ clashes a ms x
skip_right x [] m ms above = refl
skip_right x (l ∷ ls) m ms above =
    let first : m.variable < l.variable = above.0 in
    let apart : nat_eq l.variable m.variable ≡ false = ne_eqb l.variable m.variable
    (λ e. let f : l.variable ≡ m.variable = e in omega arith) in
    ap₂ (λ t r. (not (nat_eq l.variable x) && ((t && not (same l.positive m.positive)) || opposes l ms)) || r) apart
    (skip_right x ls m ms above.1)

skip_left : (x : ℕ) (l : Literal) (ls b : Row) → AllByRecursion (λ y. l.variable < y) (variables_in b)
    → clashes (l ∷ ls) b x ≡ clashes ls b x
skip_left x l ls b above =
    ap (λ t. t || clashes ls b x) (ap (λ o. not (nat_eq l.variable x) && o) (opposes_above l b above)
    ∙ and_none (not (nat_eq l.variable x)))

-- both literals are over one variable and don't clash
skip_both : (x : ℕ) (l m : Literal) (ls ms : Row) → l.variable ≡ m.variable
    → (not (nat_eq l.variable x) && not (same l.positive m.positive)) ≡ false → IsAscending (variables_in (l ∷ ls))
    → IsAscending (variables_in (m ∷ ms)) → clashes (l ∷ ls) (m ∷ ms) x ≡ clashes ls ms x
skip_both x l m ls ms e none up_a up_b =
    let above : AllByRecursion (λ y. l.variable < y) (variables_in ms) = rw e up_b.0 in
    let over : AllByRecursion (λ y. m.variable < y) (variables_in ls) = rw (← e) up_a.0 in
    let alone : opposes l (m ∷ ms) ≡ not (same l.positive m.positive) =
    ap₂ (λ t r. (t && not (same l.positive m.positive)) || r) (eq-eqb l.variable m.variable e)
    (opposes_above l ms above) ∙ or_none (not (same l.positive m.positive)) in
    let head : (not (nat_eq l.variable x) && opposes l (m ∷ ms)) ≡ false = ap (λ o. not (nat_eq l.variable x) && o)
    alone ∙ none in
    ap (λ t. t || clashes ls (m ∷ ms) x) head ∙ skip_right x ls m ms over

-- literals over the pivot, or of one sign, don't clash
pub no_clash_from : (x : ℕ) (l m : Literal) → (l.variable ≡ x) ⊎ (l.positive ≡ m.positive)
    → (not (nat_eq l.variable x) && not (same l.positive m.positive)) ≡ false
no_clash_from x l m alike =
    ⊎_elim (λ e. ap (λ t. not t && not (same l.positive m.positive)) (eq-eqb l.variable x e))
    (λ e. ap (λ s. not (nat_eq l.variable x) && not (same l.positive s)) (sym e)
    ∙ (ap (λ t. not (nat_eq l.variable x) && not t) (beq_refl l.positive) ∙ and_none (not (nat_eq l.variable x))))
    alike

pub agree : (a b : Bool) → not (beq a b) ≡ false → a ≡ b
agree true true none = refl
agree false false none = refl
agree true false none = absurd (true≢false none)
agree false true none = absurd (true≢false none)

-- what is left of an ascending row ascends
pub up_more : (a : Row) (i : ℕ) (d : Literal) → i < length a → IsAscending (variables_in (drop i a))
    → IsAscending (variables_in (drop (i + 1) a))
up_more a i d in_a up = (rw (drop_more a i d in_a) at up).1

-- one turn over places
module _ (a b : Row) (i j x : ℕ) (d e : Literal) (in_a : i < length a) (in_b : j < length b)
    (up_a : IsAscending (variables_in (drop i a))) (up_b : IsAscending (variables_in (drop j b))) where
  rises_a : IsAscending (variables_in (get_or a i d ∷ drop (i + 1) a))
  rises_a = rw (drop_more a i d in_a) at up_a

  rises_b : IsAscending (variables_in (get_or b j e ∷ drop (j + 1) b))
  rises_b = rw (drop_more b j e in_b) at up_b

  pub turn_left : (get_or a i d).variable < (get_or b j e).variable → clashes (drop (i + 1) a) (drop j b) x ≡ clashes
      (drop i a) (drop j b) x
  turn_left below =
      let above : AllByRecursion (λ y. (get_or a i d).variable < y) (variables_in (get_or b j e ∷ drop (j + 1) b)) = (
        below,
        all_lower (get_or a i d).variable (get_or b j e).variable (variables_in (drop (j + 1) b)) below
            rises_b.0,
      ) in
      let over : AllByRecursion (λ y. (get_or a i d).variable < y) (variables_in (drop j b)) = rw (drop_more b j e in_b)
      above in
      sym (ap (λ r. clashes r (drop j b) x) (drop_more a i d in_a) ∙ skip_left x (get_or a i d) (drop (i + 1) a)
      (drop j b) over)

  pub turn_right : (get_or b j e).variable < (get_or a i d).variable → clashes (drop i a) (drop (j + 1) b) x ≡ clashes
      (drop i a) (drop j b) x
  turn_right below =
      let above : AllByRecursion (λ y. (get_or b j e).variable < y) (variables_in (get_or a i d ∷ drop (i + 1) a)) = (
        below,
        all_lower (get_or b j e).variable (get_or a i d).variable (variables_in (drop (i + 1) a)) below
            rises_a.0,
      ) in
      let over : AllByRecursion (λ y. (get_or b j e).variable < y) (variables_in (drop i a)) = rw (drop_more a i d in_a)
      above in
      sym (ap (λ s. clashes (drop i a) s x) (drop_more b j e in_b) ∙ skip_right x (drop i a) (get_or b j e)
      (drop (j + 1) b) over)

  pub turn_both : (get_or a i d).variable ≡ (get_or b j e).variable
      → (not (nat_eq (get_or a i d).variable x) && not (same (get_or a i d).positive (get_or b j e).positive)) ≡ false
      → clashes (drop (i + 1) a) (drop (j + 1) b) x ≡ clashes (drop i a) (drop j b) x
  turn_both one none = sym (ap₂ (λ r s. clashes r s x) (drop_more a i d in_a) (drop_more b j e in_b)
      ∙ skip_both x (get_or a i d) (get_or b j e) (drop (i + 1) a) (drop (j + 1) b) one none rises_a rises_b)

clashes_nil : (a : Row) (x : ℕ) → clashes a [] x ≡ false
clashes_nil [] x = refl
clashes_nil (l ∷ ls) x = ap₂ (λ t r. t || r) (and_none (not (nat_eq l.variable x))) (clashes_nil ls x)

-- no turn is left
pub turn_none : (a b : Row) (i j x : ℕ) → (length a ≤ i) ⊎ (length b ≤ j) → false ≡ clashes (drop i a) (drop j b) x
turn_none a b i j x ends =
    ⊎_elim (λ e. sym (ap (λ r. clashes r (drop j b) x) (drop_all i a e)))
    (λ e. sym (ap (λ s. clashes (drop i a) s x) (drop_all j b e) ∙ clashes_nil (drop i a) x))
    ends
