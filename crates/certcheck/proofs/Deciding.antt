-- The truth of a formula with one existential scope: whether its matrix can be satisfied.
use Rattle.std.proofs.Common.{◌≡◌, ℕ, zero, suc, ◌+◌, ◌*◌, ◌/◌, ◌<◌, ◌≤◌, ◌⊎◌, ⊎_elim, true, false, not, cond, List, [], ◌∷◌, filter, Contains, Some, None, refl, sym, ap, ap₂, ◌∙◌, subst, arith, append-nil, nat_eq}
use Rattle.std.specs.Option.{option_and_then, option_map}
use Rattle.std.proofs.lemmas.Bool.{cases_Bool, cond-true, cond-false, ne_eqb, or_from, or_parts, not-true}
use Rattle.prefix.specs.declared.quant.Quant.TheVariants.{Exists, Forall}
use Rattle.prefix.specs.Literal.{Literal}
use Rattle.prefix.specs.Scopes.{Scope, BoundVariable, all_variables, quantifier_of, quantifier_at, is_among, AreDistinct, prefix_order}
use Rattle.truth.specs.Matrix.{Values, no_values, with_value, matrix_true}
use Rattle.truth.specs.Truth.{truth, truth_under, truth_from, truth_under_from, joined}
use Rattle.calculus.specs.Rows.{Row, Assignment, AreOverPrefix}
use Rattle.calculus.specs.Plays.{total}
use Rattle.calculus.proofs.Lists.{contains_nil, contains_head, contains_tail, among_from, filter_at, contains_map}
use Rattle.calculus.proofs.Winning.{winning_decides}
use Rattle.std.specs.List.{range_with_len}
use Rattle.builder.specs.Rows.{as_row, is_left_out, literal_of, rows_of}
use Rattle.certcheck.specs.Check.{scopes_to}
use Rattle.certcheck.proofs.Rows.{kept_at, none_there}

-- the truth under no assumptions is the truth
no_assumptions_from : (xs : List BoundVariable) (cs : List Row) (σ : Values)
    → truth_under_from [] xs cs σ ≡ truth_from xs cs σ
no_assumptions_from [] cs σ = refl
no_assumptions_from (x ∷ xs) cs σ =
    ap₂ (λ a b. joined x.quantifier a b) (no_assumptions_from xs cs (with_value x.variable false σ))
    (no_assumptions_from xs cs (with_value x.variable true σ))

plain : (scopes : List Scope) (cs : List Row) → truth scopes cs ≡ truth_under [] scopes cs
plain scopes cs = sym (no_assumptions_from (prefix_order scopes) cs no_values)

-- the numbers from one on
pub from_has : (first n x : ℕ) → first ≤ x → x < first + n → Contains (range_with_len first n) x
from_has first zero x low high = absurd (omega (arith, low, high))
from_has first (suc n) x low high =
    ⊎_elim (λ (e : first ≡ x). subst (λ k. Contains (first ∷ range_with_len (first + 1) n) k) e
    (contains_head first (range_with_len (first + 1) n)))
    (λ (ne : first ≡ x → ⊥). contains_tail first (range_with_len (first + 1) n) x
    (from_has (first + 1) n x (omega (arith, low, ne)) (omega (arith, high))))
    (cases first x)
  where
    cases : (a b : ℕ) → (a ≡ b) ⊎ (a ≡ b → ⊥)
    cases a b = Rattle.std.proofs.lemmas.Bool.cases_eq a b

from_apart : (x first n : ℕ) → x < first → is_among x (range_with_len first n) ≡ false
from_apart x first zero below = refl
from_apart x first (suc n) below =
    or_from (nat_eq first x) (is_among x (range_with_len (first + 1) n))
    (ne_eqb first x (λ e. omega (arith, below, e))) (from_apart x (first + 1) n (omega (arith, below)))

from_distinct : (first n : ℕ) → AreDistinct (range_with_len first n)
from_distinct first zero = tt
from_distinct first (suc n) = (from_apart first (first + 1) n (omega arith), from_distinct (first + 1) n)

pub variables_to : (k : ℕ) → all_variables (scopes_to k) ≡ range_with_len 1 k
variables_to zero = refl
variables_to (suc n) = append-nil (range_with_len 1 (suc n))

distinct_to : (k : ℕ) → AreDistinct (all_variables (scopes_to k))
distinct_to k = subst (λ xs. AreDistinct xs) (sym (variables_to k)) (from_distinct 1 k)

-- every variable is existential
exists_to : (k x : ℕ) → Contains (all_variables (scopes_to k)) x → quantifier_of (scopes_to k) x ≡ Some Exists
exists_to zero x i = absurd (contains_nil x i)
exists_to (suc n) x i =
    let among : is_among x (range_with_len 1 (suc n)) ≡ true = ap (is_among x) (sym (variables_to (suc n)))
    ∙ among_from (all_variables (scopes_to (suc n))) x i in
    ap (λ b. option_and_then (quantifier_at (scopes_to (suc n)))
    (cond b (Some 1) (option_map (λ m. m + 1) None))) among

not_forall : (k x : ℕ) → quantifier_of (scopes_to k) x ≡ Some Forall → ⊥
not_forall zero x e = cc
not_forall (suc n) x e =
    ⊎_elim
    (λ t. let q : quantifier_of (scopes_to (suc n)) x ≡ Some Exists =
    ap (λ b. option_and_then (quantifier_at (scopes_to (suc n))) (cond b (Some 1) (option_map (λ m. m + 1) None))) t in
    let g : Some Exists ≡ Some Forall = sym q ∙ e in cc)
    (λ f. let q : quantifier_of (scopes_to (suc n)) x ≡ None =
    ap (λ b. option_and_then (quantifier_at (scopes_to (suc n))) (cond b (Some 1) (option_map (λ m. m + 1) None))) f in
    let g : None ≡ Some Forall = sym q ∙ e in cc)
    (cases_Bool (is_among x (range_with_len 1 (suc n))))

-- values that satisfy the matrix make the formula true
pub satisfied_true : (k : ℕ) (rows : List Row) (σ : Assignment) → AreOverPrefix (scopes_to k) rows
    → matrix_true (total σ) rows ≡ true
    → truth (scopes_to k) rows ≡ true
satisfied_true k rows σ over holds =
    plain (scopes_to k) rows
    ∙ winning_decides Forall (scopes_to k) rows [] (λ v. σ) (λ l i. absurd (contains_nil l i)) over
    (λ inputs x e. absurd (not_forall k x e))
    (λ inputs allowed. (holds, λ x b e ne. let g : None ≡ Some b = e in cc))
    (λ x i ne v w agree. refl)
    (distinct_to k)

-- where none do, it is false
pub unsatisfied_false : (k : ℕ) (rows : List Row) → AreOverPrefix (scopes_to k) rows
    → ((σ : Assignment) → matrix_true (total σ) rows ≡ false)
    → truth (scopes_to k) rows ≡ false
unsatisfied_false k rows over fails =
    plain (scopes_to k) rows
    ∙ winning_decides Exists (scopes_to k) rows [] (λ v. v) (λ l i. absurd (contains_nil l i)) over
    (λ inputs x e. refl)
    (λ inputs allowed. (fails inputs, λ x b e ne. let g : None ≡ Some b = e in cc))
    (λ x i ne v w agree. absurd (ne (exists_to k x i)))
    (distinct_to k)

-- clauses whose literals are below a bound have rows over the variables below it
pub rows_over : (k : ℕ) (cs : List (List ℕ))
    → ((c : List ℕ) (n : ℕ) → Contains cs c → Contains c n → n < 2 * (k + 1))
    → AreOverPrefix (scopes_to k) (rows_of cs)
rows_over k cs below clause literal i j =
    let r = contains_map as_row (filter (λ c. not (is_left_out c)) cs) clause i in
    let f = filter_at (λ c. not (is_left_out c)) cs r.0 r.1 in
    let none : is_among 1 r.0 ≡ false = (or_parts (is_among 1 r.0) _ (not-true (is_left_out r.0) f.1)).0 in
    let inside : Contains (as_row r.0) literal = subst (λ row. Contains row literal) (sym r.2) j in
    let m = contains_map literal_of _ literal inside in
    let kept = kept_at r.0 m.0 m.1 in
    let other : m.0 ≡ 1 → ⊥ = none_there r.0 none m.0 kept.0 in
    let some : m.0 ≡ 0 → ⊥ = kept.1 in
    let bound : m.0 < 2 * (k + 1) = below r.0 m.0 f.0 kept.0 in
    subst (λ (l : Literal). Contains (all_variables (scopes_to k)) l.variable) m.2
    (subst (λ xs. Contains xs (m.0 / 2)) (sym (variables_to k))
    (from_has 1 k (m.0 / 2) (omega (arith, other, some)) (omega (arith, bound))))
