-- The numbers of a clause's row: their row is the row itself.
use Rattle.std.proofs.Common.{◌≡◌, ℕ, ◌-◌, ◌<◌, ◌≤◌, ℤ, pos, negsuc, nat_abs, Bool, true, false, not, ◌&&◌, ◌||◌, List, [], ◌∷◌, length, map, Some, Contains, inl, inr, refl, ap, subst, ◌∙◌, arith, zero, suc}
use Rattle.std.specs.Prelude.{◌==◌, nat_lt, if◌then◌else◌, is_some, neg_ℤ}
use Rattle.std.specs.List.{AllByRecursion, list_all, list_any}
use Rattle.std.specs.Ordering.{int_eq}
use Rattle.std.proofs.lemmas.Bool.{eqb-true, eq-eqb, ne_eqb}
use Rattle.std.proofs.lemmas.Bool.Decides.{nat_tests}
use Rattle.std.proofs.lemmas.List.{length-map}
use Rattle.prefix.specs.Literal.{Literal, signed_number}
use Rattle.prefix.specs.Scopes.{Scope, all_variables, is_among, level_of, IsAscending, IsPrefix}
use Rattle.prefix.proofs.InsertionLemmas.{level_found}
use Rattle.truth.specs.Matrix.{is_true_of, same}
use Rattle.truth.specs.Truth.{assumed_value}
use Rattle.clauses.specs.Clause.{as_row, ascending, has_literal, is_tautology, put, variables_of}
use Rattle.clauses.proofs.Ascending.{below_all}
use Rattle.truth.specs.Formed.{IsClauseOver}
use Rattle.calculus.specs.Rows.{IsRow}
use Rattle.calculus.proofs.Lists.{among_at, contains_cons, contains_nil}
use Rattle.frames.specs.Commands.{is_known}

-- the variables of a row, and the number of each literal
abbrev pub variables : List Literal → List ℕ
variables row = map (λ (l : Literal). l.variable) row

abbrev pub numbers : List Literal → List ℤ
numbers row = map signed_number row

-- no literal is over the variable 0
abbrev pub ArePositive : List Literal → Type 0
ArePositive row = AllByRecursion (λ (l : Literal). 1 ≤ l.variable) row

or_false : (a b : Bool) → (a || b) ≡ false → (a ≡ false) × (b ≡ false)
or_false true b h = cc
or_false false b h = (refl, h)

or_none : (b : Bool) → (b || false) ≡ b
or_none true = refl
or_none false = refl

-- numbers are the same where variables and signs are
number_eq : (v w : ℕ) (a b : Bool) → 1 ≤ v → 1 ≤ w → int_eq (signed_number (record { variable = v; positive = a }))
    (signed_number (record { variable = w; positive = b })) ≡ (w == v && same b a)
number_eq v w true true p q = grind (arith, nat_tests, p, q)
number_eq v w true false p q = grind (arith, nat_tests, p, q)
number_eq v w false true p q = grind (arith, nat_tests, p, q)
number_eq v w false false p q = grind (arith, nat_tests, p, q)

not_there : (v : ℕ) (b : Bool) (row : List Literal) → 1 ≤ v → ArePositive row → is_among v (variables row) ≡ false
    → has_literal (signed_number (record { variable = v; positive = b })) (numbers row) ≡ false
not_there v b [] p all h = refl
not_there v b (x ∷ xs) p all h =
    let parts = or_false (x.variable == v) (is_among v (variables xs)) h in
    let first : int_eq (signed_number (record { variable = v; positive = b })) (signed_number x) ≡ false =
    number_eq v x.variable b x.positive p all.0 ∙ ap (λ t. t && same x.positive b) parts.0 in
    ap (λ t. t || has_literal (signed_number (record { variable = v; positive = b })) (numbers xs)) first
    ∙ not_there v b xs p all.1 parts.1

-- whether a literal's number stands there is told by the sign of its variable
stands : (v : ℕ) (b : Bool) (row : List Literal) → 1 ≤ v → ArePositive row → IsAscending (variables row)
    → has_literal (signed_number (record { variable = v; positive = b })) (numbers row) ≡ is_true_of
    (assumed_value row v) b
stands v b [] p all a = refl
stands v b (x ∷ xs) p all a =
    ap (λ t. t || later) (number_eq v x.variable b x.positive p all.0) ∙ by (x.variable == v) refl
    (stands v b xs p all.1 a.1)
  where
    later : Bool
    later = has_literal (signed_number (record { variable = v; positive = b })) (numbers xs)

    by : (t : Bool) → (x.variable == v) ≡ t → later ≡ is_true_of (assumed_value xs v) b
        → ((t && same x.positive b) || later) ≡ is_true_of (if t then Some x.positive else assumed_value xs v) b
    by true e rest =
        let out : is_among v (variables xs) ≡ false = rw (← eqb-true x.variable v e)
        (below_all x.variable (variables xs) a.0) in
        ap (λ t. same x.positive b || t) (not_there v b xs p all.1 out) ∙ or_none (same x.positive b)
    by false e rest = rest

-- each literal has its own sign
abbrev HasSign : List Literal → Literal → Type 0
HasSign row l = (1 ≤ l.variable) × (assumed_value row l.variable ≡ Some l.positive)

signs_later : (x : Literal) (xs rest : List Literal) → AllByRecursion (λ y. x.variable < y) (variables rest)
    → AllByRecursion (HasSign xs) rest → AllByRecursion (HasSign (x ∷ xs)) rest
signs_later x xs [] low all = tt
signs_later x xs (l ∷ ls) low all =
    let less : x.variable < l.variable = low.0 in
    let other : (x.variable == l.variable) ≡ false = ne_eqb x.variable l.variable (λ e. omega (arith, e, less)) in (
      (all.0.0, ap (λ t. if t then Some x.positive else assumed_value xs l.variable) other ∙ all.0.1),
      signs_later x xs ls low.1 all.1,
    )

signs : (row : List Literal) → ArePositive row → IsAscending (variables row) → AllByRecursion (HasSign row) row
signs [] all a = tt
signs (x ∷ xs) all a = (
  (all.0, ap (λ t. if t then Some x.positive else assumed_value xs x.variable) (eq-eqb x.variable x.variable refl)),
  signs_later x xs xs a.0 (signs xs all.1 a.1),
)

-- an ascending list is in order
put_first : (n : ℕ) (ms : List ℕ) → AllByRecursion (λ m. n < m) ms → put n ms ≡ n ∷ ms
put_first n [] low = refl
put_first n (m ∷ ms) low =
    let less : n < m = low.0 in
    let e : nat_lt n m ≡ true = grind (arith, nat_tests, less) in
    ap (λ t. if t then n ∷ m ∷ ms else if n == m then m ∷ ms else m ∷ put n ms) e

in_order : (ns : List ℕ) → IsAscending ns → ascending ns ≡ ns
in_order [] a = refl
in_order (n ∷ ns) a = ap (put n) (in_order ns a.1) ∙ put_first n ns a.0

number_variable : (l : Literal) → 1 ≤ l.variable → nat_abs (signed_number l) ≡ l.variable
number_variable l p = by l.positive
  where
    by : (b : Bool) → nat_abs (if b then pos l.variable else negsuc (l.variable - 1)) ≡ l.variable
    by true = refl
    by false = omega (arith, p)

number_variables : (row : List Literal) → ArePositive row → map nat_abs (numbers row) ≡ variables row
number_variables [] all = refl
number_variables (l ∷ ls) all = ap (λ n. n ∷ map nat_abs (numbers ls)) (number_variable l all.0)
    ∙ ap (λ vs. l.variable ∷ vs) (number_variables ls all.1)

pub same_variables : (row : List Literal) → ArePositive row → IsAscending (variables row)
    → variables_of (numbers row) ≡ variables row
same_variables row all a = ap ascending (number_variables row all) ∙ in_order (variables row) a

pub amount : (row : List Literal) → ArePositive row → IsAscending (variables row)
    → length (variables_of (numbers row)) ≡ length row
amount row all a = ap length (same_variables row all a) ∙ length-map row (λ (l : Literal). l.variable)

same_self : (b : Bool) → same b true ≡ b
same_self true = refl
same_self false = refl

-- the row is found again
found_again : (row rest : List Literal) → ArePositive row → IsAscending (variables row) → AllByRecursion (HasSign row)
    rest → map (λ v. record { variable = v; positive = has_literal (pos v) (numbers row) }) (variables rest) ≡ rest
found_again row [] all a own = refl
found_again row (l ∷ ls) all a own =
    let sign : has_literal (pos l.variable) (numbers row) ≡ l.positive = stands l.variable true row own.0.0 all a
    ∙ ap (λ o. is_true_of o true) own.0.1 ∙ same_self l.positive in
    ap (λ b. record { variable = l.variable; positive = b } ∷ map
    (λ v. record { variable = v; positive = has_literal (pos v) (numbers row) }) (variables ls)) sign
    ∙ ap (λ r. l ∷ r) (found_again row ls all a own.1)

pub same_row : (row : List Literal) → ArePositive row → IsAscending (variables row) → as_row (numbers row) ≡ row
same_row row all a =
    ap (map (λ v. record { variable = v; positive = has_literal (pos v) (numbers row) })) (same_variables row all a)
    ∙ found_again row row all a (signs row all a)

-- no literal stands beside its negation
number_negated : (l : Literal) → 1 ≤ l.variable → neg_ℤ (signed_number l) ≡ signed_number
    (record { variable = l.variable; positive = not l.positive })
number_negated l p = by l.variable l.positive p
  where
    by : (v : ℕ) (b : Bool) → 1 ≤ v → neg_ℤ (if b then pos v else negsuc (v - 1)) ≡
        (if not b then pos v else negsuc (v - 1))
    by zero b q = absurd (omega (arith, q))
    by (suc v) true q = grind arith
    by (suc v) false q = grind arith

same_not : (b : Bool) → same b (not b) ≡ false
same_not true = refl
same_not false = refl

none_negated : (row rest : List Literal) → ArePositive row → IsAscending (variables row) → AllByRecursion (HasSign row)
    rest → list_any (λ n. has_literal (neg_ℤ n) (numbers row)) (numbers rest) ≡ false
none_negated row [] all a own = refl
none_negated row (l ∷ ls) all a own =
    let out : has_literal (neg_ℤ (signed_number l)) (numbers row) ≡ false =
    ap (λ n. has_literal n (numbers row)) (number_negated l own.0.0) ∙ stands l.variable (not l.positive) row own.0.0
    all a ∙ ap (λ o. is_true_of o (not l.positive)) own.0.1 ∙ same_not l.positive in
    ap (λ t. t || list_any (λ n. has_literal (neg_ℤ n) (numbers row)) (numbers ls)) out
    ∙ none_negated row ls all a own.1

pub no_tautology : (row : List Literal) → ArePositive row → IsAscending (variables row)
    → is_tautology (numbers row) ≡ false
no_tautology row all a = none_negated row row all a (signs row all a)

-- over a prefix
among_all : (P : ℕ → Type 0) (vs : List ℕ) (v : ℕ) → AllByRecursion P vs → is_among v vs ≡ true → P v
among_all P [] v all e = absurd (cc)
among_all P (x ∷ xs) v all e = by (x == v) refl e (λ f. among_all P xs v all.1 f)
  where
    by : (b : Bool) → (x == v) ≡ b → (b || is_among v xs) ≡ true → (is_among v xs ≡ true → P v) → P v
    by true f g rest = rw (← eqb-true x v f) all.0
    by false f g rest = rest g

pub positive_in : (scopes : List Scope) (row : List Literal) → IsPrefix scopes
    → AllByRecursion (λ (l : Literal). is_among l.variable (all_variables scopes) ≡ true) row → ArePositive row
positive_in scopes [] valid all = tt
positive_in scopes (l ∷ ls) valid all = (
  (among_all (λ v. (1 ≤ v) × (v ≤ 1048576)) (all_variables scopes) l.variable valid.in_range all.0).0,
  positive_in scopes ls valid all.1,
)

pub known_in : (scopes : List Scope) (row : List Literal) → ArePositive row
    → AllByRecursion (λ (l : Literal). is_among l.variable (all_variables scopes) ≡ true) row
    → list_all (is_known scopes) (numbers row) ≡ true
known_in scopes [] some all = refl
known_in scopes (l ∷ ls) some all =
    let first : is_known scopes (signed_number l) ≡ true = ap (λ v. is_some (level_of scopes v))
    (number_variable l some.0) ∙ level_found scopes l.variable ∙ all.0 in
    ap (λ b. b && list_all (is_known scopes) (numbers ls)) first ∙ known_in scopes ls some.1 all.1

-- what refuses the numbers of a row over the prefix
pub row_refused : (scopes : List Scope) (row : List Literal) → IsPrefix scopes → IsClauseOver scopes row
    → (list_all (is_known scopes) (numbers row) ≡ true) × (is_tautology (numbers row) ≡ false)
    × (length (variables_of (numbers row)) ≡ length row) × (as_row (numbers row) ≡ row)
row_refused scopes row valid over =
    let positive = positive_in scopes row valid over.1 in (
      known_in scopes row positive over.1,
      no_tautology row positive over.0,
      amount row positive over.0,
      same_row row positive over.0,
    )

each_over : (scopes : List Scope) (ls : List Literal)
    → AllByRecursion (λ (l : Literal). is_among l.variable (all_variables scopes) ≡ true) ls → (l : Literal)
    → Contains ls l → is_among l.variable (all_variables scopes) ≡ true
each_over scopes [] all l c = absurd (contains_nil l c)
each_over scopes (x ∷ xs) all l c = elim (contains_cons x xs l c) [
  | inl e ↦ subst (λ (m : Literal). is_among m.variable (all_variables scopes) ≡ true) e all.0
  | inr d ↦ each_over scopes xs all.1 l d
]

-- what ascends over a prefix is a row
pub row_over : (scopes : List Scope) (row : List Literal) → IsClauseOver scopes row → IsRow scopes row
row_over scopes row over = record {
  ascending = over.0;
  over_prefix = λ l c. among_at (all_variables scopes) l.variable (each_over scopes row over.1 l c);
}
