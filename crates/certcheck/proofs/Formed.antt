-- The rows of the check formula are as those of a formula that was read.
use Rattle.std.proofs.Common.{◌≡◌, ℕ, ◌+◌, ◌*◌, ◌/◌, true, false, not, List, [], ◌∷◌, map, filter, Contains, refl, sym, ap, ◌∙◌, subst, nat_eq}
use Rattle.std.specs.List.{AllByRecursion, list_any}
use Rattle.std.proofs.lemmas.Bool.{false_from_ne_true, true≢false, or_right, not-true}
use Rattle.prefix.specs.Literal.{Literal}
use Rattle.prefix.specs.Scopes.{Scope, all_variables, is_among, IsAscending}
use Rattle.clauses.specs.Clause.{ascending}
use Rattle.truth.specs.Formed.{IsClauseOver}
use Rattle.clauses.specs.Codes.{has_pair}
use Rattle.clauses.proofs.Ascending.{ascending_is}
use Rattle.clauses.proofs.Rows.{halves_ascend, pair_witness}
use Rattle.calculus.proofs.Lists.{contains_head, contains_tail, any_from, among_at, among_from, filter_at, contains_map}
use Rattle.builder.specs.Rows.{as_row, flipped, is_left_out, literal_of, rows_of}
use Rattle.certcheck.specs.Check.{scopes_to, variable_count, check_clauses}
use Rattle.certcheck.specs.Theorems.{RowsAreFormed}
use Rattle.builder.proofs.Opposites.{flip_even}
use Rattle.certcheck.proofs.Rows.{kept_at}
use Rattle.certcheck.proofs.Deciding.{rows_over}
use Rattle.certcheck.proofs.Bounds.{check_below}

variables_are : (xs : List ℕ) → map (λ (l : Literal). l.variable) (map literal_of xs) ≡ map (λ n. n / 2) xs
variables_are [] = refl
variables_are (x ∷ xs) = ap (λ r. x / 2 ∷ r) (variables_are xs)

-- no two numbers of one variable are left
no_pair : (c : List ℕ) → is_left_out c ≡ false → has_pair (ascending (filter (λ n. not (nat_eq n 0)) c)) ≡ false
no_pair c f =
    let kept = ascending (filter (λ n. not (nat_eq n 0)) c) in
    false_from_ne_true (has_pair kept) (λ t.
    let w = pair_witness kept (ascending_is (filter (λ n. not (nat_eq n 0)) c)) t in
    let even = kept_at c (2 * w.0) (among_at kept (2 * w.0) w.1) in
    let odd = kept_at c (2 * w.0 + 1) (among_at kept (2 * w.0 + 1) w.2) in
    let next : flipped (2 * w.0) ≡ 2 * w.0 + 1 = flip_even (2 * w.0) w.0 refl in
    true≢false (sym (or_right (is_among 1 c) (list_any (λ n. is_among (flipped n) c) c)
    (any_from (λ n. is_among (flipped n) c) c (2 * w.0) even.0
    (ap (λ n. is_among n c) next ∙ among_from c (2 * w.0 + 1) odd.0))) ∙ f))

row_ascends : (c : List ℕ) → is_left_out c ≡ false → IsAscending (map (λ (l : Literal). l.variable) (as_row c))
row_ascends c f =
    subst (λ vs. IsAscending vs) (sym (variables_are (ascending (filter (λ n. not (nat_eq n 0)) c))))
    (halves_ascend (ascending (filter (λ n. not (nat_eq n 0)) c)) (ascending_is (filter (λ n. not (nat_eq n 0)) c))
    (no_pair c f))

all_in : (scopes : List Scope) (row : List Literal)
    → ((l : Literal) → Contains row l → Contains (all_variables scopes) l.variable)
    → AllByRecursion (λ (l : Literal). is_among l.variable (all_variables scopes) ≡ true) row
all_in scopes [] h = tt
all_in scopes (l ∷ ls) h = (
  among_from (all_variables scopes) l.variable (h l (contains_head l ls)),
  all_in scopes ls
      (λ m i. h m (contains_tail l ls m i)),
)

all_rows : (scopes : List Scope) (rows : List (List Literal))
    → ((r : List Literal) → Contains rows r → IsClauseOver scopes r) → AllByRecursion (IsClauseOver scopes) rows
all_rows scopes [] h = tt
all_rows scopes (r ∷ rs) h = (h r (contains_head r rs), all_rows scopes rs (λ q i. h q (contains_tail r rs q i)))

pub rows_are_formed : RowsAreFormed
rows_are_formed clauses assumptions s is gates =
    let k = variable_count clauses assumptions s in
    let cs = check_clauses clauses assumptions s in
    let over = rows_over k cs (check_below clauses assumptions s is gates) in
    all_rows (scopes_to k) (rows_of cs) (λ row i.
    let r = contains_map as_row (filter (λ c. not (is_left_out c)) cs) row i in
    let f = filter_at (λ c. not (is_left_out c)) cs r.0 r.1 in (
      subst (λ (x : List Literal). IsAscending (map (λ (l : Literal). l.variable) x)) r.2
          (row_ascends r.0 (not-true (is_left_out r.0) f.1)),
      all_in (scopes_to k) row (λ l j. over row l i j),
    ))
