-- Reduction and resolution give rows; rows with the same literals are one; reduction twice is reduction; what it reads
-- of the prefix.
use Rattle.std.proofs.Common.{List, ◌≡◌, ℕ, ◌<◌, true, false, not, ◌&&◌, ◌||◌, cond, [], ◌∷◌, Contains, filter, sym, refl, ap, ap₂, ◌∙◌, ⊎_elim, arith, nat_eq, nat_lt}
use Rattle.std.specs.List.{list_any}
use Rattle.prefix.specs.Literal.{Literal}
use Rattle.prefix.specs.Scopes.{Scope, quantifier_of}
use Rattle.prefix.specs.declared.quant.Quant.{Quant}
use Rattle.truth.specs.Matrix.{same as same_bool}
use Rattle.calculus.specs.Rows.{IsRow, Row, clashes, depth_of, is_blocked, is_pivot, reduce, resolve, stays, without, is_of}
use Rattle.calculus.proofs.Ascending.{Below, IsAscendingRow, rises, row_of}
use Rattle.std.proofs.lemmas.Bool.{cond_both, cases_Bool, eq-eqb, ne_eqb, cond-true, cond-false, and_parts, and_from, or_left, or_right, or_cases, true≢false, not_from_false, true_from_ne_false}
use Rattle.std.proofs.lemmas.List.Kept.{AllPairs-filter}
use Rattle.calculus.proofs.Lists.{pairs_head, pairs_tail, contains_cons, contains_nil, contains_head, contains_tail, any_at, any_from, any_same, filter_at, filter_from, filter_same, filter_all}
use Rattle.calculus.proofs.RowLemmas.{resolve_at}
use Rattle.calculus.proofs.Merging.{merge_ascending, beq_true}

pub no_clash : (a b : Row) (x : ℕ) → clashes a b x ≡ false → (l m : Literal) → Contains a l → Contains b m
    → (l.variable ≡ x → ⊥) → l.variable ≡ m.variable → m ≡ l
no_clash a b x none l m i j ne e =
    let opposed = λ (k : Literal). nat_eq l.variable k.variable && not (same_bool l.positive k.positive) in
    let same : same_bool l.positive m.positive ≡ true = true_from_ne_false (same_bool l.positive m.positive) (λ f.
    true≢false
    (sym (any_from
    (λ (k : Literal). not (nat_eq k.variable x) && list_any
    (λ (o : Literal). nat_eq k.variable o.variable && not (same_bool k.positive o.positive)) b) a l i
    (and_from (not (nat_eq l.variable x)) (list_any opposed b)
    (not_from_false (nat_eq l.variable x) (ne_eqb l.variable x ne))
    (any_from opposed b m j (and_from (nat_eq l.variable m.variable) (not (same_bool l.positive m.positive))
    (eq-eqb l.variable m.variable e) (not_from_false (same_bool l.positive m.positive) f)))))
    ∙ none)) in
    let p : l.positive ≡ m.positive = beq_true l.positive m.positive same in
    λ i. record { variable = (sym e) i; positive = (sym p) i }

-- the resolvent of two rows that don't clash is a row
pub resolve_row : (scopes : List Scope) (a b : Row) (x : ℕ) → IsRow scopes a → IsRow scopes b → clashes a b x ≡ false
    → IsRow scopes (resolve a b x)
resolve_row scopes a b x is_a is_b none = row_of scopes (resolve a b x)
    (merge_ascending (without x a) (without x b)
    (AllPairs-filter Below (λ l. not (nat_eq l.variable x)) a (rises is_a))
    (AllPairs-filter Below (λ l. not (nat_eq l.variable x)) b (rises is_b))
    (λ l m i j e.
    let p = filter_at (λ (k : Literal). not (nat_eq k.variable x)) a l i in
    let q = filter_at (λ (k : Literal). not (nat_eq k.variable x)) b m j in
    sym (no_clash a b x none l m p.0 q.0 (λ same. let f : nat_eq l.variable x ≡ true = eq-eqb l.variable x same in
    let g : not true ≡ true = ap not (sym f) ∙ p.1 in cc) e)))
    (λ l i. ⊎_elim (λ j. is_a.over_prefix l j) (λ j. is_b.over_prefix l j) (resolve_at a b x l i).0)

-- so is a reduction
pub reduce_row : (pivot : Quant) (scopes : List Scope) (row : Row) → IsRow scopes row
    → IsRow scopes (reduce pivot scopes row)
reduce_row pivot scopes row is_row =
    cond_both (list_any (is_pivot pivot scopes) row) (filter (stays pivot scopes row) row) row (IsRow scopes)
    (λ t. row_of scopes (filter (stays pivot scopes row) row)
    (AllPairs-filter Below (stays pivot scopes row) row (rises is_row))
    (λ l i. is_row.over_prefix l (filter_at (stays pivot scopes row) row l i).0))
    (λ f. is_row)

-- ascending rows with the same literals are one
pub same_rows : (a b : Row) → IsAscendingRow a → IsAscendingRow b → ((l : Literal) → Contains a l → Contains b l)
    → ((l : Literal) → Contains b l → Contains a l) → a ≡ b
same_rows [] [] up down to from = refl
same_rows [] (m ∷ ms) up down to from = absurd (contains_nil m (from m (contains_head m ms)))
same_rows (l ∷ ls) [] up down to from = absurd (contains_nil l (to l (contains_head l ls)))
same_rows (l ∷ ls) (m ∷ ms) up down to from =
    let l_first = pairs_head Below l ls up in
    let m_first = pairs_head Below m ms down in
    let heads : l ≡ m = ⊎_elim (λ e. sym e)
    (λ (i : Contains ms l). ⊎_elim (λ e. e)
    (λ (j : Contains ls m). absurd (let p : m.variable < l.variable = m_first l i in let q : l.variable < m.variable =
    l_first m j in omega arith))
    (contains_cons l ls m (from m (contains_head m ms))))
    (contains_cons m ms l (to l (contains_head l ls))) in
    let v : l.variable ≡ m.variable = ap (λ (k : Literal). k.variable) heads in
    ap₂ (λ k ks. k ∷ ks) heads (same_rows ls ms (pairs_tail Below l ls up) (pairs_tail Below m ms down)
    (λ k i. ⊎_elim
    (λ e. absurd (let p : l.variable < k.variable = l_first k i in let w : m.variable ≡ k.variable =
    ap (λ (o : Literal). o.variable) e in omega arith)) (λ j. j)
    (contains_cons m ms k (to k (contains_tail l ls k i))))
    (λ k i. ⊎_elim
    (λ e. absurd (let p : m.variable < k.variable = m_first k i in let w : l.variable ≡ k.variable =
    ap (λ (o : Literal). o.variable) e in omega arith)) (λ j. j)
    (contains_cons l ls k (from k (contains_tail m ms k i)))))

-- a second reduction removes nothing
pub reduce_twice : (pivot : Quant) (scopes : List Scope) (row : Row) → reduce pivot scopes (reduce pivot scopes row) ≡
    reduce pivot scopes row
reduce_twice pivot scopes row =
    let kept = filter (stays pivot scopes row) row in
    ⊎_elim
    (λ t.
    let once : reduce pivot scopes row ≡ kept = cond-true (list_any (is_pivot pivot scopes) row) kept row t in
    let p = any_at (is_pivot pivot scopes) row t in
    let still : (q : Literal) → Contains row q → is_pivot pivot scopes q ≡ true → Contains kept q =
    λ q i pq. filter_from (stays pivot scopes row) row q i
    (or_left (is_pivot pivot scopes q) (is_blocked pivot scopes row q) pq) in
    let has : list_any (is_pivot pivot scopes) kept ≡ true = any_from (is_pivot pivot scopes) kept p.0
    (still p.0 p.1 p.2) p.2 in
    let all : (l : Literal) → Contains kept l → stays pivot scopes kept l ≡ true = λ l i.
    ⊎_elim (λ pl. or_left (is_pivot pivot scopes l) (is_blocked pivot scopes kept l) pl)
    (λ bl. let blocks = λ (q : Literal). is_pivot pivot scopes q && nat_lt (depth_of scopes l.variable)
    (depth_of scopes q.variable) in
    let q = any_at blocks row bl in
    or_right (is_pivot pivot scopes l) (is_blocked pivot scopes kept l)
    (any_from blocks kept q.0
    (still q.0 q.1
    (and_parts (is_pivot pivot scopes q.0) (nat_lt (depth_of scopes l.variable) (depth_of scopes q.0.variable))
    q.2).0) q.2))
    (or_cases (is_pivot pivot scopes l) (is_blocked pivot scopes row l) (filter_at (stays pivot scopes row) row l i).1)
    in
    ap (reduce pivot scopes) once
    ∙ (cond-true (list_any (is_pivot pivot scopes) kept) (filter (stays pivot scopes kept) kept) kept has
    ∙ (filter_all (stays pivot scopes kept) kept all ∙ sym once)))
    (λ f. ap (reduce pivot scopes) (cond-false (list_any (is_pivot pivot scopes) row) kept row f))
    (cases_Bool (list_any (is_pivot pivot scopes) row))

-- reduction reads the quantifiers of the row's variables and the order of their scopes
pub reduce_reads : (pivot : Quant) (old new : List Scope) (row : Row)
    → ((l : Literal) → Contains row l → quantifier_of old l.variable ≡ quantifier_of new l.variable)
    → ((l m : Literal) → Contains row l → Contains row m → nat_lt (depth_of old l.variable) (depth_of old m.variable) ≡
    nat_lt (depth_of new l.variable) (depth_of new m.variable)) → reduce pivot old row ≡ reduce pivot new row
reduce_reads pivot old new row quantifiers levels =
    let same_pivot : (l : Literal) → Contains row l → is_pivot pivot old l ≡ is_pivot pivot new l =
    λ l i. ap (λ q. is_of q pivot) (quantifiers l i) in
    let same_blocked : (l : Literal) → Contains row l → is_blocked pivot old row l ≡ is_blocked pivot new row l = λ l i.
    any_same (λ (p : Literal). is_pivot pivot old p && nat_lt (depth_of old l.variable) (depth_of old p.variable))
    (λ (p : Literal). is_pivot pivot new p && nat_lt (depth_of new l.variable) (depth_of new p.variable)) row
    (λ p j. ap₂ (λ a b. a && b) (same_pivot p j) (levels l p i j)) in
    let same_filter : filter (stays pivot old row) row ≡ filter (stays pivot new row) row =
    filter_same (stays pivot old row) (stays pivot new row) row
    (λ l i. ap₂ (λ a b. a || b) (same_pivot l i) (same_blocked l i)) in
    let same_any : list_any (is_pivot pivot old) row ≡ list_any (is_pivot pivot new) row = any_same (is_pivot pivot old)
    (is_pivot pivot new) row same_pivot in
    ap₂ (λ b kept. cond b kept row) same_any same_filter
