-- The end of the walk that makes a resolvent, the room for it, and that a resolvent ascends.
use Rattle.std.proofs.Common.{◌≡◌, ℕ, ◌+◌, ◌-◌, ◌≤◌, ◌⊎◌, Bool, [], ◌∷◌, ◌++◌, length, drop, take, filter, sym, refl, ap, ◌∙◌, ⊎_elim, arith}
use Rattle.std.proofs.lemmas.Bool.{cond_both}
use Rattle.std.proofs.lemmas.List.{drop_all, append-nil, length-append, length-drop, take_rest}
use Rattle.std.proofs.lemmas.List.Filters.{length-filter_both}
use Rattle.std.proofs.lemmas.List.Kept.{AllPairs-filter}
use Rattle.prefix.specs.Literal.{Literal}
use Rattle.prefix.specs.Scopes.{Scope, IsAscending}
use Rattle.prefix.specs.declared.quant.Quant.{Quant}
use Rattle.calculus.specs.Rows.{Row, variables_in, merge, without, resolve, reduce, stays, is_pivot}
use Rattle.calculus.proofs.Ascending.{Below, pairs_from, pairs_to}
use Rattle.std.specs.List.{list_any}
use Rattle.std.proofs.Common.{List, not, true, false, nat_eq}
use Rattle.std.proofs.lemmas.Bool.{eq-eqb}
use Rattle.calculus.specs.Rows.{clashes}
use Rattle.calculus.proofs.Merging.{merge_ascending}
use Rattle.calculus.proofs.RowLaws.{no_clash}
use Rattle.calculus.proofs.Lists.{filter_at}

merge_nil : (a : Row) → merge a [] ≡ a
merge_nil [] = refl
merge_nil (l ∷ ls) = ap (λ r. l ∷ r) (merge_nil ls)

pub turn_end : (out a b : Row) (i j x : ℕ) → (length a ≤ i) ⊎ (length b ≤ j) → (out ++ without x (drop i a)) ++ without
    x (drop j b) ≡ out ++ resolve (drop i a) (drop j b) x
turn_end out a b i j x ends =
    ⊎_elim (λ e. rw (drop_all i a e) (ap (λ o. o ++ without x (drop j b)) (append-nil out)))
    (λ e. rw (drop_all j b e) (append-nil (out ++ without x (drop i a)) ∙ ap (λ r. out ++ r)
    (sym (merge_nil (without x (drop i a))))))
    ends

-- a row without a variable is no longer
without_shorter : (x : ℕ) (row : Row) → length (without x row) ≤ length row
without_shorter x row =
    let both : length (filter (λ l. not (nat_eq l.variable x)) row) + length (filter
    (λ l. not (not (nat_eq l.variable x))) row) ≡ length row =
    length-filter_both (λ (l : Literal). not (nat_eq l.variable x)) (λ l. not (not (nat_eq l.variable x)))
    (λ l. refl) row in
    omega (arith, both)

-- behind the rest of one row there is room for that of the other
pub room_rest : (new out a b : Row) (i j x capacity : ℕ)
    → length out + ((length a - i) + (length b - j)) ≤ capacity
    → new ≡ out ++ without x (take (length a - i) (drop i a))
    → length new + length (take (length b - j) (drop j b)) ≤ capacity
room_rest new out a b i j x capacity room pushed =
    let rest : length (take (length a - i) (drop i a)) ≡ length a - i =
    ap length (take_rest a i) ∙ length-drop i a in
    let other : length (take (length b - j) (drop j b)) ≡ length b - j =
    ap length (take_rest b j) ∙ length-drop j b in
    let long : length new ≡ length out + length (without x (take (length a - i) (drop i a))) =
    ap length pushed ∙ length-append out (without x (take (length a - i) (drop i a))) in
    let less : length (without x (take (length a - i) (drop i a))) ≤ length (take (length a - i) (drop i a)) =
    without_shorter x (take (length a - i) (drop i a)) in
    omega arith

pub filter_ascending : (p : Literal → Bool) (row : Row) → IsAscending (variables_in row)
    → IsAscending (variables_in (filter p row))
filter_ascending p row up = pairs_to (filter p row) (AllPairs-filter Below p row (pairs_from row up))

pub reduce_ascending : (pivot : Quant) (scopes : List Scope) (row : Row) → IsAscending (variables_in row)
    → IsAscending (variables_in (reduce pivot scopes row))
reduce_ascending pivot scopes row up =
    cond_both (list_any (is_pivot pivot scopes) row) (filter (stays pivot scopes row) row) row
    (λ r. IsAscending (variables_in r)) (λ t. filter_ascending (stays pivot scopes row) row up) (λ f. up)

pub resolve_ascending : (a b : Row) (x : ℕ) → IsAscending (variables_in a) → IsAscending (variables_in b)
    → clashes a b x ≡ false → IsAscending (variables_in (resolve a b x))
resolve_ascending a b x up_a up_b none =
    pairs_to (resolve a b x)
    (merge_ascending (without x a) (without x b)
    (AllPairs-filter Below (λ l. not (nat_eq l.variable x)) a (pairs_from a up_a))
    (AllPairs-filter Below (λ l. not (nat_eq l.variable x)) b (pairs_from b up_b))
    (λ l m i j e.
    let p = filter_at (λ (k : Literal). not (nat_eq k.variable x)) a l i in
    let q = filter_at (λ (k : Literal). not (nat_eq k.variable x)) b m j in
    sym (no_clash a b x none l m p.0 q.0 (λ same. let f : nat_eq l.variable x ≡ true = eq-eqb l.variable x same in
    let g : not true ≡ true = ap not (sym f) ∙ p.1 in cc) e)))
