-- Variables that a prefix takes.
use Rattle.std.proofs.Common.{◌≡◌, ℕ, zero, suc, ◌+◌, ◌<◌, ◌≤◌, Bool, true, false, ◌||◌, List, [], ◌∷◌, ◌++◌, length, map, take, get_or, None, Some, refl, sym, ap, subst, ◌∙◌, arith}
use Rattle.std.specs.Prelude.{◌==◌, nat_lt, if◌then◌else◌}
use Rattle.std.specs.Option.{option_map}
use Rattle.std.specs.List.Sorted.{IsPermutation}
use Rattle.std.proofs.lemmas.List.Sorted.{length_permutation}
use Rattle.std.proofs.lemmas.List.{append-nil}
use Rattle.std.proofs.lemmas.Bool.{ne_eqb, eqb-true, eqb-false, eq-eqb, or_left, or_right, or_parts}
use Rattle.std.proofs.lemmas.Bool.Decides.{nat_tests}
use Rattle.prefix.specs.declared.quant.Quant.TheVariants.{Exists}
use Rattle.prefix.specs.Scopes.{Scope, is_among, AreDistinct, IsAscending, level_of}
use Rattle.prefix.proofs.ScopeLemmas.{is_among-append}
use Rattle.qdimacs.specs.Formula.{QuantSet, same_quant, declared, in_order}
use Rattle.clauses.specs.Clause.{put, ascending}
use Rattle.qdimacs.specs.Kept.{put_front, sets_of, AreNew, AreScopes}
use Rattle.qdimacs.specs.declared.sets.Row.{Row}
use Rattle.clauses.proofs.Ascending.{true_is_not, below_all, all_from, ascending_is, ascending_among, ascending_same, permuted_among, ascending_short}

-- the two parts of distinct numbers
pub distinct_parts : (xs ys : List ℕ) → AreDistinct (xs ++ ys) → AreDistinct xs × AreDistinct ys
distinct_parts [] ys d = (tt, d)
distinct_parts (x ∷ xs) ys d =
    let parts : (is_among x xs ≡ false) × (is_among x ys ≡ false) = or_parts (is_among x xs) (is_among x ys)
    (sym (is_among-append x xs ys) ∙ d.0) in
    let rest : AreDistinct xs × AreDistinct ys = distinct_parts xs ys d.1 in
    ((parts.0, rest.0), rest.1)

-- a number of the second part isn't in the first
pub distinct_apart : (xs ys : List ℕ) (v : ℕ) → AreDistinct (xs ++ ys) → is_among v ys ≡ true → is_among v xs ≡ false
distinct_apart [] ys v d h = refl
distinct_apart (x ∷ xs) ys v d h =
    let out : is_among x ys ≡ false = (or_parts (is_among x xs) (is_among x ys) (sym (is_among-append x xs ys) ∙ d.0)).1
    in
    let other : (x == v) ≡ false = ne_eqb x v (λ e. true_is_not (sym h ∙ ap (λ z. is_among z ys) (sym e) ∙ out)) in
    ap (λ b. b || is_among v xs) other ∙ distinct_apart xs ys v d.1 h

-- distinct numbers behind others
pub distinct_append : (xs ys : List ℕ) → AreDistinct xs → AreDistinct ys
    → ((v : ℕ) → is_among v xs ≡ true → is_among v ys ≡ false) → AreDistinct (xs ++ ys)
distinct_append [] ys a b f = b
distinct_append (x ∷ xs) ys a b f = (
  is_among-append x xs ys ∙ ap (λ t. t || is_among x ys) a.0 ∙ f x (or_left (x == x) (is_among x xs) (eq-eqb x x refl)),
  distinct_append xs ys a.1 b (λ v h. f v (or_right (x == v) (is_among v xs) h)),
)

-- how long the ascending list is

put_new : (n : ℕ) (ms : List ℕ) → is_among n ms ≡ false → length (put n ms) ≡ suc (length ms)
put_new n [] h = refl
put_new n (m ∷ ms) h = by (nat_lt n m) (n == m) refl (put_new n ms (or_parts (m == n) (is_among n ms) h).1)
  where
    by : (a b : Bool) → (n == m) ≡ b → length (put n ms) ≡ suc (length ms)
        → length (if a then n ∷ m ∷ ms else if b then m ∷ ms else m ∷ put n ms) ≡ suc (suc (length ms))
    by true b e r = refl
    by false true e r = true_is_not (sym (eq-eqb m n (sym (eqb-true n m e))) ∙ (or_parts (m == n) (is_among n ms) h).0)
    by false false e r = ap suc r

put_old : (n : ℕ) (ms : List ℕ) → IsAscending ms → is_among n ms ≡ true → length (put n ms) ≡ length ms
put_old n [] a h = true_is_not (sym h)
put_old n (m ∷ ms) a h = by (nat_lt n m) (n == m) refl refl (put_old n ms a.1)
  where
    by : (b c : Bool) → nat_lt n m ≡ b → (n == m) ≡ c → (is_among n ms ≡ true → length (put n ms) ≡ length ms)
        → length (if b then n ∷ m ∷ ms else if c then m ∷ ms else m ∷ put n ms) ≡ suc (length ms)
    by true c e f r =
        let low : n < m = grind (arith, nat_tests, e) in
        true_is_not
        (sym h ∙ below_all n (m ∷ ms) (
          low,
          all_from (λ z. m < z) (λ z. n < z) ms (λ z g. omega (arith, g, low))
              a.0,
        ))
    by false true e f r = refl
    by false false e f r =
        ap suc (r (sym (ap (λ t. t || is_among n ms) (ne_eqb m n (λ q. eqb-false n m f (sym q)))) ∙ h))

distinct_long : (xs : List ℕ) → AreDistinct xs → length (ascending xs) ≡ length xs
distinct_long [] d = refl
distinct_long (x ∷ xs) d = put_new x (ascending xs) (ascending_among x xs ∙ d.0) ∙ ap suc (distinct_long xs d.1)

long_distinct : (xs : List ℕ) → length (ascending xs) ≡ length xs → AreDistinct xs
long_distinct [] e = tt
long_distinct (x ∷ xs) e = by (is_among x xs) refl (long_distinct xs)
  where
    by : (b : Bool) → is_among x xs ≡ b → (length (ascending xs) ≡ length xs → AreDistinct xs) → AreDistinct (x ∷ xs)
    by true f r =
        absurd (omega (
          arith,
          e,
          put_old x (ascending xs) (ascending_is xs) (ascending_among x xs ∙ f),
          ascending_short xs,
        ))
    by false f r = (f, r (omega (arith, e, put_new x (ascending xs) (ascending_among x xs ∙ f))))

-- distinct numbers in another order
pub permuted_distinct : (xs ys : List ℕ) → IsPermutation xs ys → AreDistinct xs → AreDistinct ys
permuted_distinct xs ys p d = long_distinct ys (ap length (ascending_same ys xs (λ v. sym (permuted_among v xs ys p)))
    ∙ distinct_long xs d ∙ sym (length_permutation xs ys p))

-- the variables of one of the sets are new to the scopes of those in front of it
pub set_new : (sets : List QuantSet) (i : ℕ) (d : QuantSet) → i < length sets → AreDistinct (declared sets)
    → AreDistinct (get_or sets i d).1
    × ((v : ℕ) → is_among v (get_or sets i d).1 ≡ true → (level_of (take i (map in_order sets)) v ≡ None)
    × (is_among v (declared sets) ≡ true))
set_new [] i d low h = absurd (omega arith)
set_new (s ∷ ss) zero d low h = (
  (distinct_parts s.1 (declared ss) h).0,
  λ v e. (refl, is_among-append v s.1 (declared ss) ∙ or_left (is_among v s.1) (is_among v (declared ss)) e),
)
set_new (s ∷ ss) (suc i) d low h =
    let rest = set_new ss i d (omega arith) (distinct_parts s.1 (declared ss) h).1 in (
      rest.0,
      λ v e.
          let both = rest.1 v e in (
            ap (λ b. if b then Some 1 else option_map (λ n. n + 1) (level_of (take i (map in_order ss)) v))
                (ascending_among v s.1 ∙ distinct_apart s.1 (declared ss) v h both.1) ∙ ap (option_map (λ n. n + 1))
                both.0,
            is_among-append v s.1 (declared ss) ∙ or_right (is_among v s.1) (is_among v (declared ss)) both.1,
          ),
    )

-- free variables in front
pub front_fits : (free : List ℕ) (scopes : List QuantSet) → AreDistinct free
    → ((v : ℕ) → is_among v free ≡ true → (1 ≤ v) × (v ≤ 1048576) × (is_among v (declared scopes) ≡ false))
    → AreDistinct (declared scopes) → ((v : ℕ) → is_among v (declared scopes) ≡ true → (1 ≤ v) × (v ≤ 1048576))
    → AreDistinct (declared (put_front free scopes)) × ((v : ℕ) → is_among v (declared (put_front free scopes)) ≡ true
    → (1 ≤ v) × (v ≤ 1048576))
front_fits [] scopes a f b g = (b, g)
front_fits (u ∷ us) [] a f b g = rw (append-nil us) (a, λ v h. let k = f v h in (k.0, k.1))
front_fits (u ∷ us) (x ∷ rest) a f b g = by (same_quant x.0 Exists)
  where
    in_front : AreDistinct ((u ∷ us) ++ (x.1 ++ declared rest))
        × ((v : ℕ) → is_among v ((u ∷ us) ++ (x.1 ++ declared rest)) ≡ true → (1 ≤ v) × (v ≤ 1048576))
    in_front = (
      distinct_append (u ∷ us) (x.1 ++ declared rest) a b (λ v h. (f v h).2),
      λ v h. of_both (is_among v (u ∷ us)) v refl (sym (is_among-append v (u ∷ us) (x.1 ++ declared rest)) ∙ h),
    )
      where
        of_both : (t : Bool) (v : ℕ) → is_among v (u ∷ us) ≡ t
            → (is_among v (u ∷ us) || is_among v (x.1 ++ declared rest)) ≡ true → (1 ≤ v) × (v ≤ 1048576)
        of_both true v e h = let k = f v e in (k.0, k.1)
        of_both false v e h = g v (sym (ap (λ t. t || is_among v (x.1 ++ declared rest)) e) ∙ h)

    old_apart : (v : ℕ) → is_among v x.1 ≡ true → is_among v (u ∷ us) ≡ false
    old_apart v h = by_case (is_among v (u ∷ us)) refl
      where
        by_case : (t : Bool) → is_among v (u ∷ us) ≡ t → is_among v (u ∷ us) ≡ false
        by_case true e =
            true_is_not
            (sym (is_among-append v x.1 (declared rest) ∙ or_left (is_among v x.1) (is_among v (declared rest)) h)
            ∙ (f v e).2)
        by_case false e = e

    rest_apart : (v : ℕ) → is_among v (x.1 ++ u ∷ us) ≡ true → is_among v (declared rest) ≡ false
    rest_apart v h = by_case (is_among v (declared rest)) (is_among v (u ∷ us)) refl refl
      where
        by_case : (s t : Bool) → is_among v (declared rest) ≡ s → is_among v (u ∷ us) ≡ t
            → is_among v (declared rest) ≡ false
        by_case false t e i = e
        by_case true true e i =
            true_is_not
            (sym (is_among-append v x.1 (declared rest) ∙ or_right (is_among v x.1) (is_among v (declared rest)) e)
            ∙ (f v i).2)
        by_case true false e i =
            true_is_not (sym h ∙ is_among-append v x.1 (u ∷ us) ∙ ap (λ t. t || is_among v (u ∷ us))
            (distinct_apart x.1 (declared rest) v b e) ∙ i)

    joined : AreDistinct ((x.1 ++ u ∷ us) ++ declared rest)
        × ((v : ℕ) → is_among v ((x.1 ++ u ∷ us) ++ declared rest) ≡ true → (1 ≤ v) × (v ≤ 1048576))
    joined =
        let parts : AreDistinct x.1 × AreDistinct (declared rest) = distinct_parts x.1 (declared rest) b in (
          distinct_append (x.1 ++ u ∷ us) (declared rest) (distinct_append x.1 (u ∷ us) parts.0 a old_apart) parts.1
              rest_apart,
          λ v h. of_three (is_among v x.1) (is_among v (u ∷ us)) v refl refl
              (sym (is_among-append v (x.1 ++ u ∷ us) (declared rest) ∙ ap (λ t. t || is_among v (declared rest))
              (is_among-append v x.1 (u ∷ us))) ∙ h),
        )
      where
        of_three : (s t : Bool) (v : ℕ) → is_among v x.1 ≡ s → is_among v (u ∷ us) ≡ t
            → ((is_among v x.1 || is_among v (u ∷ us)) || is_among v (declared rest)) ≡ true → (1 ≤ v) × (v ≤ 1048576)
        of_three s true v e i h = let k = f v i in (k.0, k.1)
        of_three true false v e i h =
            g v (is_among-append v x.1 (declared rest) ∙ or_left (is_among v x.1) (is_among v (declared rest)) e)
        of_three false false v e i h =
            g v (is_among-append v x.1 (declared rest) ∙ or_right (is_among v x.1) (is_among v (declared rest))
            (sym (ap (λ t. (t || is_among v (u ∷ us)) || is_among v (declared rest)) e
            ∙ ap (λ t. t || is_among v (declared rest)) i) ∙ h))

    by : (s : Bool) → AreDistinct (declared (if s then (x.0, x.1 ++ u ∷ us) ∷ rest else (Exists, u ∷ us) ∷ x ∷ rest))
        × ((v : ℕ) → is_among v (declared (if s then (x.0, x.1 ++ u ∷ us) ∷ rest else (Exists, u ∷ us) ∷ x ∷ rest)) ≡
        true → (1 ≤ v) × (v ≤ 1048576))
    by true = joined
    by false = in_front

set_at : (rows : List Row) (i : ℕ) (d : Row) → i < length rows → get_or (sets_of rows) i (d.quant, d.vars.items) ≡
    ((get_or rows i d).quant, (get_or rows i d).vars.items)
set_at [] i d low = absurd (omega arith)
set_at (r ∷ rs) zero d low = refl
set_at (r ∷ rs) (suc i) d low = set_at rs i d (omega arith)

sets_length : (rows : List Row) → length (sets_of rows) ≡ length rows
sets_length [] = refl
sets_length (r ∷ rs) = ap suc (sets_length rs)

-- the sorted variables of the next row are new to the scopes so far
pub row_new : (rows now : List Row) (i : ℕ) (row : Row) (vs : List ℕ) (prefix : List Scope) → AreScopes (sets_of rows)
    → i < length rows → row ≡ get_or now i row → get_or now i row ≡ get_or rows i row
    → prefix ≡ take i (map in_order (sets_of rows)) → IsPermutation row.vars.items vs → AreNew prefix vs
row_new rows now i row vs prefix fit low is same built p =
    let d : QuantSet = (row.quant, row.vars.items) in
    let old : (get_or (sets_of rows) i d).1 ≡ row.vars.items = ap (λ s. s.1) (set_at rows i row low)
    ∙ ap (λ r. r.vars.items) (sym same ∙ sym is) in
    let new = set_new (sets_of rows) i d (omega (arith, low, sets_length rows)) fit.distinct in
    let fresh : AreDistinct row.vars.items = subst AreDistinct old new.0 in
    record {
      distinct = permuted_distinct row.vars.items vs p fresh;
      each = λ v h.
          let both = new.1 v (ap (is_among v) old ∙ permuted_among v row.vars.items vs p ∙ h) in
          let range = fit.each v both.1 in
          (range.0, range.1, ap (λ ss. level_of ss v) built ∙ both.0);
    }
