-- Scopes under an insertion of a variable or a scope.
use Rattle.std.proofs.Common.{◌≡◌, ℕ, zero, suc, ◌+◌, ◌<◌, ◌≤◌, Bool, true, false, cond, List, [], ◌∷◌, ◌++◌, length, map, get_or, set, Option, Some, None, refl, sym, ap, subst, ⊎_elim, ◌∙◌, arith, length-append}
use Rattle.std.specs.Prelude.{◌==◌, ◌||◌, insert, nat_lt, IfSome}
use Rattle.std.specs.Option.{option_map}
use Rattle.std.specs.List.{AllByRecursion}
use Rattle.std.specs.Ordering.{nat_cmp, match_ordering}
use Rattle.std.specs.BTreeSet.{insert_key}
use Rattle.std.proofs.lemmas.Bool.{or_parts, or_from, cond-true, cond-false, lt-ltb, le-ltb, cases_lt}
use Rattle.std.proofs.lemmas.Bool.Decides.{nat_tests}
use Rattle.prefix.specs.declared.quant.Quant.{Quant}
use Rattle.prefix.specs.Scopes.{Scope, is_among, level_of, all_variables, IsAscending, AreDistinct, insert_ascending, with_variable_at}
use Rattle.prefix.specs.Insertion.{lifted}

cond_is_true : {A : Type 0} (b : Bool) (x y : A) → b ≡ true → x ≡ cond b x y
cond_is_true b x y h = sym (cond-true b x y h)

cond_is_false : {A : Type 0} (b : Bool) (x y : A) → b ≡ false → y ≡ cond b x y
cond_is_false b x y h = sym (cond-false b x y h)

pub is_among-insert_ascending : (w v : ℕ) (xs : List ℕ) → is_among w (insert_ascending v xs) ≡ (v == w || is_among w xs)
is_among-insert_ascending w v [] = refl
is_among-insert_ascending w v (x ∷ xs) = grind (arith, nat_tests, is_among-insert_ascending w v xs)

pub length-insert_ascending : (v : ℕ) (xs : List ℕ) → length (insert_ascending v xs) ≡ length xs + 1
length-insert_ascending v [] = refl
length-insert_ascending v (x ∷ xs) = grind (arith, nat_tests, length-insert_ascending v xs)

pub all-insert_ascending : (P : ℕ → Type 0) (v : ℕ) (xs : List ℕ) → P v → AllByRecursion P xs → AllByRecursion P
    (insert_ascending v xs)
all-insert_ascending P v [] p h = (p, tt)
all-insert_ascending P v (x ∷ xs) p h =
    elim (nat_lt v x) as (λ b. AllByRecursion P (cond b (v ∷ x ∷ xs) (x ∷ insert_ascending v xs))) [
      | true ↦
          (p, h)
      | false ↦ (h.0, all-insert_ascending P v xs p h.1)
    ]

-- each scope's number is at least 1
pub level_positive : (ss : List Scope) (v : ℕ) → IfSome (level_of ss v) (λ n. 1 ≤ n)
level_positive [] v = tt
level_positive (s ∷ ss) v =
    elim (is_among v s.variables) as (λ b. IfSome (cond b (Some 1) (option_map (λ n. n + 1) (level_of ss v)))
    (λ n. 1 ≤ n)) [
      | true ↦ omega arith
      | false ↦
          elim (level_of ss v) as (λ o. IfSome (option_map (λ n. n + 1) o) (λ n. 1 ≤ n)) [
            | None ↦ tt
            | Some n ↦
                omega arith
          ]
    ]

lift_first : (o : Option ℕ) → IfSome o (λ n. 1 ≤ n) → option_map (λ n. n + 1) o ≡ option_map (lifted 1) o
lift_first None h = refl
lift_first (Some n) h = grind (arith, nat_tests)

lift_later : (b : Bool) (i : ℕ) (o p : Option ℕ) → p ≡ option_map (lifted (i + 1)) o
    → cond b (Some 1) (option_map (λ n. n + 1) p) ≡ option_map (lifted (suc i + 1))
    (cond b (Some 1) (option_map (λ n. n + 1) o))
lift_later true i o p h = grind (arith, nat_tests)
lift_later false i None p h = rw h refl
lift_later false i (Some n) p h = rw h (grind (arith, nat_tests))

pub level-insert : (ss : List Scope) (i : ℕ) (q : Quant) (v : ℕ) → i ≤ length ss
    → level_of (insert ss i (record { quantifier = q; variables = [] })) v ≡ option_map (lifted (i + 1)) (level_of ss v)
level-insert ss zero q v h = lift_first (level_of ss v) (level_positive ss v)
level-insert [] (suc i) q v h = absurd (omega arith)
level-insert (s ∷ ss) (suc i) q v h = lift_later (is_among v s.variables) i (level_of ss v) _
    (level-insert ss i q v (omega arith))

none_parts : (b : Bool) (o : Option ℕ) → cond b (Some 1) (option_map (λ n. n + 1) o) ≡ None → (b ≡ false) × (o ≡ None)
none_parts true o h = cc
none_parts false None h = (refl, refl)
none_parts false (Some n) h = cc

-- a variable that is in no scope is not in the first and in none of the others
pub level_none_parts : (s : Scope) (ss : List Scope) (v : ℕ) → level_of (s ∷ ss) v ≡ None
    → (is_among v s.variables ≡ false) × (level_of ss v ≡ None)
level_none_parts s ss v h = none_parts (is_among v s.variables) (level_of ss v) h

level_here : (w v : ℕ) (b : Bool) (o : Option ℕ) → cond (v == w || b) (Some 1) o ≡ cond (w == v) (Some 1)
    (cond b (Some 1) o)
level_here w v b o = grind (arith, nat_tests)

level_later : (w v n : ℕ) (xs : List ℕ) (o : Option ℕ) → is_among v xs ≡ false → cond (is_among w xs) (Some 1)
    (option_map (λ m. m + 1) (cond (w == v) (Some (n + 1)) o)) ≡ cond (w == v) (Some (suc n + 1))
    (cond (is_among w xs) (Some 1) (option_map (λ m. m + 1) o))
level_later w v n xs o h = grind (arith, nat_tests)

pub level-with_variable_at : (ss : List Scope) (n v w : ℕ) → n < length ss → level_of ss v ≡ None
    → level_of (with_variable_at ss n v) w ≡ cond (w == v) (Some (n + 1)) (level_of ss w)
level-with_variable_at [] n v w h k = absurd (omega arith)
level-with_variable_at (s ∷ ss) zero v w h k = rw is_among-insert_ascending
    (level_here w v (is_among w s.variables) (option_map (λ n. n + 1) (level_of ss w)))
level-with_variable_at (s ∷ ss) (suc n) v w h k =
    let parts = level_none_parts s ss v k in
    rw (level-with_variable_at ss n v w (omega arith) parts.1) (level_later w v n s.variables (level_of ss w) parts.0)

pub is_among-append : (w : ℕ) (xs ys : List ℕ) → is_among w (xs ++ ys) ≡ (is_among w xs || is_among w ys)
is_among-append w [] ys = refl
is_among-append w (x ∷ xs) ys = grind (arith, is_among-append w xs ys)

pub all_variables-insert : (ss : List Scope) (i : ℕ) (q : Quant) → i ≤ length ss
    → all_variables (insert ss i (record { quantifier = q; variables = [] })) ≡ all_variables ss
all_variables-insert ss zero q h = refl
all_variables-insert [] (suc i) q h = absurd (omega arith)
all_variables-insert (s ∷ ss) (suc i) q h = ap (λ vs. s.variables ++ vs) (all_variables-insert ss i q (omega arith))

pub length-all_variables-with : (ss : List Scope) (n v : ℕ) → n < length ss
    → length (all_variables (with_variable_at ss n v)) ≡ length (all_variables ss) + 1
length-all_variables-with [] n v h = absurd (omega arith)
length-all_variables-with (s ∷ ss) zero v h = simp (length-append, length-insert_ascending) (omega arith)
length-all_variables-with (s ∷ ss) (suc n) v h = simp length-append
    (omega (arith, length-all_variables-with ss n v (omega arith)))

or_moved : (a b c : Bool) → (b || (a || c)) ≡ (a || (b || c))
or_moved true true c = refl
or_moved true false c = refl
or_moved false b c = refl

-- a variable that is in no scope is in none of the lists
pub level_none : (ss : List Scope) (v : ℕ) → level_of ss v ≡ None → is_among v (all_variables ss) ≡ false
level_none [] v h = refl
level_none (s ∷ ss) v h =
    let parts = level_none_parts s ss v h in
    is_among-append v s.variables (all_variables ss) ∙ or_from _ _ parts.0 (level_none ss v parts.1)

pub is_among-all_variables-with : (ss : List Scope) (n v w : ℕ) → n < length ss
    → is_among w (all_variables (with_variable_at ss n v)) ≡ (v == w || is_among w (all_variables ss))
is_among-all_variables-with [] n v w h = absurd (omega arith)
is_among-all_variables-with (s ∷ ss) zero v w h = rw (is_among-append, is_among-insert_ascending, is_among-append)
    (grind arith)
is_among-all_variables-with (s ∷ ss) (suc n) v w h =
    is_among-append w s.variables (all_variables (with_variable_at ss n v)) ∙ ap (λ b. is_among w s.variables || b)
    (is_among-all_variables-with ss n v w (omega arith)) ∙ or_moved (v == w) (is_among w s.variables)
    (is_among w (all_variables ss)) ∙ ap (λ b. v == w || b) (sym (is_among-append w s.variables (all_variables ss)))

apart_by : (x v : ℕ) (b c : Bool) → (x == v) ≡ false → (b || c) ≡ false → ((v == x || b) || c) ≡ false
apart_by x v b c h k = grind (arith, nat_tests)

-- distinct with one more in the first part
distinct_first : (v : ℕ) (xs ys : List ℕ) → AreDistinct (xs ++ ys) → is_among v (xs ++ ys) ≡ false
    → AreDistinct (insert_ascending v xs ++ ys)
distinct_first v [] ys d h = (h, d)
distinct_first v (x ∷ xs) ys d h =
    elim (nat_lt v x) as (λ b. AreDistinct (cond b (v ∷ x ∷ xs) (x ∷ insert_ascending v xs) ++ ys)) [
      | true ↦ (h, d)
      | false ↦ (apart, distinct_first v xs ys d.1 (or_parts _ _ h).1)
    ]
  where
    apart : is_among x (insert_ascending v xs ++ ys) ≡ false
    apart = rw (is_among-append, is_among-insert_ascending)
        (apart_by x v (is_among x xs) (is_among x ys) (or_parts _ _ h).0 (sym (is_among-append x xs ys) ∙ d.0))

rest_by : (x v : ℕ) (b c : Bool) → (x == v) ≡ false → (b || c) ≡ false → (b || (v == x || c)) ≡ false
rest_by x v b c h k = grind (arith, nat_tests)

-- distinct with one more in the second part
distinct_second : (v : ℕ) (xs ys zs : List ℕ) → AreDistinct (xs ++ ys) → AreDistinct zs
    → ((w : ℕ) → is_among w zs ≡ (v == w || is_among w ys)) → is_among v xs ≡ false → AreDistinct (xs ++ zs)
distinct_second v [] ys zs d e h k = e
distinct_second v (x ∷ xs) ys zs d e h k =
    (is_among-append x xs zs ∙ rest, distinct_second v xs ys zs d.1 e h (or_parts _ _ k).1)
  where
    rest : (is_among x xs || is_among x zs) ≡ false
    rest = rw (h x) (rest_by x v (is_among x xs) (is_among x ys) (or_parts _ _ k).0
        (sym (is_among-append x xs ys) ∙ d.0))

distinct_rest : (xs ys : List ℕ) → AreDistinct (xs ++ ys) → AreDistinct ys
distinct_rest [] ys d = d
distinct_rest (x ∷ xs) ys d = distinct_rest xs ys d.1

pub distinct-with : (ss : List Scope) (n v : ℕ) → n < length ss → AreDistinct (all_variables ss)
    → is_among v (all_variables ss) ≡ false → AreDistinct (all_variables (with_variable_at ss n v))
distinct-with [] n v h d k = absurd (omega arith)
distinct-with (s ∷ ss) zero v h d k = distinct_first v s.variables (all_variables ss) d k
distinct-with (s ∷ ss) (suc n) v h d k =
    let parts = or_parts _ _ (sym (is_among-append v s.variables (all_variables ss)) ∙ k) in
    distinct_second v s.variables (all_variables ss) _ d
    (distinct-with ss n v (omega arith) (distinct_rest s.variables (all_variables ss) d) parts.1)
    (λ w. is_among-all_variables-with ss n v w (omega arith)) parts.0

pub map-insert : {X Y : Type 0} (f : X → Y) (xs : List X) (i : ℕ) (x : X) → map f (insert xs i x) ≡ insert (map f xs) i
    (f x)
map-insert f xs zero x = refl
map-insert f [] (suc i) x = refl
map-insert f (y ∷ ys) (suc i) x = ap (λ zs. f y ∷ zs) (map-insert f ys i x)

-- a variable put into one scope, as a write
pub set-with_variable_at : (ss : List Scope) (n v : ℕ) (d : Scope) → n < length ss
    → set ss n
    (record { quantifier = (get_or ss n d).quantifier; variables = insert_ascending v (get_or ss n d).variables }) ≡
    with_variable_at ss n v
set-with_variable_at [] n v d h = absurd (omega arith)
set-with_variable_at (s ∷ ss) zero v d h = refl
set-with_variable_at (s ∷ ss) (suc n) v d h = ap (λ zs. s ∷ zs) (set-with_variable_at ss n v d (omega arith))

-- a variable that is in no scope is not in the one at a place
pub level_none_at : (ss : List Scope) (n v : ℕ) (d : Scope) → n < length ss → level_of ss v ≡ None
    → is_among v (get_or ss n d).variables ≡ false
level_none_at [] n v d h k = absurd (omega arith)
level_none_at (s ∷ ss) zero v d h k = (level_none_parts s ss v k).0
level_none_at (s ∷ ss) (suc n) v d h k = level_none_at ss n v d (omega arith) (level_none_parts s ss v k).1

key_by : (v x : ℕ) (xs ys zs : List ℕ) → (x == v) ≡ false → ys ≡ zs
    → match_ordering (nat_cmp v x) (v ∷ x ∷ xs) (x ∷ xs) (x ∷ ys) ≡ cond (nat_lt v x) (v ∷ x ∷ xs) (x ∷ zs)
key_by v x xs ys zs e f = rw f (grind (arith, nat_tests))

-- a key that is new to a set goes where v goes in an ascending list
pub insert_key-new : (v : ℕ) (xs : List ℕ) → is_among v xs ≡ false → insert_key nat_cmp xs v ≡ insert_ascending v xs
insert_key-new v [] h = refl
insert_key-new v (x ∷ xs) h =
    let parts = or_parts (x == v) (is_among v xs) h in
    key_by v x xs (insert_key nat_cmp xs v) (insert_ascending v xs) parts.0 (insert_key-new v xs parts.1)

pub length-with_variable_at : (ss : List Scope) (n v : ℕ) → length (with_variable_at ss n v) ≡ length ss
length-with_variable_at [] n v = refl
length-with_variable_at (s ∷ ss) zero v = refl
length-with_variable_at (s ∷ ss) (suc n) v = ap suc (length-with_variable_at ss n v)

pub ascending-insert : (v : ℕ) (xs : List ℕ) → IsAscending xs → is_among v xs ≡ false
    → IsAscending (insert_ascending v xs)
ascending-insert v [] a h = (tt, tt)
ascending-insert v (x ∷ xs) a h =
    elim_lt v x (λ b. IsAscending (cond b (v ∷ x ∷ xs) (x ∷ insert_ascending v xs)))
    (λ l. ((l, all_above v x xs l a.0), a))
    (λ l. (
      all-insert_ascending (λ y. x < y) v xs (grind (arith, nat_tests)) a.0,
      ascending-insert v xs a.1
          (or_parts _ _ h).1,
    ))
  where
    elim_lt : (m n : ℕ) (P : Bool → Type 0) → (m < n → P true) → (n ≤ m → P false) → P (nat_lt m n)
    elim_lt m n P f g = ⊎_elim (λ l. subst P (sym (lt-ltb m n l)) (f l)) (λ l. subst P (sym (le-ltb m n l)) (g l))
        (cases_lt m n)

    all_above : (m n : ℕ) (ys : List ℕ) → m < n → AllByRecursion (λ y. n < y) ys → AllByRecursion (λ y. m < y) ys
    all_above m n [] l b = tt
    all_above m n (y ∷ ys) l b = (omega (arith, b.0), all_above m n ys l b.1)
