-- Scopes once a variable is taken out.
use Rattle.std.proofs.Common.{◌≡◌, ℕ, zero, suc, ◌+◌, ◌-◌, ◌<◌, ◌≤◌, Bool, true, false, not, cond, List, [], ◌∷◌, ◌++◌, length, filter, get_or, set, Option, Some, None, ◌⊎◌, inl, inr, refl, sym, ap, ⊎_elim, ◌∙◌, arith}
use Rattle.std.specs.Prelude.{◌==◌, ◌||◌, ◌&&◌, IfSome, IsSome, is_some, slice_get, count_by, unwrap_or}
use Rattle.std.specs.Option.{option_map, option_and_then}
use Rattle.std.specs.List.{AllByRecursion}
use Rattle.std.specs.Ordering.{nat_cmp}
use Rattle.std.specs.BTreeMap.{is_at}
use Rattle.std.specs.Set.{remove_key}
use Rattle.std.proofs.lemmas.Bool.{cases_Bool, cond-true, cond-false, cases_eq, eq-eqb, eqb-true, ne_eqb, or_parts, true≢false}
use Rattle.std.proofs.lemmas.Bool.Decides.{nat_tests}
use Rattle.std.proofs.lemmas.List.{length-map, length-set}
use Rattle.std.proofs.lemmas.List.Sums.{sum_by-set}
use Rattle.prefix.specs.Scopes.{Scope, is_among, level_of, all_variables, quantifier_at, IsAscending, AreDistinct, without_variable}
use Rattle.prefix.specs.Insertion.{KeepsOrder}
use Rattle.prefix.specs.Table.{IsTable, kept_for}
use Rattle.prefix.proofs.ScopeLemmas.{is_among-append, level_positive}
use Rattle.prefix.proofs.TableLemmas.{home_is}
use Rattle.prefix.specs.Blocks.{IsTakenOut}
use Rattle.prefix.specs.declared.quant.Quant.TheVariants.{Exists}

-- a list without a variable
abbrev pub rest : ℕ → List ℕ → List ℕ
rest v xs = filter (λ x. not (x == v)) xs

module _ (v x : ℕ) (xs : List ℕ) where
  rest_here : (x == v) ≡ true → rest v (x ∷ xs) ≡ rest v xs
  rest_here e = cond-false (not (x == v)) (x ∷ rest v xs) (rest v xs) (ap not e)

  rest_past : (x == v) ≡ false → rest v (x ∷ xs) ≡ x ∷ rest v xs
  rest_past e = cond-true (not (x == v)) (x ∷ rest v xs) (rest v xs) (ap not e)

among_by : (w v x : ℕ) (b c : Bool) → c ≡ (not (w == v) && b) → (x == v) ≡ true → c ≡ (not (w == v) && (x == w || b))
among_by w v x b c h e = grind (arith, nat_tests)

among_by_other : (w v x : ℕ) (b c : Bool) → c ≡ (not (w == v) && b) → (x == v) ≡ false
    → (x == w || c) ≡ (not (w == v) && (x == w || b))
among_by_other w v x b c h e = grind (arith, nat_tests)

pub among_rest : (w v : ℕ) (xs : List ℕ) → is_among w (rest v xs) ≡ (not (w == v) && is_among w xs)
among_rest w v [] = none (not (w == v))
  where
    none : (b : Bool) → false ≡ (b && false)
    none true = refl
    none false = refl
among_rest w v (x ∷ xs) =
    ⊎_elim
    (λ t. ap (is_among w) (rest_here v x xs t) ∙ among_by w v x (is_among w xs) (is_among w (rest v xs))
    (among_rest w v xs) t)
    (λ f. ap (is_among w) (rest_past v x xs f) ∙ among_by_other w v x (is_among w xs) (is_among w (rest v xs))
    (among_rest w v xs) f)
    (cases_Bool (x == v))

-- the levels of the others stay
pub level-without : (ss : List Scope) (v w : ℕ) → level_of (without_variable v ss) w ≡ cond (w == v) None
    (level_of ss w)
level-without [] v w = none (w == v)
  where
    none : (b : Bool) → ◌≡◌ {A = Option ℕ} None (cond b None None)
    none true = refl
    none false = refl
level-without (s ∷ ss) v w = rw (among_rest w v s.variables, level-without ss v w)
    (both (w == v) (is_among w s.variables) (level_of ss w))
  where
    both : (e b : Bool) (o : Option ℕ) → cond (not e && b) (Some 1) (option_map (λ n. n + 1) (cond e None o)) ≡ cond e
        None (cond b (Some 1) (option_map (λ n. n + 1) o))
    both true b o = refl
    both false b o = refl

pub rest-append : (v : ℕ) (xs ys : List ℕ) → rest v (xs ++ ys) ≡ rest v xs ++ rest v ys
rest-append v [] ys = refl
rest-append v (x ∷ xs) ys =
    ⊎_elim
    (λ t. rest_here v x (xs ++ ys) t ∙ (rest-append v xs ys ∙ ap (λ zs. zs ++ rest v ys) (sym (rest_here v x xs t))))
    (λ f. rest_past v x (xs ++ ys) f
    ∙ (ap (λ zs. x ∷ zs) (rest-append v xs ys) ∙ ap (λ zs. zs ++ rest v ys) (sym (rest_past v x xs f))))
    (cases_Bool (x == v))

pub all_variables-without : (ss : List Scope) (v : ℕ) → all_variables (without_variable v ss) ≡ rest v
    (all_variables ss)
all_variables-without [] v = refl
all_variables-without (s ∷ ss) v = ap (λ zs. rest v s.variables ++ zs) (all_variables-without ss v)
    ∙ sym (rest-append v s.variables (all_variables ss))

rest_absent : (v : ℕ) (xs : List ℕ) → is_among v xs ≡ false → rest v xs ≡ xs
rest_absent v [] h = refl
rest_absent v (x ∷ xs) h =
    let parts = or_parts (x == v) (is_among v xs) h in
    rest_past v x xs parts.0 ∙ ap (λ zs. x ∷ zs) (rest_absent v xs parts.1)

-- what is above v hasn't v
above_absent : (v x : ℕ) (xs : List ℕ) → (x == v) ≡ true → AllByRecursion (λ y. x < y) xs → is_among v xs ≡ false
above_absent v x [] e a = refl
above_absent v x (y ∷ ys) e a =
    let above : x < y = a.0 in
    let same = eqb-true x v e in
    let other : (y == v) ≡ false = ne_eqb y v (λ k. omega (arith, above, same, k)) in
    ap (λ b. b || is_among v ys) other ∙ above_absent v x ys e a.1

key_by : (v x : ℕ) (xs ys zs : List ℕ) → (x == v) ≡ false → ys ≡ zs
    → cond (is_at (nat_cmp v) x) xs (x ∷ ys) ≡ x ∷ zs
key_by v x xs ys zs e f = rw f (grind (arith, nat_tests))

key_here : (v x : ℕ) (xs ys : List ℕ) → (x == v) ≡ true → cond (is_at (nat_cmp v) x) xs ys ≡ xs
key_here v x xs ys e = grind (arith, nat_tests)

-- an ascending list has a key once
pub remove_key-ascending : (v : ℕ) (xs : List ℕ) → IsAscending xs → remove_key (is_at (nat_cmp v)) xs ≡ rest v xs
remove_key-ascending v [] a = refl
remove_key-ascending v (x ∷ xs) a =
    ⊎_elim
    (λ t. key_here v x xs _ t ∙ sym (rest_here v x xs t ∙ rest_absent v xs (above_absent v x xs t a.0)))
    (λ f. key_by v x xs _ _ f (remove_key-ascending v xs a.1) ∙ sym (rest_past v x xs f))
    (cases_Bool (x == v))

pub length_rest : (v : ℕ) (xs : List ℕ) → AreDistinct xs → is_among v xs ≡ true → length (rest v xs) + 1 ≡ length xs
length_rest v [] d h = absurd (true≢false (sym h))
length_rest v (x ∷ xs) d h =
    ⊎_elim
    (λ t.
    let absent : is_among v xs ≡ false = ap (λ n. is_among n xs) (sym (eqb-true x v t)) ∙ d.0 in
    let same : length (rest v (x ∷ xs)) ≡ length xs = ap length (rest_here v x xs t ∙ rest_absent v xs absent) in
    omega arith)
    (λ f.
    let later : is_among v xs ≡ true = later_by (x == v) (is_among v xs) f h in
    let less = length_rest v xs d.1 later in
    let same : length (rest v (x ∷ xs)) ≡ suc (length (rest v xs)) = ap length (rest_past v x xs f) in
    omega arith)
    (cases_Bool (x == v))
  where
    later_by : (a b : Bool) → a ≡ false → (a || b) ≡ true → b ≡ true
    later_by true b e h = absurd (true≢false e)
    later_by false b e h = h

all_rest : (P : ℕ → Type 0) (v : ℕ) (xs : List ℕ) → AllByRecursion P xs → AllByRecursion P (rest v xs)
all_rest P v [] a = tt
all_rest P v (x ∷ xs) a =
    ⊎_elim (λ t. rw (rest_here v x xs t) (all_rest P v xs a.1))
    (λ f. rw (rest_past v x xs f) (a.0, all_rest P v xs a.1)) (cases_Bool (x == v))

ascending_rest : (v : ℕ) (xs : List ℕ) → IsAscending xs → IsAscending (rest v xs)
ascending_rest v [] a = tt
ascending_rest v (x ∷ xs) a =
    ⊎_elim (λ t. rw (rest_here v x xs t) (ascending_rest v xs a.1))
    (λ f. rw (rest_past v x xs f) (all_rest (λ y. x < y) v xs a.0, ascending_rest v xs a.1)) (cases_Bool (x == v))

distinct_rest : (v : ℕ) (xs : List ℕ) → AreDistinct xs → AreDistinct (rest v xs)
distinct_rest v [] d = tt
distinct_rest v (x ∷ xs) d =
    ⊎_elim
    (λ t. rw (rest_here v x xs t) (distinct_rest v xs d.1))
    (λ f. rw (rest_past v x xs f) (
      among_rest x v xs ∙ (ap (λ b. not (x == v) && b) d.0 ∙ none (not (x == v))),
      distinct_rest v xs d.1,
    ))
    (cases_Bool (x == v))
  where
    none : (b : Bool) → (b && false) ≡ false
    none true = refl
    none false = refl

scopes_ascending : (v : ℕ) (ss : List Scope) → AllByRecursion (λ s. IsAscending s.variables) ss
    → AllByRecursion (λ s. IsAscending s.variables) (without_variable v ss)
scopes_ascending v [] a = tt
scopes_ascending v (s ∷ ss) a = (ascending_rest v s.variables a.0, scopes_ascending v ss a.1)

-- what stands in the first part of a distinct list stands in no other
apart : (v : ℕ) (xs ys : List ℕ) → AreDistinct (xs ++ ys) → is_among v xs ≡ true → is_among v ys ≡ false
apart v [] ys d h = absurd (true≢false (sym h))
apart v (x ∷ xs) ys d h =
    ⊎_elim
    (λ t. ap (λ n. is_among n ys) (sym (eqb-true x v t))
    ∙ (or_parts (is_among x xs) (is_among x ys) (sym (is_among-append x xs ys) ∙ d.0)).1)
    (λ f. apart v xs ys d.1 (later_by (x == v) (is_among v xs) f h))
    (cases_Bool (x == v))
  where
    later_by : (a b : Bool) → a ≡ false → (a || b) ≡ true → b ≡ true
    later_by true b e h = absurd (true≢false e)
    later_by false b e h = h

same_scope : (v : ℕ) (s : Scope) → is_among v s.variables ≡ false
    → s ≡ record { quantifier = s.quantifier; variables = rest v s.variables }
same_scope v s h = λ i. record { quantifier = s.quantifier; variables = sym (rest_absent v s.variables h) i }

pub without_absent : (v : ℕ) (ss : List Scope) → is_among v (all_variables ss) ≡ false → ss ≡ without_variable v ss
without_absent v [] h = refl
without_absent v (s ∷ ss) h =
    let parts = or_parts (is_among v s.variables) (is_among v (all_variables ss))
    (sym (is_among-append v s.variables (all_variables ss)) ∙ h) in
    cons s _ ss _ (same_scope v s parts.0) (without_absent v ss parts.1)
  where
    cons : (s t : Scope) (ss ts : List Scope) → s ≡ t → ss ≡ ts → (s ∷ ss) ≡ (t ∷ ts)
    cons s t ss ts p q = λ i. p i ∷ q i

-- a variable taken out of its scope, as a write
abbrev taken : ℕ → Scope → Scope
taken v s = record { quantifier = s.quantifier; variables = rest v s.variables }

parts_by : (b : Bool) (o : Option ℕ) (n : ℕ) → IfSome o (λ m. 1 ≤ m) → cond b (Some 1) (option_map (λ m. m + 1) o) ≡
    Some (n + 1) → ((n ≡ 0) × (b ≡ true)) ⊎ ((b ≡ false) × (o ≡ Some n) × (1 ≤ n))
parts_by true o n p h = inl (let e : Some 1 ≡ Some (n + 1) = h in let one : 1 ≡ n + 1 = cc in (omega arith, refl))
parts_by false None n p h = absurd (cc)
parts_by false (Some m) n p h = inr (let e : Some (m + 1) ≡ Some (n + 1) = h in let one : m + 1 ≡ n + 1 = cc in
    let same : m ≡ n = omega arith in (refl, ap Some same, omega (arith, p)))

pub set-without : (ss : List Scope) (n v : ℕ) (d : Scope) → AreDistinct (all_variables ss) → level_of ss v ≡ Some
    (n + 1) → set ss n (taken v (get_or ss n d)) ≡ without_variable v ss
set-without [] n v d distinct h = absurd (cc)
set-without (s ∷ ss) zero v d distinct h =
    ⊎_elim
    (λ here. ap (λ zs. taken v s ∷ zs) (without_absent v ss (apart v s.variables (all_variables ss) distinct here.1)))
    (λ later. absurd (let low = later.2 in omega arith))
    (parts_by (is_among v s.variables) (level_of ss v) 0 (level_positive ss v) h)
set-without (s ∷ ss) (suc n) v d distinct h =
    ⊎_elim
    (λ here. absurd (let zero_is = here.0 in omega arith))
    (λ later.
    let next : level_of ss v ≡ Some (n + 1) = later.1 ∙ ap Some (let e : suc n ≡ n + 1 = omega arith in e) in
    cons s _ (set ss n (taken v (get_or ss n d))) _ (same_scope v s later.0)
    (set-without ss n v d (right s.variables (all_variables ss) distinct) next))
    (parts_by (is_among v s.variables) (level_of ss v) (suc n) (level_positive ss v) h)
  where
    cons : (s t : Scope) (ss ts : List Scope) → s ≡ t → ss ≡ ts → (s ∷ ss) ≡ (t ∷ ts)
    cons s t ss ts p q = λ i. p i ∷ q i

    right : (xs ys : List ℕ) → AreDistinct (xs ++ ys) → AreDistinct ys
    right [] ys d = d
    right (x ∷ xs) ys d = right xs ys d.1

-- the homes
slice_get-set_other : {X : Type 0} (xs : List X) (i k : ℕ) (x : X) → (k ≡ i → ⊥) → slice_get (set xs i x) k ≡ slice_get
    xs k
slice_get-set_other [] i k x h = refl
slice_get-set_other (y ∷ ys) zero zero x h = absurd (h refl)
slice_get-set_other (y ∷ ys) zero (suc k) x h = refl
slice_get-set_other (y ∷ ys) (suc i) zero x h = refl
slice_get-set_other (y ∷ ys) (suc i) (suc k) x h = slice_get-set_other ys i k x (λ e. h (ap suc e))

home_cleared : (hs : List (Option ℕ)) (i : ℕ) → kept_for (set hs i None) (suc i) ≡ None
home_cleared [] i = refl
home_cleared (h ∷ hs) zero = refl
home_cleared (h ∷ hs) (suc i) = home_cleared hs i

kept_for-cleared : (hs : List (Option ℕ)) (i w : ℕ) → kept_for (set hs i None) w ≡ cond (w == suc i) None (kept_for hs
    w)
kept_for-cleared hs i zero = sym (cond-false (0 == suc i) None None (ne_eqb 0 (suc i) (λ e. cc)))
kept_for-cleared hs i (suc w) =
    ⊎_elim
    (λ (e : w ≡ i). ap (λ n. kept_for (set hs i None) (suc n)) e ∙ (home_cleared hs i ∙ sym (cond-true (suc w == suc
    i) None (kept_for hs (suc w)) (eq-eqb (suc w) (suc i) (ap suc e)))))
    (λ n. ap (λ o. unwrap_or o None) (slice_get-set_other hs i w None n) ∙ sym (cond-false (suc w == suc i) None
    (kept_for hs (suc w)) (ne_eqb (suc w) (suc i) (λ e. n (omega arith)))))
    (cases_eq w i)

count-cleared : (hs : List (Option ℕ)) (i id : ℕ) → i < length hs → kept_for hs (suc i) ≡ Some id
    → count_by is_some (set hs i None) + 1 ≡ count_by is_some hs
count-cleared hs i id h e =
    let one : cond {A = ℕ} (is_some (get_or hs i None)) 1 0 ≡ 1 = rw (sym (home_is hs i) ∙ e) refl in
    omega (arith, one, sum_by-set (λ (o : Option ℕ). cond {A = ℕ} (is_some o) 1 0) hs i None None h)

pub table_without : (ss : List Scope) (ids ns : List ℕ) (hs : List (Option ℕ)) (k i id n : ℕ) → IsTable ss ids ns hs k
    → level_of ss (suc i) ≡ Some n → kept_for hs (suc i) ≡ Some id → i < length hs → is_among (suc i) (all_variables
    ss) ≡ true → IsTable (without_variable (suc i) ss) ids ns (set hs i None) (k - 1)
table_without ss ids ns hs k i id n t level home within stands =
    record {
      found = λ w. level-without ss v w ∙ (split (w == v) (level_of ss w) (kept_for hs w) (t.found w)
          ∙ ap (option_and_then (slice_get ns)) (sym (kept_for-cleared hs i w)));
      home_in = λ w. rw (kept_for-cleared hs i w) (fits (w == v) (kept_for hs w) (t.home_in w));
      numbered = t.numbered;
      bounded = t.bounded;
      sizes = t.sizes;
      id_count = t.id_count ∙ sym (length-map ss (λ (s : Scope). taken v s));
      small = t.small;
      ascending = scopes_ascending v ss t.ascending;
      distinct = rw (all_variables-without ss v) (distinct_rest v (all_variables ss) t.distinct);
      in_range = rw (all_variables-without ss v)
          (all_rest (λ u. (1 ≤ u) × (u ≤ 1048576)) v (all_variables ss) t.in_range);
      counted = (let less = length_rest v (all_variables ss) t.distinct stands in let was = t.counted in let same :
          length (all_variables (without_variable v ss)) ≡ length (rest v (all_variables ss)) =
          ap length (all_variables-without ss v) in omega arith);
      homes_counted = (let less = count-cleared hs i id within home in let was = t.homes_counted in omega arith);
      homes_small = rw length-set t.homes_small;
    }
  where
    v : ℕ
    v = suc i

    split : (b : Bool) (o h : Option ℕ) → o ≡ option_and_then (slice_get ns) h → cond b None o ≡ option_and_then
        (slice_get ns) (cond b None h)
    split true o h e = refl
    split false o h e = e

    fits : (b : Bool) (h : Option ℕ) → IfSome h (λ j. j < length ns) → IfSome (cond b None h) (λ j. j < length ns)
    fits true h e = tt
    fits false h e = e

-- what it keeps
level_left : (ss : List Scope) (v w : ℕ) → IsSome (level_of (without_variable v ss) w)
    → level_of (without_variable v ss) w ≡ level_of ss w
level_left ss v w h =
    ⊎_elim
    (λ t. absurd
    (not_there (level_of (without_variable v ss) w)
    (level-without ss v w ∙ cond-true (w == v) None (level_of ss w) t) h))
    (λ f. level-without ss v w ∙ cond-false (w == v) None (level_of ss w) f)
    (cases_Bool (w == v))
  where
    not_there : (o : Option ℕ) → o ≡ None → IsSome o → ⊥
    not_there None p q = cc
    not_there (Some n) p q = cc

quantifier_get : (ss : List Scope) (v k : ℕ) → option_map (λ (s : Scope). s.quantifier)
    (slice_get (without_variable v ss) k) ≡ option_map (λ (s : Scope). s.quantifier) (slice_get ss k)
quantifier_get [] v k = refl
quantifier_get (s ∷ ss) v zero = refl
quantifier_get (s ∷ ss) v (suc k) = quantifier_get ss v k

pub quantifier-without : (ss : List Scope) (v m : ℕ) → quantifier_at (without_variable v ss) m ≡ quantifier_at ss m
quantifier-without ss v m = ap (cond (m == 0) None) (quantifier_get ss v (m - 1))

pub removal_keeps_order : (ss : List Scope) (v : ℕ) → KeepsOrder (without_variable v ss) ss
removal_keeps_order ss v =
    record {
      order = λ u w k l. rw (level_left ss v u k, level_left ss v w l) refl;
      quantifiers = λ u k. rw (level_left ss v u k) (sym (same_at (level_of ss u)));
    }
  where
    same_at : (o : Option ℕ) → option_and_then (quantifier_at (without_variable v ss)) o ≡ option_and_then
        (quantifier_at ss) o
    same_at None = refl
    same_at (Some m) = quantifier-without ss v m

-- what the call has at hand
pub without_is : (ss new : List Scope) (scope v : ℕ) → AreDistinct (all_variables ss) → level_of ss v ≡ Some scope
    → 1 ≤ scope → IsTakenOut v (scope - 1) ss new → new ≡ without_variable v ss
without_is ss new scope v distinct level low taken_out =
    let d : Scope = record { quantifier = Exists; variables = [] } in
    let back : scope ≡ (scope - 1) + 1 = omega arith in
    taken_out d ∙ set-without ss (scope - 1) v d distinct (level ∙ ap Some back)

home_there : (ns : List ℕ) (o : Option ℕ) (n : ℕ) → option_and_then (slice_get ns) o ≡ Some n → (id : ℕ) × (o ≡ Some id)
home_there ns None n e = absurd (cc)
home_there ns (Some id) n e = (id, refl)

home_within : (hs : List (Option ℕ)) (i id : ℕ) → kept_for hs (suc i) ≡ Some id → i < length hs
home_within [] i id e = absurd (cc)
home_within (h ∷ hs) zero id e = omega arith
home_within (h ∷ hs) (suc i) id e = let r : i < length hs = home_within hs i id e in omega arith

module _ (ss : List Scope) (ids ns : List ℕ) (hs : List (Option ℕ)) (k i v scope : ℕ) (next : i + 1 ≡ v)
    (t : IsTable ss ids ns hs k) (level : level_of ss v ≡ Some scope) where
  is_next : v ≡ suc i
  is_next = omega arith

  level_here : level_of ss (suc i) ≡ Some scope
  level_here = ap (level_of ss) (sym is_next) ∙ level

  home_here : (id : ℕ) × (kept_for hs (suc i) ≡ Some id)
  home_here = home_there ns (kept_for hs (suc i)) scope (sym (t.found (suc i)) ∙ level_here)

  pub index_within : i < length hs
  index_within = home_within hs i home_here.0 home_here.1

  pub table_taken : (new : List Scope) (others : List ℕ) → is_among v (all_variables ss) ≡ true
      → new ≡ without_variable v ss → others ≡ ids → IsTable new others ns (set hs i None) (k - 1)
  table_taken new others among is same =
      rw (is, same, is_next)
      (table_without ss ids ns hs k i home_here.0 scope t level_here home_here.1 index_within
      (ap (λ u. is_among u (all_variables ss)) (sym is_next) ∙ among))
