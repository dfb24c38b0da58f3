-- What an insertion keeps.
use Rattle.std.proofs.Common.{◌≡◌, ℕ, zero, suc, ◌+◌, ◌-◌, ◌<◌, ◌≤◌, Bool, true, false, cond, List, [], ◌∷◌, length, Option, Some, None, refl, sym, ap, ⊎_elim, ◌∙◌, arith}
use Rattle.std.specs.Prelude.{◌==◌, ◌||◌, insert, IfSome, IsSome, is_some, slice_get}
use Rattle.std.specs.Option.{option_map, option_and_then}
use Rattle.std.specs.Ordering.{nat_cmp}
use Rattle.std.proofs.lemmas.Bool.{cond-true, cond-false, cases_lt, ne_eqb, le-leb, lt-leb}
use Rattle.std.proofs.lemmas.Bool.Decides.{nat_tests}
use Rattle.prefix.specs.declared.quant.Quant.{Quant}
use Rattle.prefix.specs.Scopes.{Scope, is_among, level_of, all_variables, quantifier_at, with_variable_at}
use Rattle.prefix.specs.Insertion.{lifted, KeepsOrder}
use Rattle.prefix.proofs.ScopeLemmas.{level-insert, level-with_variable_at, is_among-append}

found_by : (b c : Bool) (o : Option ℕ) → is_some o ≡ c → is_some (cond b (Some 1) (option_map (λ n. n + 1) o)) ≡
    (b || c)
found_by true c o h = refl
found_by false c None h = h
found_by false c (Some n) h = h

-- a variable has a level exactly where it is among the variables
pub level_found : (ss : List Scope) (v : ℕ) → is_some (level_of ss v) ≡ is_among v (all_variables ss)
level_found [] v = refl
level_found (s ∷ ss) v = found_by (is_among v s.variables) _ (level_of ss v) (level_found ss v)
    ∙ sym (is_among-append v s.variables (all_variables ss))

within_by : (b : Bool) (o : Option ℕ) (m : ℕ) → IfSome o (λ n. (1 ≤ n) × (n ≤ m))
    → IfSome (cond b (Some 1) (option_map (λ n. n + 1) o)) (λ n. (1 ≤ n) × (n ≤ suc m))
within_by true o m h = (omega arith, omega arith)
within_by false None m h = tt
within_by false (Some n) m h = (omega arith, omega (arith, h.1))

-- a level is the number of a scope
pub level_within : (ss : List Scope) (v : ℕ) → IfSome (level_of ss v) (λ n. (1 ≤ n) × (n ≤ length ss))
level_within [] v = tt
level_within (s ∷ ss) v = within_by (is_among v s.variables) (level_of ss v) (length ss) (level_within ss v)

lifted_compared : (f m n : ℕ) → nat_cmp (lifted f m) (lifted f n) ≡ nat_cmp m n
lifted_compared f m n = grind (arith, nat_tests)

compared_by : (f : ℕ) (o p : Option ℕ) → option_and_then (λ m. option_map (nat_cmp m) (option_map (lifted f) p))
    (option_map (lifted f) o) ≡ option_and_then (λ m. option_map (nat_cmp m) p) o
compared_by f None p = refl
compared_by f (Some m) None = refl
compared_by f (Some m) (Some n) = ap Some (lifted_compared f m n)

-- the quantifier of a scope, by its place from 0
pub quantifier_from : (ss : List Scope) (k : ℕ) → quantifier_at ss (suc k) ≡ option_map (λ (s : Scope). s.quantifier)
    (slice_get ss k)
quantifier_from ss k =
    let back : suc k - 1 ≡ k = omega arith in
    cond-false (suc k == 0) None (option_map (λ (s : Scope). s.quantifier) (slice_get ss (suc k - 1)))
    (ne_eqb (suc k) 0 (λ e. absurd (omega arith)))
    ∙ ap (λ j. option_map (λ (s : Scope). s.quantifier) (slice_get ss j)) back

slice_get-insert_below : (ss : List Scope) (i k : ℕ) (s : Scope) → k < i → i ≤ length ss
    → slice_get (insert ss i s) k ≡ slice_get ss k
slice_get-insert_below ss zero k s h l = absurd (omega arith)
slice_get-insert_below [] (suc i) k s h l = absurd (omega arith)
slice_get-insert_below (t ∷ ss) (suc i) zero s h l = refl
slice_get-insert_below (t ∷ ss) (suc i) (suc k) s h l = slice_get-insert_below ss i k s (omega arith) (omega arith)

slice_get-insert_above : (ss : List Scope) (i k : ℕ) (s : Scope) → i ≤ k → i ≤ length ss → slice_get (insert ss i s)
    (suc k) ≡ slice_get ss k
slice_get-insert_above ss zero k s h l = refl
slice_get-insert_above [] (suc i) k s h l = absurd (omega arith)
slice_get-insert_above (t ∷ ss) (suc i) zero s h l = absurd (omega arith)
slice_get-insert_above (t ∷ ss) (suc i) (suc k) s h l = slice_get-insert_above ss i k s (omega arith) (omega arith)

-- a scope that moves up keeps its quantifier
quantifier-insert : (ss : List Scope) (i n : ℕ) (s : Scope) → 1 ≤ n → i ≤ length ss → quantifier_at (insert ss i s)
    (lifted (i + 1) n) ≡ quantifier_at ss n
quantifier-insert ss i zero s h l = absurd (omega arith)
quantifier-insert ss i (suc k) s h l = ⊎_elim below above (cases_lt k i)
  where
    below : k < i → quantifier_at (insert ss i s) (lifted (i + 1) (suc k)) ≡ quantifier_at ss (suc k)
    below b =
        let stays : lifted (i + 1) (suc k) ≡ suc k = cond-false _ _ _ (lt-leb (i + 1) (suc k) (omega arith)) in
        ap (quantifier_at (insert ss i s)) stays ∙ quantifier_from (insert ss i s) k
        ∙ ap (option_map (λ (t : Scope). t.quantifier)) (slice_get-insert_below ss i k s b l)
        ∙ sym (quantifier_from ss k)

    above : i ≤ k → quantifier_at (insert ss i s) (lifted (i + 1) (suc k)) ≡ quantifier_at ss (suc k)
    above b =
        let moves : lifted (i + 1) (suc k) ≡ suc (suc k) = cond-true _ _ _ (le-leb (i + 1) (suc k) (omega arith))
        ∙ omega arith in
        ap (quantifier_at (insert ss i s)) moves ∙ quantifier_from (insert ss i s) (suc k)
        ∙ ap (option_map (λ (t : Scope). t.quantifier)) (slice_get-insert_above ss i k s b l)
        ∙ sym (quantifier_from ss k)

pub quantifier_by : (ss : List Scope) (i m : ℕ) (s : Scope) (o : Option ℕ) → IfSome o (λ n. (1 ≤ n) × (n ≤ m))
    → i ≤ length ss → option_and_then (quantifier_at (insert ss i s)) (option_map (lifted (i + 1)) o) ≡
    option_and_then (quantifier_at ss) o
quantifier_by ss i m s None h l = refl
quantifier_by ss i m s (Some n) h l = quantifier-insert ss i n s h.0 l

-- a scope that is put in keeps what the variables have
pub scope_keeps_order : (ss : List Scope) (i : ℕ) (q : Quant) → i ≤ length ss
    → KeepsOrder ss (insert ss i (record { quantifier = q; variables = [] }))
scope_keeps_order ss i q h =
    record {
      order = λ v w _ _. rw (level-insert ss i q v h, level-insert ss i q w h)
          (compared_by (i + 1) (level_of ss v) (level_of ss w));
      quantifiers = λ v _. rw (level-insert ss i q v h)
          (quantifier_by ss i (length ss) _ (level_of ss v) (level_within ss v) h);
    }

quantifier_get : (ss : List Scope) (n v k : ℕ) → option_map (λ (s : Scope). s.quantifier)
    (slice_get (with_variable_at ss n v) k) ≡ option_map (λ (s : Scope). s.quantifier) (slice_get ss k)
quantifier_get [] n v k = refl
quantifier_get (s ∷ ss) zero v zero = refl
quantifier_get (s ∷ ss) zero v (suc k) = refl
quantifier_get (s ∷ ss) (suc n) v zero = refl
quantifier_get (s ∷ ss) (suc n) v (suc k) = quantifier_get ss n v k

-- each scope keeps its quantifier
pub quantifier-with : (ss : List Scope) (n v m : ℕ) → quantifier_at (with_variable_at ss n v) m ≡ quantifier_at ss m
quantifier-with ss n v m = ap (cond (m == 0) None) (quantifier_get ss n v (m - 1))

is_other : (ss : List Scope) (v w : ℕ) → level_of ss v ≡ None → IsSome (level_of ss w) → (w ≡ v → ⊥)
is_other ss v w e h k = not_there (level_of ss w) (ap (level_of ss) k ∙ e) h
  where
    not_there : (o : Option ℕ) → o ≡ None → IsSome o → ⊥
    not_there None p q = cc
    not_there (Some n) p q = cc

-- the other variables keep their levels
level_kept : (ss : List Scope) (n v w : ℕ) → n < length ss → level_of ss v ≡ None → IsSome (level_of ss w)
    → level_of (with_variable_at ss n v) w ≡ level_of ss w
level_kept ss n v w h e k = level-with_variable_at ss n v w h e ∙ cond-false (w == v) _ _
    (ne_eqb w v (is_other ss v w e k))

-- a variable that is put in keeps what the others have
pub variable_keeps_order : (ss : List Scope) (n v : ℕ) → n < length ss → level_of ss v ≡ None
    → KeepsOrder ss (with_variable_at ss n v)
variable_keeps_order ss n v h e =
    record {
      order = λ u w k l. rw (level_kept ss n v u h e k, level_kept ss n v w h e l) refl;
      quantifiers = λ u k. rw (level_kept ss n v u h e k) (same_at (level_of ss u));
    }
  where
    same_at : (o : Option ℕ) → option_and_then (quantifier_at (with_variable_at ss n v)) o ≡ option_and_then
        (quantifier_at ss) o
    same_at None = refl
    same_at (Some m) = quantifier-with ss n v m
