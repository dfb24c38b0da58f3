-- Made formulas are as those that were read are.
use Rattle.std.proofs.Common.{◌≡◌, ℕ, suc, ◌+◌, ◌-◌, ◌*◌, ◌/◌, ◌<◌, ◌≤◌, ◌≢◌, Bool, true, false, ◌||◌, List, [], ◌∷◌, ◌++◌, length, map, refl, sym, ap, subst, ◌∙◌, arith, length-append}
use Rattle.std.specs.Prelude.{◌==◌, flat_map, nat_lt, if◌then◌else◌}
use Rattle.std.specs.List.{AllByRecursion, range_with_len}
use Rattle.std.proofs.lemmas.Bool.{ne_eqb}
use Rattle.std.proofs.lemmas.List.{append-nil}
use Rattle.std.proofs.lemmas.List.FromFn.{length-map-range_with_len, length-range_with_len}
use Rattle.prefix.specs.Literal.{Literal}
use Rattle.prefix.specs.Scopes.{AreDistinct, IsPrefix, all_variables, is_among}
use Rattle.truth.specs.Formed.{IsClauseOver, IsFormed}
use Rattle.clauses.proofs.Ascending.{all_from}
use Rattle.generate.specs.Draws.{start_of}
use Rattle.generate.specs.Made.{by_variable, clause_at, first_place, literals_drawn, made, put, scopes_over, second_place, third_place}
use Rattle.generate.proofs.Places.{first_below, second_below, second_differs, third_below, third_differs}
use Rattle.generate.proofs.Ranges.{range_among, range_ascends, range_joined, range_within}
use Rattle.generate.proofs.Sorting.{ordered_ascends}
use Rattle.qdimacs.proofs.Lists.{ascending_distinct}

-- what holds of each value of a function
pub all_mapped : {X : Type 0} (P : X → Type 0) (f : ℕ → X) (ns : List ℕ) → ((n : ℕ) → P (f n))
    → AllByRecursion P (map f ns)
all_mapped P f [] h = tt
all_mapped P f (n ∷ ns) h = (h n, all_mapped P f ns h)

-- the variables of the scopes are all that are declared

pub variables_are : (v : ℕ) → all_variables (scopes_over v) ≡ range_with_len 1 v
variables_are v =
    let k : ℕ = v / 3 in
    let enough : k + (k + (v - 2 * k)) ≡ v = omega arith in
    ap (λ vs. range_with_len 1 k ++ (range_with_len (k + 1) k ++ vs))
    (append-nil (range_with_len (2 * k + 1) (v - 2 * k)))
    ∙ ap (λ vs. range_with_len 1 k ++ vs) (range_joined (k + 1) k (2 * k + 1) (v - 2 * k) (omega arith))
    ∙ range_joined 1 k (k + 1) (k + (v - 2 * k)) (omega arith)
    ∙ ap (range_with_len 1) enough

pub prefix_is : (v : ℕ) → 3 ≤ v → v ≤ 32000 → IsPrefix (scopes_over v)
prefix_is v low high = record {
  few = omega arith;
  ascending = (
    range_ascends 1 (v / 3),
    (
      range_ascends (v / 3 + 1) (v / 3),
      (range_ascends (2 * (v / 3) + 1) (v - 2 * (v / 3)), tt),
    ),
  );
  distinct = subst AreDistinct (sym (variables_are v)) (ascending_distinct (range_with_len 1 v) (range_ascends 1 v));
  in_range = subst (AllByRecursion (λ u. (1 ≤ u) × (u ≤ 1048576))) (sym (variables_are v))
      (all_from (λ u. (1 ≤ u) × (u < v + 1)) (λ u. (1 ≤ u) × (u ≤ 1048576)) (range_with_len 1 v)
      (λ u h. (h.0, omega (arith, h.1))) (range_within 1 (v + 1) 1 v (omega arith) (omega arith)));
}

-- clauses in order

all_put : (P : Literal → Type 0) (l : Literal) (ls : List Literal) → P l → AllByRecursion P ls
    → AllByRecursion P (put l ls)
all_put P l [] h k = (h, tt)
all_put P l (m ∷ ms) h k = by (nat_lt l.variable m.variable) (all_put P l ms h k.1)
  where
    by : (b : Bool) → AllByRecursion P (put l ms) → AllByRecursion P (if b then l ∷ m ∷ ms else m ∷ put l ms)
    by true rest = (h, k)
    by false rest = (k.0, rest)

all_ordered : (P : Literal → Type 0) (ls : List Literal) → AllByRecursion P ls → AllByRecursion P (by_variable ls)
all_ordered P [] h = tt
all_ordered P (l ∷ ls) h = all_put P l (by_variable ls) h.0 (all_ordered P ls h.1)

put_length : (l : Literal) (ls : List Literal) → length (put l ls) ≡ suc (length ls)
put_length l [] = refl
put_length l (m ∷ ms) = by (nat_lt l.variable m.variable) (put_length l ms)
  where
    by : (b : Bool) → length (put l ms) ≡ suc (length ms)
        → length (if b then l ∷ m ∷ ms else m ∷ put l ms) ≡ suc (suc (length ms))
    by true rest = refl
    by false rest = ap suc rest

ordered_length : (ls : List Literal) → length (by_variable ls) ≡ length ls
ordered_length [] = refl
ordered_length (l ∷ ls) = put_length l (by_variable ls) ∙ ap suc (ordered_length ls)

pub clause_length : (start v i : ℕ) → length (clause_at start v i) ≡ 3
clause_length start v i = ordered_length (literals_drawn start v i)

next_differs : (x y : ℕ) → x ≢ y → (y + 1 == x + 1) ≡ false
next_differs x y n = ne_eqb (y + 1) (x + 1) (λ e. n (omega (arith, e)))

drawn_distinct : (start v i : ℕ) → 3 ≤ v → AreDistinct (map (λ (l : Literal). l.variable) (literals_drawn start v i))
drawn_distinct start v i h =
    let x : ℕ = first_place start v i in
    let y : ℕ = second_place start v i in
    let z : ℕ = third_place start v i in
    let third = third_differs start v i h in (
      ap (λ b. b || (z + 1 == x + 1 || false)) (next_differs x y (second_differs start v i h))
          ∙ ap (λ b. b || false) (next_differs x z third.0),
      (ap (λ b. b || false) (next_differs y z third.1), (refl, tt)),
    )

among_scopes : (v x : ℕ) → x < v → is_among (x + 1) (all_variables (scopes_over v)) ≡ true
among_scopes v x h = ap (is_among (x + 1)) (variables_are v) ∙ range_among (x + 1) 1 v (omega arith) (omega arith)

pub clause_over : (start v i : ℕ) → 3 ≤ v → IsClauseOver (scopes_over v) (clause_at start v i)
clause_over start v i h = (
  ordered_ascends (literals_drawn start v i) (drawn_distinct start v i h),
  all_ordered (λ (l : Literal). is_among l.variable (all_variables (scopes_over v)) ≡ true)
      (literals_drawn start v i) (
        among_scopes v (first_place start v i) (first_below start v i h),
        (
          among_scopes v (second_place start v i) (second_below start v i h),
          (among_scopes v (third_place start v i) (third_below start v i h), tt),
        ),
      ),
)

pub clauses_long : (start v : ℕ) (is : List ℕ) → length (flat_map (λ c. c) (map (clause_at start v) is))
    ≡ 3 * length is
clauses_long start v [] = refl
clauses_long start v (i ∷ is) = omega (
  arith,
  clauses_long start v is,
  clause_length start v i,
  length-append (clause_at start v i) (flat_map (λ c. c) (map (clause_at start v) is)),
)

pub made_formed : (seed v m : ℕ) → 3 ≤ v → v ≤ 32000 → m ≤ 1000000 → IsFormed (made seed v m)
made_formed seed v m low high few = record {
  rows = all_mapped (IsClauseOver (scopes_over v)) (clause_at (start_of seed) v) (range_with_len 0 m)
      (λ i. clause_over (start_of seed) v i low);
  count = omega (arith, length-map-range_with_len (clause_at (start_of seed) v) 0 m);
  amount = omega (arith, clauses_long (start_of seed) v (range_with_len 0 m), length-range_with_len 0 m);
}
