-- The worked values of blocked reasons and of what is left, for either side.
use Rattle.std.proofs.Common.{◌≡◌, ℕ, ◌<◌, true, false, [], ◌∷◌, Contains, Some, length, refl, subst, ⊎_elim, arith, ap}
use Rattle.std.proofs.lemmas.Bool.{true≢false, false≢true}
use Rattle.prefix.specs.declared.quant.Quant.{Quant}
use Rattle.prefix.specs.declared.quant.Quant.TheVariants.{Exists, Forall}
use Rattle.prefix.specs.Literal.{Literal}
use Rattle.steps.specs.Counter.{Counter}
use Rattle.calculus.specs.Rows.{is_pivot}
use Rattle.calculus.specs.Search.{before_on, is_open, value_on}
use Rattle.calculus.specs.Search.Cause.{Propagated}
use Rattle.calculus.specs.Worked.{plus}
use Rattle.calculus.specs.WorkedSearch.{alternating, three}
use Rattle.calculus.proofs.Lists.{contains_cons, contains_nil}
use Rattle.derive.specs.State.{State, row_of}
use Rattle.trail.specs.State.{TrailState}
use Rattle.clean.specs.Blockers.{IsBlocked}
use Rattle.clean.specs.Worked.{WorkedReasonsLeft, all_assigned, propagated, stored}
use Rattle.clean.proofs.Working.{ours, theirs}

second : Contains three (plus 2)
second = (1, omega arith, refl)

third : Contains three (plus 3)
third = (2, omega arith, refl)

-- the literals of the row
each : (P : Literal → Type 0) → P (plus 1) → P (plus 2) → P (plus 3) → (l : Literal) → Contains three l → P l
each P a b c l i =
    ⊎_elim (λ e. subst P e a)
    (λ j. ⊎_elim (λ e. subst P e b)
    (λ k. ⊎_elim (λ e. subst P e c) (λ n. absurd (contains_nil l n)) (contains_cons (plus 3) [] l k))
    (contains_cons (plus 2) (plus 3 ∷ []) l j))
    (contains_cons (plus 1) (plus 2 ∷ plus 3 ∷ []) l i)

step_is : (m n : ℕ) → Some (Propagated m) ≡ Some (Propagated n) → m ≡ n
step_is m n e = (let f : Some (Propagated m) ≡ Some (Propagated n) = e in cc)

three_blocked : (q : Quant) → IsBlocked q (alternating q) (before_on (propagated q).placed 1) three
three_blocked q = record {
  blocker = plus 3;
  blocked = plus 2;
  blocks = record {
    blocker_stands = third;
    blocked_stands = second;
    pivot_type = ours q;
    open_yet = refl;
    other_type = theirs q;
    later = (let h : 2 < 3 = omega arith in h);
  };
}

pivot_one : (q : Quant) → is_pivot q (alternating q) (plus 1) ≡ true
pivot_one Exists = refl
pivot_one Forall = refl

-- where 2 and 3 are bad no literal but the first is open
one_open : (q : Quant) (l : Literal) → Contains three l → is_open (value_on (before_on (all_assigned q).placed 1))
    l ≡ true
    → is_pivot q (alternating q) l ≡ false → ⊥
one_open q =
    each (λ l. is_open (value_on (before_on (all_assigned q).placed 1)) l ≡ true → is_pivot q (alternating q) l ≡ false
    → ⊥)
    (λ o t. true≢false (let e : true ≡ false = rw (← pivot_one q) t in e)) (λ o t. false≢true o) (λ o t. false≢true o)

pub left : (pivot : Quant) → WorkedReasonsLeft pivot
left pivot = record {
  reason_blocked = record {
    unmarked = refl;
    blocked = λ id e. subst (λ n. IsBlocked pivot (alternating pivot) (before_on (propagated pivot).placed 1)
        (row_of (stored pivot) n))
        (step_is 0 id e) (three_blocked pivot);
  };
  marked = λ b. true≢false b.unmarked;
  none_open = λ b. let h = b.blocked 0 refl in
      one_open pivot h.blocked h.blocks.blocked_stands h.blocks.open_yet h.blocks.other_type;
  untouched = record { same_row = refl; same_derivation = refl; same_trail = refl; uncounted = refl };
  counted = λ u. let e : 5 ≡ 4 = ap (λ (c : Counter). c.spent) u.uncounted in omega (arith, e);
  other_row = λ u. let e : 1 ≡ 0 = u.same_row in omega (arith, e);
  more_rows = λ u. let e : 5 ≡ 3 = ap (λ (d : State). length d.notes) u.same_derivation in omega (arith, e);
  one_marked = λ u. marks_not (ap (λ (t : TrailState). t.marks) u.same_trail);
}
  where
    marks_not : false ∷ true ∷ [] ≡ false ∷ false ∷ [] → ⊥
    marks_not e = cc
