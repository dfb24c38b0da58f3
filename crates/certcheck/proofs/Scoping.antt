-- The scope of the variables 1 to n.
use Rattle.std.proofs.Common.{◌≡◌, ℕ, zero, suc, ◌+◌, ◌<◌, ◌≤◌, ◌||◌, ⊎_elim, true, false, List, [], ◌∷◌, ◌++◌, refl, sym, ap, ◌∙◌, arith, nat_eq}
use Rattle.std.specs.List.{AllByRecursion, range_with_len}
use Rattle.std.proofs.lemmas.Bool.{eqb-true, ne_eqb, or_cases, true≢false}
use Rattle.prefix.specs.declared.quant.Quant.TheVariants.{Exists}
use Rattle.prefix.specs.Scopes.{AreDistinct, IsAscending, is_among}
use Rattle.clauses.proofs.Ascending.{ascending_of}
use Rattle.builder.specs.NewScope.{AreNew, scope_of}
use Rattle.certcheck.specs.Check.{scopes_to}

range_after : (v a n : ℕ) → v < a → is_among v (range_with_len a n) ≡ false
range_after v a zero h = refl
range_after v a (suc n) h =
    ap (λ b. b || is_among v (range_with_len (a + 1) n)) (ne_eqb a v (λ e. omega (arith, e, h)))
    ∙ range_after v (a + 1) n (omega (arith, h))

range_distinct : (a n : ℕ) → AreDistinct (range_with_len a n)
range_distinct a zero = tt
range_distinct a (suc n) = (range_after a (a + 1) n (omega arith), range_distinct (a + 1) n)

range_within : (v a n : ℕ) → is_among v (range_with_len a n) ≡ true → (a ≤ v) × (v < a + n)
range_within v a zero t = absurd (true≢false (sym t))
range_within v a (suc n) t =
    ⊎_elim (λ e. let same : a ≡ v = eqb-true a v e in (omega (arith, same), omega (arith, same)))
    (λ e. let w = range_within v (a + 1) n e in (omega (arith, w.0), omega (arith, w.1)))
    (or_cases (nat_eq a v) (is_among v (range_with_len (a + 1) n)) t)

range_above : (w a n : ℕ) → w < a → AllByRecursion (λ u. w < u) (range_with_len a n)
range_above w a zero h = tt
range_above w a (suc n) h = (h, range_above w (a + 1) n (omega arith))

range_ascends : (a n : ℕ) → IsAscending (range_with_len a n)
range_ascends a zero = tt
range_ascends a (suc n) = (range_above a (a + 1) n (omega arith), range_ascends (a + 1) n)

push : (a n : ℕ) → range_with_len a (suc n) ≡ range_with_len a n ++ (a + n) ∷ []
push a zero = ap (λ u. u ∷ []) (let e : a ≡ a + 0 = omega arith in e)
push a (suc n) =
    ap (λ us. a ∷ us) (push (a + 1) n
    ∙ ap (λ u. range_with_len (a + 1) n ++ u ∷ []) (let e : a + 1 + n ≡ a + suc n = omega arith in e))

-- the numbers before v, and v behind them
pub range_push : (v next : ℕ) → next ≡ v + 1 → range_with_len 1 v ++ next ∷ [] ≡ range_with_len 1 next
range_push v next is =
    let first : next ≡ 1 + v = omega (arith, is) in
    let more : suc v ≡ next = omega (arith, is) in
    ap (λ u. range_with_len 1 v ++ u ∷ []) first ∙ sym (push 1 v) ∙ ap (range_with_len 1) more

-- they may stand in the first scope
pub range_new : (n : ℕ) → n ≤ 1048576 → AreNew [] (range_with_len 1 n)
range_new n few = record {
  distinct = range_distinct 1 n;
  each = λ v t. let w = range_within v 1 n t in (w.0, omega (arith, w.1, few), refl);
}

pub scopes_are : (n : ℕ) → 0 < n → [] ++ scope_of Exists (range_with_len 1 n) ∷ [] ≡ scopes_to n
scopes_are zero h = absurd (omega (arith, h))
scopes_are (suc n) h =
    ap (λ (us : List ℕ). record { quantifier = Exists; variables = us } ∷ [])
    (sym (ascending_of (range_with_len 1 (suc n)) (range_with_len 1 (suc n)) (range_ascends 1 (suc n)) (λ v. refl)))
