-- Scopes put in as the last.
use Rattle.std.proofs.Common.{◌≡◌, ℕ, suc, ◌+◌, ◌-◌, ◌<◌, ◌≤◌, List, [], ◌∷◌, ◌++◌, length, Some, None, Result, Err, false, refl, ap, ◌∙◌, arith, length-append}
use Rattle.std.specs.Prelude.{if◌then◌else◌, IsOkUnless, MatchOption}
use Rattle.std.specs.List.{AllByRecursion, range_with_len}
use Rattle.std.proofs.lemmas.List.Concat.{flat_map-append}
use Rattle.std.specs.Option.{option_map}
use Rattle.prefix.specs.declared.quant.Quant.{Quant}
use Rattle.prefix.specs.declared.refusal.PrefixRefusal.{PrefixRefusal}
use Rattle.prefix.specs.declared.refusal.PrefixRefusal.TheVariants.{NoMemory}
use Rattle.prefix.specs.Refusals.{variable_refusal}
use Rattle.prefix.specs.Scopes.{Scope, all_variables, is_among, level_of, with_variable_at}
use Rattle.qdimacs.proofs.Lists.{all_first, all_joined, all_second}
use Rattle.generate.specs.Made.{scope_from}
use Rattle.generate.proofs.Ranges.{range_apart, range_below, range_put}
use Rattle.builder.proofs.Scoping.{last_none, variable_last, variable_memory}

-- what holds of two lists holds of both joined, and the other way round
below_apart : (v first : ℕ) (xs : List ℕ) → first ≤ v → AllByRecursion (λ u. u < first) xs → is_among v xs ≡ false
below_apart v first [] le h = refl
below_apart v first (x ∷ xs) le h = grind (arith, h.0, below_apart v first xs le h.1)

-- a number above all variables is none of them
above_none : (ss : List Scope) (v first : ℕ) → first ≤ v → AllByRecursion (λ u. u < first) (all_variables ss)
    → level_of ss v ≡ None
above_none [] v first le h = refl
above_none (s ∷ ss) v first le h =
    ap (λ b. if b then Some 1 else option_map (λ n. n + 1) (level_of ss v))
    (below_apart v first s.variables le (all_first (λ u. u < first) s.variables (all_variables ss) h))
    ∙ ap (option_map (λ n. n + 1)) (above_none ss v first le
    (all_second (λ u. u < first) s.variables (all_variables ss) h))

module _ (ss : List Scope) (q : Quant) (first count : ℕ) where
  -- the scope with one more variable
  pub scope_grows : (old : List Scope) (v n : ℕ) → v ≡ first + count → n - 1 ≡ length ss
      → old ≡ ss ++ scope_from q first count ∷ []
      → with_variable_at old (n - 1) v ≡ ss ++ scope_from q first (count + 1) ∷ []
  scope_grows old v n next number is =
      ap (λ m. with_variable_at old m v) number ∙ ap (λ o. with_variable_at o (length ss) v) is
      ∙ ap (with_variable_at (ss ++ scope_from q first count ∷ []) (length ss)) next
      ∙ variable_last ss q (range_with_len first count) (first + count)
      ∙ ap (λ us. ss ++ record { quantifier = q; variables = us } ∷ []) (range_put first count
      ∙ ap (range_with_len first) (let e : suc count ≡ count + 1 = omega arith in e))

  -- the next variable is refused for want of memory alone
  pub next_memory : (old : List Scope) (v n : ℕ) (r : Result (Unit {0}) PrefixRefusal) → v ≡ first + count → 1 ≤ v
      → v ≤ 1048576
      → n ≡ length ss + 1 → old ≡ ss ++ scope_from q first count ∷ []
      → AllByRecursion (λ u. u < first) (all_variables ss)
      → MatchOption (variable_refusal old v n) (IsOkUnless r NoMemory) (λ e. r ≡ Err e) → IsOkUnless r NoMemory
  next_memory old v n r next low high number is new h =
      let long : length old ≡ length ss + 1 = ap length is ∙ length-append ss (scope_from q first count ∷ []) in
      let out : is_among v (range_with_len first count) ≡ false = range_apart v first count (omega arith) in
      variable_memory old v n r low high (ap (λ o. level_of o v) is
      ∙ last_none ss q (range_with_len first count) v (above_none ss v first (omega arith) new) out) (omega arith)
      (omega arith) h

-- the variables of these and of one more scope
pub scopes_below : (ss : List Scope) (q : Quant) (first count : ℕ) (now : List Scope) (bound : ℕ)
    → now ≡ ss ++ scope_from q first count ∷ []
    → first + count ≤ bound → AllByRecursion (λ u. u < bound) (all_variables ss)
    → AllByRecursion (λ u. u < bound) (all_variables now)
scopes_below ss q first count now bound is low h =
    rw (is, flat_map-append (λ (s : Scope). s.variables) ss (scope_from q first count ∷ []))
    (all_joined (λ u. u < bound) (all_variables ss) (range_with_len first count ++ []) h
    (all_joined (λ u. u < bound) (range_with_len first count) [] (range_below bound first count low) tt))
