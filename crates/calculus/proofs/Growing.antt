-- Prefixes that keep the order of their variables extend each other.
use Rattle.std.proofs.Common.{◌≡◌, ℕ, Bool, true, false, List, Contains, Option, Some, None, is_some, IsSome, sym, refl, ap, ◌∙◌, nat_lt, nat_eq, cond, unwrap_or, length, ◌+◌, ap₂}
use Rattle.std.specs.Option.{option_map, option_and_then}
use Rattle.std.specs.Ordering.{nat_cmp}
use Rattle.std.specs.declared.cmp.Ordering.{Ordering}
use Rattle.std.specs.declared.cmp.Ordering.TheVariants.{Less, Equal, Greater}
use Rattle.prefix.specs.Insertion.{KeepsOrder, levels_compared}
use Rattle.prefix.specs.Scopes.{Scope, all_variables, level_of}
use Rattle.calculus.specs.Derivations.{Extends}
use Rattle.calculus.specs.Rows.{depth_of}
use Rattle.calculus.proofs.Levels.{has_level, level_in_prefix}
use Rattle.calculus.proofs.RowLemmas.{some_from}

pub extends_twice : (a b c : List Scope) → Extends a b → Extends b c → Extends a c
extends_twice a b c first second = record {
  has = λ x i. second.has x (first.has x i);
  quantifiers = λ x i. first.quantifiers x i ∙ second.quantifiers x (first.has x i);
  depths = λ x y i j. first.depths x y i j ∙ second.depths x y (first.has x i) (first.has y j);
}

abbrev is_less : Ordering → Bool
is_less Less = true
is_less Equal = false
is_less Greater = false

-- the test of order, by the comparison
less_by : (m n : ℕ) → nat_lt m n ≡ is_less (nat_cmp m n)
less_by m n = by_test (nat_lt m n) (nat_eq m n)
  where
    by_test : (t e : Bool) → t ≡ is_less (cond t Less (cond e Equal Greater))
    by_test true e = refl
    by_test false true = refl
    by_test false false = refl

-- two compared levels
both_some : (o p : Option ℕ) (r : Ordering) → option_and_then (λ m. option_map (nat_cmp m) p) o ≡ Some r → (m : ℕ)
    × (n : ℕ) × (o ≡ Some m) × (p ≡ Some n) × (nat_cmp m n ≡ r)
both_some None p r e = absurd (let g : None ≡ Some r = e in cc)
both_some (Some m) None r e = absurd (let g : None ≡ Some r = e in cc)
both_some (Some m) (Some n) r e = (m, n, refl, refl, (let g : Some (nat_cmp m n) ≡ Some r = e in cc))

compared_as : (scopes : List Scope) (x y m n : ℕ) → level_of scopes x ≡ Some m → level_of scopes y ≡ Some n
    → levels_compared scopes x y ≡ Some (nat_cmp m n)
compared_as scopes x y m n e f = ap₂ (λ o p. option_and_then (λ k. option_map (nat_cmp k) p) o) e f

depth_at : (scopes : List Scope) (x m : ℕ) → level_of scopes x ≡ Some m → depth_of scopes x ≡ m
depth_at scopes x m e = ap (λ o. unwrap_or o (length scopes + 1)) e

module _ (old new : List Scope) (keeps : KeepsOrder old new) where
  level_at : (x : ℕ) → Contains (all_variables old) x → (m : ℕ) × (level_of old x ≡ Some m)
  level_at x i = some_from (level_of old x) (has_level old x i)

  there : (x : ℕ) → Contains (all_variables old) x → IsSome (level_of old x)
  there x i = let r = level_at x i in ap is_some r.1

  -- the levels of two variables, before and after
  both : (x y : ℕ) (i : Contains (all_variables old) x) (j : Contains (all_variables old) y) → (m : ℕ) × (n : ℕ)
      × (level_of new x ≡ Some m) × (level_of new y ≡ Some n)
      × (nat_cmp m n ≡ nat_cmp (level_at x i).0 (level_at y j).0)
  both x y i j =
      let a = level_at x i in
      let b = level_at y j in
      both_some (level_of new x) (level_of new y) (nat_cmp a.0 b.0)
      (keeps.order x y (there x i) (there y j) ∙ compared_as old x y a.0 b.0 a.1 b.1)

  pub kept_extends : Extends old new
  kept_extends = record {
    has = λ x i. let r = both x x i i in level_in_prefix new x r.0 r.2;
    quantifiers = λ x i. sym (keeps.quantifiers x (there x i));
    depths = λ x y i j.
        let a = level_at x i in
        let b = level_at y j in
        let r = both x y i j in
        ap₂ nat_lt (depth_at old x a.0 a.1) (depth_at old y b.0 b.1)
        ∙ (less_by a.0 b.0
        ∙ (ap is_less (sym r.4)
        ∙ (sym (less_by r.0 r.1)
        ∙ ap₂ nat_lt (sym (depth_at new x r.0 r.2)) (sym (depth_at new y r.1 r.3)))));
  }
