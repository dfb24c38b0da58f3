-- What an insertion into a prefix leaves as it was.
use Rattle.std.specs.Prelude.{◌≡◌, ℕ, ◌+◌, List, Option, IsSome, if◌then◌else◌, nat_le}
use Rattle.std.specs.declared.cmp.Ordering.{Ordering}
use Rattle.std.specs.Ordering.{nat_cmp}
use Rattle.std.specs.Option.{option_map, option_and_then}
use Rattle.prefix.specs.Scopes.{Scope, level_of, quantifier_of}

-- the number of a scope once another is put in at number from
abbrev pub lifted : ℕ → ℕ → ℕ
lifted from n = if nat_le from n then n + 1 else n

-- how the level of one variable compares with that of another, where both have one
abbrev pub levels_compared : List Scope → ℕ → ℕ → Option Ordering
levels_compared ss v w = option_and_then (λ m. option_map (nat_cmp m) (level_of ss w)) (level_of ss v)

-- the variables that a prefix had compare as before, and each is under its quantifier
pub record KeepsOrder (old new : List Scope) : Type 0 where
  pub order : (v w : ℕ) → IsSome (level_of old v) → IsSome (level_of old w) →
      levels_compared new v w ≡ levels_compared old v w
  pub quantifiers : (v : ℕ) → IsSome (level_of old v) → quantifier_of new v ≡ quantifier_of old v
