-- Numbers that are no variable's.
use Rattle.std.proofs.Common.{◌≡◌, ℕ, ◌≤◌, List, Option, Some, None, is_some, refl, ap}
use Rattle.prefix.specs.Scopes.{IsPrefix, Scope, level_of}
use Rattle.frames.proofs.Knowing.{known_in_range}

pub no_level : (scopes : List Scope) (v : ℕ) → IsPrefix scopes → ((1 ≤ v) × (v ≤ 1048576) → ⊥)
    → None ≡ level_of scopes v
no_level scopes v valid out = by (level_of scopes v) refl
  where
    by : (o : Option ℕ) → level_of scopes v ≡ o → None ≡ o
    by None e = refl
    by (Some n) e = absurd (out (known_in_range scopes v valid (ap is_some e)))
