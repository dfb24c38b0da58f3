-- A scope behind others.
use Rattle.std.specs.Prelude.{◌≡◌, ℕ, ◌≤◌, ◌⊎◌, true, List, [], ◌∷◌, ◌++◌, length, take, None}
use Rattle.prefix.specs.declared.quant.Quant.{Quant}
use Rattle.prefix.specs.Scopes.{Scope, is_among, level_of, AreDistinct}
use Rattle.clauses.specs.Clause.{ascending}

-- variables that may stand in one more scope behind these
pub record AreNew (scopes : List Scope) (vars : List ℕ) : Type 0 where
  pub distinct : AreDistinct vars
  pub each : (v : ℕ) → is_among v vars ≡ true → (1 ≤ v) × (v ≤ 1048576) × (level_of scopes v ≡ None)

-- the scope of these variables, in whatever order they come
abbrev pub scope_of : Quant → List ℕ → Scope
scope_of quant vars = record { quantifier = quant; variables = ascending vars }

-- nothing was put in, or the scope with so many of the variables
abbrev pub IsBegun : Quant → List ℕ → List Scope → List Scope → Type 0
IsBegun quant vars old new = (new ≡ old)
    ⊎ ((n : ℕ) × (n ≤ length vars) × (new ≡ old ++ scope_of quant (take n vars) ∷ []))
