-- The depth that decides what reduction leaves: that of a row's last pivot-type literals.
use Rattle.std.specs.Prelude.{◌≡◌, ℕ, Bool, false, nat_lt, List, Option, Some, None, is_some, not, ◌&&◌, ◌||◌}
use Rattle.std.specs.List.{list_any}
use Rattle.prefix.specs.declared.quant.Quant.{Quant}
use Rattle.prefix.specs.Literal.{Literal}
use Rattle.prefix.specs.Scopes.{Scope}
use Rattle.calculus.specs.Rows.{Row, depth_of, is_pivot, is_blocked}

-- whether a depth is smaller than that one, if there is one
abbrev pub is_before : Option ℕ → ℕ → Bool
is_before None depth = false
is_before (Some deepest) depth = nat_lt depth deepest

-- the depth of a row's deepest pivot-type literals: there is one where the row has such a literal, and a literal is
-- blocked exactly where its own depth is smaller
pub record IsDeepest (pivot : Quant) (scopes : List Scope) (row : Row) (deepest : Option ℕ) : Type 0 where
  pub found : is_some deepest ≡ list_any (is_pivot pivot scopes) row
  pub blocks : (literal : Literal) → is_blocked pivot scopes row literal
      ≡ is_before deepest (depth_of scopes literal.variable)

-- whether a literal is pivot-type or of a smaller depth
abbrev pub stays_before : Quant → List Scope → Option ℕ → Literal → Bool
stays_before pivot scopes deepest literal = is_pivot pivot scopes literal || is_before deepest
    (depth_of scopes literal.variable)

-- whether a literal goes where the deepest pivot-type ones are of this depth
abbrev pub goes_at : Quant → List Scope → ℕ → Literal → Bool
goes_at pivot scopes depth literal = not (is_pivot pivot scopes literal
    || nat_lt (depth_of scopes literal.variable) depth)

-- whether that depth, if there is one, is no smaller than this
abbrev pub reaches : Option ℕ → ℕ → Bool
reaches None depth = false
reaches (Some deepest) depth = not (nat_lt deepest depth)

-- the depth of a row's deepest literals that aren't pivot-type
abbrev pub IsDeepestOther : Quant → List Scope → Row → Option ℕ → Type 0
IsDeepestOther pivot scopes row deepest = (depth : ℕ) → list_any (goes_at pivot scopes depth) row
    ≡ reaches deepest depth

-- whether a literal is pivot-type and of a greater depth
abbrev pub is_deeper : Quant → List Scope → ℕ → Literal → Bool
is_deeper pivot scopes depth literal = is_pivot pivot scopes literal && nat_lt depth (depth_of scopes literal.variable)

-- whether a row has such a literal, or no pivot-type one
abbrev pub keeps_all : Quant → List Scope → ℕ → Row → Bool
keeps_all pivot scopes depth row = not (list_any (is_pivot pivot scopes) row)
    || list_any (is_deeper pivot scopes depth) row
