-- Rows of which one keeps a resolvent reduced.
use Rattle.std.specs.Prelude.{ℕ, ◌==◌, Bool, not, ◌&&◌, nat_le, List}
use Rattle.std.specs.List.{list_any}
use Rattle.prefix.specs.declared.quant.Quant.{Quant}
use Rattle.prefix.specs.Literal.{Literal}
use Rattle.prefix.specs.Scopes.{Scope}
use Rattle.calculus.specs.Rows.{Row, depth_of, is_pivot}

-- whether a literal is pivot-type, over another variable, and of no smaller depth than that
abbrev pub is_as_deep : Quant → List Scope → ℕ → ℕ → Literal → Bool
is_as_deep pivot scopes x depth literal =
    not (literal.variable == x)
    && (is_pivot pivot scopes literal && nat_le depth (depth_of scopes literal.variable))

-- whether a row has such a literal beside those over a variable
abbrev pub has_as_deep : Quant → List Scope → ℕ → Row → Bool
has_as_deep pivot scopes x row = list_any (is_as_deep pivot scopes x (depth_of scopes x)) row
