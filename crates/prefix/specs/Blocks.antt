-- The scopes that a prefix keeps, each under an id that stays.
use Rattle.std.specs.Prelude.{◌≡◌, ℕ, ◌<◌, ◌==◌, not, filter, List, [], length, map, slice_index_or, slice_set}
use Rattle.std.specs.List.{AllByRecursion}
use Rattle.prefix.specs.declared.blocks.Block.{Block}
use Rattle.prefix.specs.declared.quant.Quant.TheVariants.{Exists}
use Rattle.prefix.specs.Scopes.{Scope, AreDistinct}

-- scopes in order, and the id of each
pub record Ordered : Type 0 where
  pub scopes : List Scope
  pub ids : List ℕ

-- what contracts see of a block
abbrev pub scope_of : Block → Scope
scope_of b = record { quantifier = b.quant; variables = b.vars.keys }

-- the scopes of blocks, by id
abbrev pub made_of : List Block → List Scope
made_of blocks = map scope_of blocks

-- the scope with an id; one without variables where no scope has it
abbrev pub scope_with : List Scope → ℕ → Scope
scope_with made id = slice_index_or made id (record { quantifier = Exists; variables = [] })

-- the scopes in the order of these ids
abbrev pub scopes_of : List Scope → List ℕ → List Scope
scopes_of made ids = map (scope_with made) ids

-- each of so many ids comes once
pub record IsOrder (count : ℕ) (ids : List ℕ) : Type 0 where
  pub all : length ids ≡ count
  pub below : AllByRecursion (λ id. id < count) ids
  pub distinct : AreDistinct ids

-- a variable is taken out of the scope at a place, and the others stay
abbrev pub IsTakenOut : ℕ → ℕ → List Scope → List Scope → Type 0
IsTakenOut v place old new = (d : Scope) → new ≡ slice_set old place (record {
  quantifier = (slice_index_or old place d).quantifier;
  variables = filter (λ x. not (x == v)) (slice_index_or old place d).variables;
})
