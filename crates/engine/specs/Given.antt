-- Clauses as they are given to an engine.
use Rattle.std.specs.Prelude.{ℤ, List, map, ⊤}
use Rattle.prefix.specs.Literal.{signed_number}
use Rattle.prefix.specs.Scopes.{Scope}
use Rattle.truth.specs.Formed.{IsClauseOver}
use Rattle.engine.specs.declared.tied.Given.{Given}
use Rattle.engine.specs.declared.tied.Given.TheVariants.{Numbers, Row}

-- the numbers of a clause
abbrev pub numbers_of : Given → List ℤ
numbers_of (Numbers lits) = lits.now
numbers_of (Row row) = map signed_number row

-- numbers may be any, a row is over the scopes
abbrev pub MayBeGiven : List Scope → Given → Type 0
MayBeGiven scopes (Numbers lits) = ⊤
MayBeGiven scopes (Row row) = IsClauseOver scopes row
