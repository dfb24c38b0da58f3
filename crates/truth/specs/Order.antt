-- The variables that the decider goes through.
use Rattle.std.specs.Prelude.{List, map}
use Rattle.truth.specs.declared.order.BoundVar.{BoundVar}
use Rattle.prefix.specs.Scopes.{BoundVariable}

-- what contracts see of a variable with its quantifier
abbrev pub bound_of : BoundVar → BoundVariable
bound_of b = record { quantifier = b.quant; variable = b.var }

-- and of a list of them
abbrev pub bounds_of : List BoundVar → List BoundVariable
bounds_of order = map bound_of order
