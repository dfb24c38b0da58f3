use Rattle.std.proofs.Common.{◌≡◌, ◌++◌, map}
use Rattle.prefix.specs.Scopes.{bound_by}
use Rattle.truth.specs.Order.{bounds_of}
use Rattle.truth.proofs.order.push_scope.Given as goal

-- the variables so far are put, and the others follow
abbrev pub invariant-loop-var : goal.invariant-loop-var
invariant-loop-var l =
    bounds_of l.order.items ++ map (bound_by l.quant) l.var-iterator
    ≡ bounds_of l.initial.order.items ++ map (bound_by l.quant) l.vars.keys
