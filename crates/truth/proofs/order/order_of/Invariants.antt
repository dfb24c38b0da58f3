use Rattle.std.proofs.Common.{◌≡◌, take}
use Rattle.prefix.specs.Scopes.{prefix_order}
use Rattle.truth.specs.Order.{bounds_of}
use Rattle.truth.proofs.order.order_of.Given as goal

-- the scopes so far are put
abbrev pub invariant-loop-s : goal.invariant-loop-s
invariant-loop-s l = bounds_of l.order.items ≡ prefix_order (take l.s l.prefix)
