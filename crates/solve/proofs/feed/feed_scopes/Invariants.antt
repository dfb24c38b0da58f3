use Rattle.std.proofs.Common.{[], ◌-◌, take}
use Rattle.solve.specs.Feeding.{HoldsFormula}
use Rattle.solve.proofs.feed.feed_scopes.Given as goal

-- the engine holds the scopes so far
abbrev pub invariant-loop-number : goal.invariant-loop-number
invariant-loop-number l = HoldsFormula (take (l.number - 1) l.prefix) [] l.engine
