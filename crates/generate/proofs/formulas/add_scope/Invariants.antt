use Rattle.std.proofs.Common.{◌≡◌, ◌-◌, ◌++◌, ◌∷◌, []}
use Rattle.generate.specs.Made.{scope_from}
use Rattle.generate.proofs.formulas.add_scope.Given as goal

-- the variables so far stand in the last scope
abbrev pub invariant-loop-v : goal.invariant-loop-v
invariant-loop-v l = l.prefix ≡ l.fn.prefix ++ scope_from l.fn.quant l.first (l.v - l.first) ∷ []
