use Rattle.std.proofs.Common.{◌≡◌, ◌∷◌, ◌++◌, [], take}
use Rattle.builder.specs.NewScope.{scope_of}
use Rattle.qcir.proofs.scopes.add_scope.Given as goal

-- the variables so far stand in the last scope
abbrev pub invariant-loop-v : goal.invariant-loop-v
invariant-loop-v l = l.prefix ≡ l.fn.prefix ++ scope_of l.fn.quant (take l.v-index l.vars) ∷ []
