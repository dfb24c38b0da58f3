use Rattle.std.proofs.Common.{◌≡◌, ◌++◌}
use Rattle.extract.proofs.circuit.push_scope.Given as goal

-- the variables so far are put, and the others follow
abbrev pub invariant-loop-v : goal.invariant-loop-v
invariant-loop-v l = l.vars.items ++ l.v-iterator ≡ l.initial.vars.items ++ l.scope.keys
