use Rattle.std.proofs.Common.{◌≡◌, ◌++◌}
use Rattle.qcir.proofs.scopes.put_vars.Given as goal

-- the variables so far are put, and the others follow
abbrev pub invariant-loop-v : goal.invariant-loop-v
invariant-loop-v l = l.vars.items ++ l.v-iterator ≡ l.initial.vars.items ++ l.set.keys
