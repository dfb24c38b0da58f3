use Rattle.std.proofs.Common.{◌≡◌, ◌++◌, take}
use Rattle.qcir.specs.Truth.{gate_names}
use Rattle.qcir.proofs.scopes.put_names.Given as goal

-- the variables of the gates so far are put
abbrev pub invariant-loop-gate : goal.invariant-loop-gate
invariant-loop-gate l = l.vars.items ≡ l.initial.vars.items ++ gate_names (take l.gate-index l.gates)
