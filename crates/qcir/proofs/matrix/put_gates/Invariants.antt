use Rattle.std.proofs.Common.{◌≡◌, ◌++◌, take}
use Rattle.std.specs.List.{flat_map}
use Rattle.qcir.specs.Translation.{gate_clauses, rows_of}
use Rattle.qcir.proofs.matrix.put_gates.Given as goal

-- the rows of the gates so far are put
abbrev pub invariant-loop-gate : goal.invariant-loop-gate
invariant-loop-gate l =
    l.rows.items ≡ l.initial.rows.items ++ rows_of (flat_map gate_clauses (take l.gate-index l.gates))
