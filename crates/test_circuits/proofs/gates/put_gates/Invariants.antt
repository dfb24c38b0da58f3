use Rattle.std.proofs.Common.{◌≡◌, All}
use Rattle.aig.specs.Circuits.{IsEdge}
use Rattle.test_circuits.proofs.gates.put_gates.Given as goal

abbrev pub invariant-loop-gate : goal.invariant-loop-gate
invariant-loop-gate l =
    record { edges : All (IsEdge l.aig) l.edges.items; inputs : l.aig.inputs ≡ l.initial.aig.inputs }
