use Rattle.std.proofs.Common.{All}
use Rattle.aig.specs.Circuits.{IsEdge}
use Rattle.aig.specs.declared.strategy.Output.{Output}
use Rattle.test_circuits.proofs.gates.put_outputs.Given as goal

abbrev pub invariant-loop-var : goal.invariant-loop-var
invariant-loop-var l = All (λ (o : Output). IsEdge l.aig o.edge) l.list.items
