use Rattle.aiger_out.proofs.Deltas.{IsBegun}
use Rattle.aiger_out.proofs.gate.push_delta.Given as goal

abbrev pub invariant-loop-rest : goal.invariant-loop-rest
invariant-loop-rest l = IsBegun l.number l.initial.bytes.items l.bytes.items l.rest

abbrev pub decreases-loop-rest : goal.decreases-loop-rest
decreases-loop-rest l = l.rest
