use Rattle.std.proofs.Common.{arith}
use Rattle.certcheck.proofs.Groups.{any_gate, gates_step}
use Rattle.certcheck.proofs.put.put_gates.Goals as goal

pub loop-place-preserved : goal.loop-place-preserved
loop-place-preserved c = record {
  adds = gates_step c.args.build.now c.loop-place.build c.put_gate.new.build c.args.aig.now.inputs
      c.args.aig.now.gates c.loop-place.place any_gate
      (omega (arith, c.gates-place-end.ensures.count)) c.loop-place.invariant.adds
      (c.in_ok-put_gate.ensures.adds any_gate);
  empty = c.in_ok-put_gate.ensures.empty;
}
