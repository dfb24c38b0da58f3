use Rattle.qcir.proofs.Putting.{gates_step}
use Rattle.qcir.proofs.matrix.put_gates.Goals as goal

pub loop-gate-preserved : goal.loop-gate-preserved
loop-gate-preserved c =
    gates_step c.args.gates.now c.loop-gate.gate-index c.gate-item.result c.args.rows.now.items c.loop-gate.rows.items
    c.put_gate.new.rows.items c.loop-gate-test.true c.gate-item.is c.loop-gate.invariant c.in_ok-put_gate.ensures
