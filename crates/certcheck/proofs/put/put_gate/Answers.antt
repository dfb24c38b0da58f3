use Rattle.std.proofs.Common.{◌<◌, arith}
use Rattle.certcheck.proofs.Groups.{any_gate, left_small, right_small}
use Rattle.certcheck.proofs.put.put_gate.Goals as goal

pub overflow_cast-a : goal.overflow_cast-a
overflow_cast-a c =
    let small : c.number-a.result < 2097154 =
    left_small c.args.aig.now.inputs c.args.place c.args.aig.now.gates c.gate.result.0 c.inputs-inputs.result
    c.number-a.result
    (c.gate.ensures.proper any_gate) c.requires.place c.requires.small
    (c.gate.ensures.edges any_gate).0 c.inputs-inputs.ensures c.number-a.ensures in
    omega (arith, small)

pub overflow_cast-b : goal.overflow_cast-b
overflow_cast-b c =
    let small : c.number-b.result < 2097154 =
    right_small c.args.aig.now.inputs c.args.place c.args.aig.now.gates c.gate.result.1 c.inputs-inputs.result
    c.number-b.result
    (c.gate.ensures.proper any_gate) c.requires.place c.requires.small
    (c.gate.ensures.edges any_gate).1 c.inputs-inputs.ensures c.number-b.ensures in
    omega (arith, small)

pub put_conjunction-requires-clause-first : goal.put_conjunction-requires-clause-first
put_conjunction-requires-clause-first c =
    left_small c.args.aig.now.inputs c.args.place c.args.aig.now.gates c.gate.result.0 c.inputs-inputs.result
    c.number-a.result (c.gate.ensures.proper any_gate) c.requires.place c.requires.small
    (c.gate.ensures.edges any_gate).0 c.inputs-inputs.ensures c.number-a.ensures

pub put_conjunction-requires-clause-second : goal.put_conjunction-requires-clause-second
put_conjunction-requires-clause-second c =
    right_small c.args.aig.now.inputs c.args.place c.args.aig.now.gates c.gate.result.1 c.inputs-inputs.result
    c.number-b.result (c.gate.ensures.proper any_gate) c.requires.place c.requires.small
    (c.gate.ensures.edges any_gate).1 c.inputs-inputs.ensures c.number-b.ensures
