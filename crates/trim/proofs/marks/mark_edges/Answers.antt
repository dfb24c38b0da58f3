use Rattle.std.proofs.Common.{get_or, refl, arith}
use Rattle.trim.proofs.Moves.{edge_known, node_known}
use Rattle.trim.proofs.Rebuilding.{any_gate}
use Rattle.trim.proofs.marks.mark_edges.Goals as goal

pub mark-requires-clause-edge : goal.mark-requires-clause-edge
mark-requires-clause-edge c =
    edge_known c.args.aig.now c.args.place c.gate.result.0 (omega arith)
    (node_known c.args.aig.now.inputs c.args.place c.args.place c.gate.result.0
    (get_or c.args.aig.now.gates c.args.place any_gate).left (c.gate.ensures.proper any_gate).left_stands
    (c.gate.ensures.edges any_gate).0 refl)

pub mark-requires-2-clause-edge : goal.mark-requires-2-clause-edge
mark-requires-2-clause-edge c =
    edge_known c.args.aig.now c.args.place c.gate.result.1 (omega arith)
    (node_known c.args.aig.now.inputs c.args.place c.args.place c.gate.result.1
    (get_or c.args.aig.now.gates c.args.place any_gate).right (c.gate.ensures.proper any_gate).right_stands
    (c.gate.ensures.edges any_gate).1 refl)
