use Rattle.std.proofs.Common.{length, get_or, sym, ap, subst, ◌∙◌}
use Rattle.aig.specs.Circuits.{IsEdge}
use Rattle.trim.specs.Marks.{through}
use Rattle.trim.proofs.Moves.{node_known}
use Rattle.trim.proofs.Rebuilding.{any_gate, left_is, left_stands, rebuilds_by, rebuilds_same, right_is, right_stands}
use Rattle.trim.proofs.gates.next_edge.Goals as goal

pub returns-then-not-marks-place : goal.returns-then-not-marks-place
returns-then-not-marks-place c =
    rebuilds_same c.args.s.now.aig c.args.marks.now c.args.place c.args.table.now c.args.aig.now c.constant.result
    c.if-not-marks-place.true c.requires.before

pub moved-a-requires-clause-known : goal.moved-a-requires-clause-known
moved-a-requires-clause-known c =
    node_known c.args.s.now.aig.inputs c.args.place (length c.args.table.now) c.gate.result.0
    (get_or c.args.s.now.aig.gates c.args.place any_gate).left (c.gate.ensures.proper any_gate).left_stands
    (c.gate.ensures.edges any_gate).0 c.requires.before.len

pub moved-b-requires-clause-known : goal.moved-b-requires-clause-known
moved-b-requires-clause-known c =
    node_known c.args.s.now.aig.inputs c.args.place (length c.args.table.now) c.gate.result.1
    (get_or c.args.s.now.aig.gates c.args.place any_gate).right (c.gate.ensures.proper any_gate).right_stands
    (c.gate.ensures.edges any_gate).1 c.requires.before.len

pub and-requires-clause-first : goal.and-requires-clause-first
and-requires-clause-first c =
    subst (IsEdge c.args.aig.now)
    (sym (c.moved-a.ensures ∙ ap (through c.args.table.now) (c.gate.ensures.edges any_gate).0
    ∙ left_is c.args.s.now c.args.marks.now c.args.place c.args.table.now c.args.aig.now c.requires.gates
    c.requires.marks c.requires.before any_gate c.requires.place c.if-not-marks-place.false))
    (left_stands c.args.s.now c.args.marks.now c.args.place c.args.table.now c.args.aig.now c.requires.gates
    c.requires.marks c.requires.before any_gate c.requires.place c.if-not-marks-place.false)

pub and-requires-clause-second : goal.and-requires-clause-second
and-requires-clause-second c =
    subst (IsEdge c.args.aig.now)
    (sym (c.moved-b.ensures ∙ ap (through c.args.table.now) (c.gate.ensures.edges any_gate).1
    ∙ right_is c.args.s.now c.args.marks.now c.args.place c.args.table.now c.args.aig.now c.requires.gates
    c.requires.marks c.requires.before any_gate c.requires.place c.if-not-marks-place.false))
    (right_stands c.args.s.now c.args.marks.now c.args.place c.args.table.now c.args.aig.now c.requires.gates
    c.requires.marks c.requires.before any_gate c.requires.place c.if-not-marks-place.false)

pub returns : goal.returns
returns c =
    rebuilds_by c.args.s.now c.args.marks.now c.args.place c.args.table.now c.args.aig.now c.requires.gates
    c.requires.marks c.requires.before any_gate c.requires.place c.if-not-marks-place.false
    c.and.result c.and.new.self c.moved-a.result c.moved-b.result
    (c.moved-a.ensures ∙ ap (through c.args.table.now) (c.gate.ensures.edges any_gate).0
    ∙ left_is c.args.s.now c.args.marks.now c.args.place c.args.table.now c.args.aig.now c.requires.gates
    c.requires.marks c.requires.before any_gate c.requires.place c.if-not-marks-place.false)
    (c.moved-b.ensures ∙ ap (through c.args.table.now) (c.gate.ensures.edges any_gate).1
    ∙ right_is c.args.s.now c.args.marks.now c.args.place c.args.table.now c.args.aig.now c.requires.gates
    c.requires.marks c.requires.before any_gate c.requires.place c.if-not-marks-place.false)
    c.and.ensures.value c.and.ensures.makes c.and.ensures.grows
