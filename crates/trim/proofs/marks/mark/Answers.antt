use Rattle.std.proofs.Common.{◌≡◌, ◌<◌, length, arith}
use Rattle.trim.proofs.Marking.{mark_set}
use Rattle.trim.proofs.Moves.{gate_below}
use Rattle.trim.proofs.marks.mark.Goals as goal

pub index_mut-requires : goal.index_mut-requires
index_mut-requires c =
    let low : c.in-Some.place < length c.args.aig.now.gates =
    gate_below c.args.aig.now c.args.e c.in-Some.place c.requires.edge c.in-Some.ensures in
    grind (arith, c.args.marks.now.ok.0)

pub returns-in-Some-clause-marks : goal.returns-in-Some-clause-marks
returns-in-Some-clause-marks c = λ j.
    let low : c.in-Some.place < length c.args.aig.now.gates =
    gate_below c.args.aig.now c.args.e c.in-Some.place c.requires.edge c.in-Some.ensures in
    let room : length c.args.marks.now.items ≡ length c.args.aig.now.gates = c.requires.room in
    mark_set c.args.marks.now.items c.in-Some.place j c.args.e.node (omega arith) c.in-Some.ensures
