use Rattle.std.proofs.Common.{◌≡◌, ℕ, ◌+◌, ◌-◌, ◌<◌, length, subst, arith}
use Rattle.trim.specs.Marks.{AreMarks}
use Rattle.trim.proofs.Marking.{marks_gate}
use Rattle.trim.proofs.Rebuilding.{any_gate}
use Rattle.trim.proofs.marks.mark_gates.Goals as goal

pub loop-left-preserved : goal.loop-left-preserved
loop-left-preserved c =
    let i = c.loop-left.left - 1 in
    let test : 0 < c.loop-left.left = omega arith in
    let more : c.loop-left.left ≡ i + 1 = omega arith in
    let below : i < length c.args.s.now.aig.gates = omega arith in
    record {
      marks = marks_gate c.args.s.now c.args.s.now.outputs i c.loop-left.marks.items c.mark_edges.new.marks.items
          below c.gates-left.ensures.proper.proper c.mark_edges.ensures.marks
          (subst (λ (k : ℕ). AreMarks c.args.s.now c.args.s.now.outputs k c.loop-left.marks.items) more
          c.loop-left.invariant.marks) c.mark_edges.ensures.room any_gate;
      within = omega arith;
    }
