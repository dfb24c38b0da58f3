use Rattle.std.proofs.Common.{◌≤◌, take, get_or, sym, ◌∙◌, arith}
use Rattle.derive.specs.Roots.{is_root}
use Rattle.derive.proofs.Missed.{none_all, none_below, none_more}
use Rattle.derive.proofs.cubes.first_cube.Goals as goal
use Rattle.derive.proofs.cubes.first_cube.Goals.{then-id-first+then-is_root, else-id-first, else-id-first-via-then-id-first+else-is_root, else-id-first-via-else-id-first}

pub loop-id-preserved : goal.loop-id-preserved
loop-id-preserved c =
    let test = is_root c.args.roots.now c.args.rows.now in
    elim c.if-id-first.branch [
      | then-id-first+then-is_root w ↦
          let le : get_or c.args.cubes.now c.loop-id.id-index 0 ≤ c.loop-id.first = omega arith in
          rw (w.first-is) (none_more test c.args.notes.now c.args.cubes.now c.loop-id.id-index _ (omega arith)
          (λ below. absurd (omega arith))
          (none_below test c.args.notes.now (take c.loop-id.id-index c.args.cubes.now) c.loop-id.first
          (get_or c.args.cubes.now c.loop-id.id-index 0) le c.loop-id.invariant))
      | else-id-first w ↦
          rw (w.first-is) (none_more test c.args.notes.now c.args.cubes.now c.loop-id.id-index c.loop-id.first
          (omega arith)
          (elim w.else-id-first.branch [
            | else-id-first-via-then-id-first+else-is_root v ↦ λ below. sym v.is_root.ensures ∙ v.if-is_root.false
            | else-id-first-via-else-id-first v ↦ λ below. absurd (omega arith)
          ])
          c.loop-id.invariant)
    ]

pub returns : goal.returns
returns c = none_all (is_root c.args.roots.now c.args.rows.now) c.args.notes.now c.args.cubes.now
    c.loop-id.id-index c.loop-id.first c.requires.cubes (omega arith) c.requires.listed c.loop-id.invariant
