use Rattle.std.proofs.Common.{◌+◌, arith, ◌∙◌}
use Rattle.derive.proofs.Sweeps.{marked_more, marked_skip, under_from}
use Rattle.derive.proofs.sweeping.mark_down.Goals as goal

pub loop-id-preserved : goal.loop-id-preserved
loop-id-preserved c =
    let notes = c.args.notes.now in
    let id = c.in-Some.id in
    let found = c.in-Some.ensures.some in (
      (λ keep m.
          marked_more keep notes c.loop-id.marks c.mark_under.new.marks id (id + 1) c.requires.supported (omega arith)
          (marked_skip keep notes c.loop-id.marks c.loop-id.above (id + 1)
          (λ i high low. found.between i (omega arith) low)
          (c.loop-id.invariant.0 keep m))
          (under_from notes id c.loop-id.marks c.mark_under.new.marks c.mark_under.ensures.value)),
      c.mark_under.ensures.count ∙ c.loop-id.invariant.1,
    )

pub returns-clause-marked : goal.returns-clause-marked
returns-clause-marked c keep m =
    marked_skip keep c.args.notes.now c.loop-id.marks c.loop-id.above 0 (λ i high low. c.in_default.ensures.none i low)
    (c.loop-id.invariant.0 keep m)
