use Rattle.std.proofs.Common.{length, arith, ap, ◌∙◌}
use Rattle.std.proofs.lemmas.List.{length-replicate}
use Rattle.derive.proofs.Sweeps.{live_given, marked_named}
use Rattle.derive.proofs.sweeping.mark.Goals as goal

pub mark_named-requires : goal.mark_named-requires
mark_named-requires c id at =
    let given = live_given c.args.notes.now id (c.requires.live id at) in
    let room = c.requires.room in
    let same = ap length c.clear.ensures ∙ length-replicate _ _ in
    omega arith

pub returns-clause-marked : goal.returns-clause-marked
returns-clause-marked c =
    c.mark_down.ensures.marked c.args.keep.now
    (marked_named c.args.keep.now c.args.notes.now c.clear.new.self c.mark_named.new.marks (length c.args.marks.now)
    c.clear.ensures c.mark_named.ensures.named)
