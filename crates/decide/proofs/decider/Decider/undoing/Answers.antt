use Rattle.std.proofs.Common.{◌+◌, drop, sym, ap, ◌∙◌}
use Rattle.calculus.specs.Search.{literals_on}
use Rattle.decide.specs.Memory.{saved}
use Rattle.decide.proofs.Remembering.{saved_next}
use Rattle.decide.proofs.decider.Decider.undoing.Goals as goal

pub loop-place-preserved : goal.loop-place-preserved
loop-place-preserved c =
    let literals = literals_on c.args.trail.now.placed in
    ap (saved (drop (c.loop-place.place + 1) literals)) c.put_back.ensures
    ∙ (sym (saved_next literals c.loop-place.place c.at.result c.loop-place.self c.at.ensures.literal)
    ∙ c.loop-place.invariant)
