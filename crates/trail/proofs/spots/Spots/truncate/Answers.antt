use Rattle.std.proofs.Common.{take, ap, ap₂, ◌∙◌}
use Rattle.trail.specs.Spots.{spots_of}
use Rattle.trail.proofs.Spotting.{spots_taken}
use Rattle.trail.proofs.spots.Spots.truncate.Goals as goal

pub returns : goal.returns
returns c =
    ap₂ spots_of c.truncate.ensures.items c.truncate-2.ensures.items
    ∙ (spots_taken c.self.inside.values.items c.self.inside.places.items c.args.count c.self.invariant.0
    ∙ ap (take c.args.count) c.self.view_is)
