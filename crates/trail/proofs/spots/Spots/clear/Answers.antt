use Rattle.std.proofs.Common.{None, set, ap, ◌∙◌}
use Rattle.trail.proofs.Spotting.{spot_cleared}
use Rattle.trail.proofs.spots.Spots.clear.Goals as goal

pub returns : goal.returns
returns c =
    spot_cleared c.self.inside.values.items c.self.inside.places.items c.args.index 4294967295 c.self.invariant.0
    ∙ ap (λ xs. set xs c.args.index None) c.self.view_is
