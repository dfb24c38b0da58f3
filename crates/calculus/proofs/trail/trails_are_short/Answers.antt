use Rattle.calculus.proofs.Fronts.{short_of}
use Rattle.calculus.proofs.Sizes.{trail_length}
use Rattle.calculus.proofs.Weighing.{light_trail}
use Rattle.calculus.proofs.trail.trails_are_short.Goals as goal

pub returns : goal.returns
returns c = record { few = trail_length; room = short_of; light = light_trail }
