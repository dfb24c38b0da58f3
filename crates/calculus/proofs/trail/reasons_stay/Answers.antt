use Rattle.calculus.proofs.Fronts.{clean_more}
use Rattle.calculus.proofs.TrailLaws.{clean_cut}
use Rattle.calculus.proofs.trail.reasons_stay.Goals as goal

pub returns : goal.returns
returns c = record { grows = clean_more; cut = clean_cut }
