use Rattle.frames.proofs.Placing.{place_is}
use Rattle.frames.proofs.frames.Frames.place_of.Goals as goal

pub returns : goal.returns
returns c =
    rw (← c.self.view_is) (place_is c.self.inside.groups.groups c.args.group c.find.result c.ok.result
    c.ok.ensures.value c.find.ensures.found c.find.ensures.absent)
