use Rattle.std.proofs.Common.{List, Option, subst}
use Rattle.rows.specs.declared.places.Place.{Place}
use Rattle.rows.specs.Places.{AreDead}
use Rattle.rows.proofs.Standing.{dead_standing}
use Rattle.rows.proofs.spots.Places.gap.Goals as goal

pub returns : goal.returns
returns c =
    let P : List (Option Place) → Type 0 = λ ps. AreDead ps c.gap.result.start c.gap.result.end in
    subst P c.self.view_is
    (dead_standing c.self.inside.spots.items c.self.inside.slots c.gap.result.start c.gap.result.end c.gap.ensures)
