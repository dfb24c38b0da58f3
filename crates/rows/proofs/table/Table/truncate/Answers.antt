use Rattle.std.proofs.Common.{◌-◌, List, Option, take, ap, ◌∙◌, arith}
use Rattle.rows.specs.declared.places.Place.{Place}
use Rattle.rows.specs.Places.{around_gone}
use Rattle.rows.proofs.Gone.{taken_back, taken_gap}
use Rattle.rows.proofs.table.Table.truncate.Goals as goal

pub returns-then-count-self-2 : goal.returns-then-count-self-2
returns-then-count-self-2 c =
    let t = c.self.inside in
    let count = c.args.count in
    ap (around_gone t.split (count - t.split)) c.truncate-then-count-self-2.ensures.items
    ∙ (taken_gap t.split t.gone t.slots.items c.self.invariant.0 count (omega arith) (omega arith)
    ∙ ap (λ (ps : List (Option Place)). take count ps) c.self.view_is)

pub returns-else-count-self-2 : goal.returns-else-count-self-2
returns-else-count-self-2 c =
    let t = c.self.inside in
    let count = c.args.count in
    ap (around_gone t.split t.gone) c.truncate-else-count-self-2.ensures.items
    ∙ (taken_back t.split t.gone t.slots.items c.self.invariant.0 count (omega arith)
    ∙ ap (λ (ps : List (Option Place)). take count ps) c.self.view_is)
