use Rattle.std.proofs.Common.{◌≡◌, ◌-◌, List, Option, Some, is_some, set, true, ap, ◌∙◌}
use Rattle.rows.specs.declared.places.Place.{Place}
use Rattle.rows.specs.Places.{around_gone, only_block, place_at}
use Rattle.rows.proofs.Gone.{Before, live_set}
use Rattle.rows.proofs.table.Table.set_block.Goals as goal

pub returns : goal.returns
returns c =
    let t = c.self.inside in
    let id = c.args.id in
    let before = c.gone_before.result in
    let is : Before t.split t.gone id before = (c.gone_before.ensures.front, c.gone_before.ensures.behind) in
    let live : is_some (place_at (around_gone t.split t.gone t.slots.items) id) ≡ true =
    ap (λ (ps : List (Option Place)). is_some (place_at ps id)) c.self.view_is ∙ c.requires.live in
    ap (λ (o : Option Place). around_gone t.split t.gone (set t.slots.items (id - before) o)) c.set_block.ensures
    ∙ (live_set t.split t.gone id before t.slots.items c.self.invariant.0 is live (Some (only_block c.args.block))
    ∙ ap (λ (ps : List (Option Place)). set ps id (Some (only_block c.args.block))) c.self.view_is)
