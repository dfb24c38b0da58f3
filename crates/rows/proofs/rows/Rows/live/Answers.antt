use Rattle.std.proofs.Common.{ap, ◌∙◌, length}
use Rattle.std.specs.Prelude.{count_by, is_some}
use Rattle.rows.proofs.Storing.{live_counted}
use Rattle.rows.proofs.rows.Rows.live.Goals as goal

pub returns : goal.returns
returns c = live_counted (length c.self.inside.lits.items) c.self.inside.lits.items c.self.inside.places
    c.self.inside.blocks.items c.self.inside.live c.self.inside.blocks.room c.self.invariant
    ∙ ap (count_by is_some) c.self.view_is
