use Rattle.std.proofs.Common.{subst}
use Rattle.trail.specs.State.{HasRoom, TrailState}
use Rattle.trail.proofs.Tables.{table_room}
use Rattle.std.proofs.Common.{vec_capacity}
use Rattle.trail.proofs.trail.Trail.room.Goals as goal

pub returns-clause-reserved : goal.returns-clause-reserved
returns-clause-reserved c =
    let room = table_room c.self.inside.entries.items c.self.inside.spots (vec_capacity c.self.inside.entries)
    c.self.invariant.0 in
    let P : TrailState → Type 0 = HasRoom in
    subst P c.self.view_is (record { count = room.0; variables = room.1 })
