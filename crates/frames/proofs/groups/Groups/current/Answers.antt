use Rattle.std.proofs.Common.{length, refl, arith}
use Rattle.std.proofs.lemmas.Option.{slice_get_read}
use Rattle.frames.proofs.Placing.{number_here, placed_low}
use Rattle.frames.proofs.groups.Groups.current.Goals as goal

pub index-requires : goal.index-requires
index-requires c =
    let low = placed_low c.self.inside.groups.items c.self.inside.current c.in-Some.place c.in-Some.is
    c.self.invariant.placed in
    omega (arith, low, c.self.inside.groups.ok.0)

pub returns-in-Some : goal.returns-in-Some
returns-in-Some c =
    let low = placed_low c.self.inside.groups.items c.self.inside.current c.in-Some.place c.in-Some.is
    c.self.invariant.placed in
    rw (← c.self.view_is) (number_here c.self.inside.groups.items c.self.inside.current c.in-Some.place
    c.number.result c.index.result.now c.in-Some.is
    (slice_get_read c.self.inside.groups.items (length c.self.inside.groups.items) c.in-Some.place
    c.index.result.now refl low c.index.ensures) c.number.ensures)
