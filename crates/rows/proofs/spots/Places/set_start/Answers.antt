use Rattle.std.specs.Prelude.{vec_capacity}
use Rattle.std.proofs.Common.{Some, length, ap, ◌∙◌}
use Rattle.rows.proofs.Blocking.{block_there}
use Rattle.rows.proofs.Standing.{kept_moved, own_moves, spot_moves}
use Rattle.rows.proofs.spots.Places.set_start.Goals as goal

pub move_to-requires-clause-within : goal.move_to-requires-clause-within
move_to-requires-clause-within c =
    c.self.invariant.given c.args.id c.in-Some.block
    (block_there c.self.inside.slots c.args.id c.place_of.result c.place_of.ensures.value ∙ ap Some c.in-Some.is)

pub invariant_of-self : goal.invariant_of-self
invariant_of-self c = kept_moved c.self.inside.slots (length c.self.inside.spots.items)
    (vec_capacity c.self.inside.spots) c.self.invariant c.set_start.new.self c.args.id c.args.start c.place_of.result
    c.place_of.ensures.value c.set_start.ensures

pub returns-in-None : goal.returns-in-None
returns-in-None c = own_moves c.self.inside.spots.items c.self.inside.slots c.set_start.new.self c.args.self.now
    c.args.id c.args.start c.place_of.result c.self.view_is c.place_of.ensures.value c.in-None.is c.set_start.ensures

pub returns-in-Some : goal.returns-in-Some
returns-in-Some c = spot_moves c.self.inside.spots.items c.move_to.new.spots.items c.self.inside.slots c.args.self.now
    (length c.self.inside.spots.items) (vec_capacity c.self.inside.spots) c.args.id c.in-Some.block c.args.start
    c.place_of.result c.self.invariant c.self.view_is c.place_of.ensures.value c.in-Some.is c.move_to.ensures.start
    c.move_to.ensures.len c.move_to.ensures.others
