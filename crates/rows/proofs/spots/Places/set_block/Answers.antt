use Rattle.std.specs.Prelude.{vec_capacity}
use Rattle.std.proofs.Common.{◌≡◌, List, Option, is_some, true, length, sym, ap, ◌∙◌}
use Rattle.rows.specs.declared.places.Place.{Place}
use Rattle.rows.specs.declared.slots.Spot.{Spot}
use Rattle.rows.specs.Places.{blocks_of, len_of, place_at, start_of}
use Rattle.rows.proofs.Parts.{some_is}
use Rattle.rows.proofs.Standing.{block_stands, free_inside, free_room, free_within, kept_free, live_standing}
use Rattle.rows.proofs.spots.Places.set_block.Goals as goal

pub write-requires-clause-next : goal.write-requires-clause-next
write-requires-clause-next c = free_within (blocks_of c.self.inside.slots) (length c.self.inside.spots.items)
    (vec_capacity c.self.inside.spots) c.self.invariant c.args.block
    (free_inside c.self.inside.spots.items c.self.inside.slots c.args.self.now c.args.block c.self.view_is
    c.requires.number)

pub write-requires-clause-room : goal.write-requires-clause-room
write-requires-clause-room c = free_room (blocks_of c.self.inside.slots) (length c.self.inside.spots.items)
    (vec_capacity c.self.inside.spots) c.self.invariant c.args.block
    (free_inside c.self.inside.spots.items c.self.inside.slots c.args.self.now c.args.block c.self.view_is
    c.requires.number)

pub invariant_of-self : goal.invariant_of-self
invariant_of-self c =
    let slots = c.self.inside.slots in
    let live : is_some (place_at slots c.args.id) ≡ true =
    sym (live_standing c.self.inside.spots.items slots c.args.id)
    ∙ (ap (λ (ps : List (Option Place)). is_some (place_at ps c.args.id)) c.self.view_is ∙ c.requires.live) in
    let p = some_is (place_at slots c.args.id) live in
    kept_free slots (length c.self.inside.spots.items) (vec_capacity c.self.inside.spots) c.self.invariant
    c.set_block.new.self c.args.id c.args.block p.0 p.1 c.set_block.ensures
    (free_inside c.self.inside.spots.items c.self.inside.slots c.args.self.now c.args.block c.self.view_is
    c.requires.number)
    (length c.write.new.spots.items)
    (vec_capacity c.write.new.spots) c.write.ensures.count c.write.ensures.within c.write.ensures.room

pub returns : goal.returns
returns c =
    block_stands c.self.inside.spots.items c.write.new.spots.items c.self.inside.slots c.set_block.new.self
    c.args.self.now c.args.id c.args.block c.place_of-place.result c.self.view_is c.set_block.ensures
    (free_inside c.self.inside.spots.items c.self.inside.slots c.args.self.now c.args.block c.self.view_is
    c.requires.number).unused
    c.write.ensures.others c.place_of-place.ensures.value
    (ap (λ (s : Spot). start_of s.low s.rest) c.write.ensures.here ∙ c.new.ensures.start)
    (ap (λ (s : Spot). len_of s.rest) c.write.ensures.here ∙ c.new.ensures.len)
