use Rattle.watch.proofs.Laying.{grown_heads, grown_laid, grown_more}
use Rattle.watch.proofs.lists.grow.Goals as goal

pub add_slots-requires-clause-more : goal.add_slots-requires-clause-more
add_slots-requires-clause-more c = grown_more c.first.inside.low c.args.first.now c.first.inside.slots.items
    c.take_room.new.slots.items c.first.inside.entries.items c.take_room.new.entries.items
    c.first.inside.entries.room c.args.vars c.first.view_is c.first.invariant.0 c.first.invariant.1
    c.requires.ones c.take_room.ensures.slots c.take_room.ensures.entries

pub invariant_of-first-2 : goal.invariant_of-first-2
invariant_of-first-2 c = (
  c.first.invariant.0,
  grown_laid c.first.inside.low c.args.first.now c.first.inside.slots.items c.take_room.new.slots.items
      c.first.inside.entries.items c.take_room.new.entries.items c.first.inside.entries.room c.args.vars
      c.first.view_is c.first.invariant.0 c.first.invariant.1 c.requires.ones c.take_room.ensures.slots
      c.take_room.ensures.entries c.add_slots.new.slots.items c.take_room.new.entries.room c.add_slots.ensures
      c.requires.few c.in_ok-take_room.ensures.entries_fit,
)

pub returns-clause-ones : goal.returns-clause-ones
returns-clause-ones c = grown_heads c.first.inside.low c.args.first.now c.first.inside.slots.items
    c.take_room.new.slots.items c.first.inside.entries.items c.take_room.new.entries.items
    c.first.inside.entries.room c.args.vars c.first.view_is c.first.invariant.0 c.first.invariant.1
    c.requires.ones c.take_room.ensures.slots c.take_room.ensures.entries c.add_slots.new.slots.items
    c.add_slots.ensures

pub add_slots-requires-2-clause-more : goal.add_slots-requires-2-clause-more
add_slots-requires-2-clause-more c = grown_more c.second.inside.low c.args.second.now c.second.inside.slots.items
    c.take_room-2.new.slots.items c.second.inside.entries.items c.take_room-2.new.entries.items
    c.second.inside.entries.room c.args.vars c.second.view_is c.second.invariant.0 c.second.invariant.1
    c.requires.twos c.take_room-2.ensures.slots c.take_room-2.ensures.entries

pub invariant_of-second-2 : goal.invariant_of-second-2
invariant_of-second-2 c = (
  c.second.invariant.0,
  grown_laid c.second.inside.low c.args.second.now c.second.inside.slots.items c.take_room-2.new.slots.items
      c.second.inside.entries.items c.take_room-2.new.entries.items c.second.inside.entries.room c.args.vars
      c.second.view_is c.second.invariant.0 c.second.invariant.1 c.requires.twos c.take_room-2.ensures.slots
      c.take_room-2.ensures.entries c.add_slots-2.new.slots.items c.take_room-2.new.entries.room
      c.add_slots-2.ensures c.requires.few c.in_ok-take_room-2.ensures.entries_fit,
)

pub returns-clause-twos : goal.returns-clause-twos
returns-clause-twos c = grown_heads c.second.inside.low c.args.second.now c.second.inside.slots.items
    c.take_room-2.new.slots.items c.second.inside.entries.items c.take_room-2.new.entries.items
    c.second.inside.entries.room c.args.vars c.second.view_is c.second.invariant.0 c.second.invariant.1
    c.requires.twos c.take_room-2.ensures.slots c.take_room-2.ensures.entries c.add_slots-2.new.slots.items
    c.add_slots-2.ensures
