use Rattle.std.proofs.Common.{◌≡◌, ◌*◌, ◌/◌, length, arith}
use Rattle.watch.proofs.Laying.{few_entries, given_fits, given_heads, given_laid, given_one}
use Rattle.watch.proofs.lists.add_entries.Goals as goal
use Rattle.watch.proofs.lists.add_entries.Goals.{After-push_none}

pub overflow_cast-len : goal.overflow_cast-len
overflow_cast-len c =
    let few = few_entries c.args.slots.now.items c.args.entries.now.items _ c.requires.laid in
    omega (arith, few, c.len.ensures)

pub push_none-requires : goal.push_none-requires
push_none-requires c =
    let last : 4 * (c.len.result / 4) ≡ length c.args.entries.now.items =
    omega (arith, c.len.ensures, c.requires.laid.counted) in
    given_fits c.args.slots.now.items c.args.entries.now.items c.args.entries.now.room c.requires.laid c.args.i
    (c.len.result / 4) c.requires.within c.requires.none last

last : (c : After-push_none) → 4 * (c.len.result / 4) ≡ length c.args.entries.now.items
last c = omega (arith, c.len.ensures, c.requires.laid.counted)

pub returns-clause-laid : goal.returns-clause-laid
returns-clause-laid c = given_laid c.args.slots.now.items c.args.entries.now.items c.args.entries.now.room
    c.requires.laid c.args.i (c.len.result / 4) c.requires.within c.requires.none (last c)
    c.push_none.new.self.items c.push_none.new.self.room c.push_none.ensures.items c.push_none.ensures.room

pub returns-clause-given : goal.returns-clause-given
returns-clause-given c = given_one c.args.slots.now.items c.args.entries.now.items c.args.entries.now.room
    c.requires.laid c.args.i (c.len.result / 4) c.requires.within c.requires.none (last c)

pub returns-clause-heads : goal.returns-clause-heads
returns-clause-heads c = given_heads c.args.slots.now.items c.args.entries.now.items c.args.entries.now.room
    c.requires.laid c.args.i (c.len.result / 4) c.requires.within c.requires.none (last c)
    c.push_none.new.self.items c.push_none.ensures.items
