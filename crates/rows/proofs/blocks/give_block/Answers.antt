use Rattle.std.proofs.Common.{subst, sym, arith}
use Rattle.rows.specs.Places.{blocks_of}
use Rattle.rows.specs.Spots.{IsFirstFree}
use Rattle.rows.proofs.Blocking.{count_less}
use Rattle.rows.proofs.Standing.{free_given}
use Rattle.rows.proofs.blocks.give_block.Goals as goal

pub push-requires : goal.push-requires
push-requires c =
    let fewer = count_less (blocks_of c.args.places.now) c.args.id c.requires.live in
    let count = c.requires.blocks.counted in
    let room = c.requires.room in
    let few = c.requires.few in
    record { room = omega arith; few = omega arith }

pub set_block-requires-clause-number : goal.set_block-requires-clause-number
set_block-requires-clause-number c =
    let rows = blocks_of c.args.places.now in
    subst (λ n. IsFirstFree rows n) (sym c.len-block.ensures)
    (free_given rows c.args.blocks.now.items c.requires.blocks c.args.id c.requires.live c.requires.few)
