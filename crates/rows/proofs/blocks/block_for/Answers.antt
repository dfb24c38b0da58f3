use Rattle.std.proofs.Common.{◌≡◌, ℕ, List, length, set, Option, Some, None, is_some, ap, sym, subst, ◌∙◌}
use Rattle.std.specs.Prelude.{count_by}
use Rattle.rows.specs.Places.{blocks_of}
use Rattle.rows.specs.Blocks.{Block, AreBlocks, block_in}
use Rattle.rows.proofs.Blocking.{block_there, blocks_given, live_given}
use Rattle.rows.proofs.blocks.block_for.Goals as goal

pub returns-in-None-clause-blocks : goal.returns-in-None-clause-blocks
returns-in-None-clause-blocks c =
    let rows = blocks_of c.args.places.now in
    let blocks = c.args.blocks.now.items in
    let there : block_in rows c.args.id ≡ Some None = block_there c.args.places.now c.args.id c.place_of.result
    c.place_of.ensures.value ∙ ap Some c.in-None.is in
    let rows_are : blocks_of c.give_block.new.places ≡ set rows c.args.id (Some (Some (length blocks))) =
    c.give_block.ensures.block ∙ ap (λ n. set rows c.args.id (Some (Some n))) c.give_block.ensures.result in
    let P : List Block → Type 0 = λ bs. AreBlocks (set rows c.args.id (Some (Some (length blocks)))) bs in
    let Q : List (Option (Option ℕ)) → Type 0 = λ rs. AreBlocks rs c.give_block.new.blocks.items in
    subst Q (sym rows_are)
    (subst P (sym c.give_block.ensures.blocks) (blocks_given rows blocks c.requires.blocks c.args.id there))

pub returns-in-None-clause-live : goal.returns-in-None-clause-live
returns-in-None-clause-live c =
    let rows = blocks_of c.args.places.now in
    let blocks = c.args.blocks.now.items in
    let there : block_in rows c.args.id ≡ Some None = block_there c.args.places.now c.args.id c.place_of.result
    c.place_of.ensures.value ∙ ap Some c.in-None.is in
    let rows_are : blocks_of c.give_block.new.places ≡ set rows c.args.id (Some (Some (length blocks))) =
    c.give_block.ensures.block ∙ ap (λ n. set rows c.args.id (Some (Some n))) c.give_block.ensures.result in
    ap (λ (rs : List (Option (Option ℕ))). count_by is_some rs) rows_are ∙ live_given rows blocks c.requires.blocks
    c.args.id there
