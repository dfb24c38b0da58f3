use Rattle.std.proofs.Common.{◌≡◌, ◌≢◌, ℕ, ◌+◌, ◌-◌, ◌<◌, ◌≤◌, List, length, set, Option, Some, None, is_some, ap, sym, subst, ◌∙◌, arith}
use Rattle.std.specs.Prelude.{count_by}
use Rattle.std.specs.Option.{option_map}
use Rattle.std.proofs.lemmas.List.{map-set, get_or-set_other}
use Rattle.rows.specs.declared.places.Place.{Place}
use Rattle.rows.specs.Places.{blocks_of, place_at}
use Rattle.rows.specs.Blocks.{Block, LosesBlock, block_at, block_in}
use Rattle.rows.specs.Spots.{IsFirstFree}
use Rattle.rows.proofs.Blocking.{block_there, live_block, live_less, live_swapped, loses_last, loses_none, loses_swapped, owner_row, owner_differs}
use Rattle.rows.proofs.Standing.{free_again}
use Rattle.rows.proofs.blocks.forget.Goals as goal

abbrev Rows : Type 0
Rows = List (Option (Option ℕ))

gone : (places : List (Option Place)) (id : ℕ) (new : List (Option Place)) → new ≡ set places id None
    → blocks_of new ≡ set (blocks_of places) id None
gone places id new e = ap (λ (ps : List (Option Place)). blocks_of ps) e
    ∙ map-set (option_map (λ (p : Place). p.block)) places id None

pub returns-in_default-clause-loses : goal.returns-in_default-clause-loses
returns-in_default-clause-loses c =
    let places = c.args.places.now in
    let blocks = c.args.blocks.now.items in
    let none : c.place_of-place.result.block ≡ None = c.in_default.is in
    let there : block_in (blocks_of places) c.args.id ≡ Some None = block_there places c.args.id c.place_of-place.result
    c.place_of-place.ensures.value ∙ ap Some none in
    let P : Rows → Type 0 = λ rows. LosesBlock (blocks_of places) blocks rows blocks c.args.id in
    subst P (sym (gone places c.args.id c.clear.new.self c.clear.ensures))
    (loses_none (blocks_of places) blocks c.args.id c.requires.blocks there)

pub returns-in_default-clause-live : goal.returns-in_default-clause-live
returns-in_default-clause-live c =
    let places = c.args.places.now in
    let none : c.place_of-place.result.block ≡ None = c.in_default.is in
    let there : block_in (blocks_of places) c.args.id ≡ Some None = block_there places c.args.id c.place_of-place.result
    c.place_of-place.ensures.value ∙ ap Some none in
    ap (λ (rows : Rows). count_by is_some rows + 1) (gone places c.args.id c.clear.new.self c.clear.ensures)
    ∙ live_less (blocks_of places) c.args.id None there

pub remove-requires : goal.remove-requires
remove-requires c =
    let places = c.args.places.now in
    let there : block_in (blocks_of places) c.args.id ≡ Some (Some c.in-Some.block) = block_there places c.args.id
    c.place_of-place.result c.place_of-place.ensures.value ∙ ap Some c.in-Some.is in
    (c.requires.blocks.has c.args.id c.in-Some.block there).0

pub set_block-requires : goal.set_block-requires
set_block-requires c =
    let places = c.args.places.now in
    let blocks = c.args.blocks.now.items in
    let new = c.remove.new.self.items in
    let b = c.in-Some.block in
    let test = c.if-block-len.true in
    let is = c.len.ensures in
    let there : block_in (blocks_of places) c.args.id ≡ Some (Some b) = block_there places c.args.id
    c.place_of-place.result c.place_of-place.ensures.value ∙ ap Some c.in-Some.is in
    let short : length new + 1 ≡ length blocks = c.remove.ensures.count in
    let more : b + 1 < length blocks = omega arith in
    let moved : b + 1 < length blocks → block_at new b ≡ block_at blocks (length blocks - 1) = c.remove.ensures.moved in
    let others : (k : ℕ) → k ≢ b → k + 1 < length blocks → block_at new k ≡ block_at blocks k = c.remove.ensures.others
    in
    let owner_is : c.owner-owner.result ≡ (block_at blocks (length blocks - 1)).owner = c.owner-owner.ensures
    ∙ ap (λ (k : Block). k.owner) (moved more) in
    let row = owner_row (blocks_of places) blocks c.requires.blocks c.args.id b there new short moved others more
    c.owner-owner.result owner_is in
    let apart = owner_differs (blocks_of places) blocks c.requires.blocks c.args.id b there new short moved others more
    c.owner-owner.result owner_is in
    record {
      live = ap (λ (ps : List (Option Place)). is_some (place_at ps c.owner-owner.result)) c.clear.ensures
          ∙ ap is_some (get_or-set_other places c.args.id c.owner-owner.result None None apart)
          ∙ live_block places c.owner-owner.result (Some (length blocks - 1)) row;
      number = subst (λ rows. IsFirstFree rows b) (sym (gone places c.args.id c.clear.new.self c.clear.ensures))
          (free_again (blocks_of places) blocks c.requires.blocks c.args.id b there more c.requires.few);
    }

pub returns-then-block-len-clause-loses : goal.returns-then-block-len-clause-loses
returns-then-block-len-clause-loses c =
    let places = c.args.places.now in
    let blocks = c.args.blocks.now.items in
    let new = c.remove.new.self.items in
    let b = c.in-Some.block in
    let test = c.if-block-len.true in
    let is = c.len.ensures in
    let there : block_in (blocks_of places) c.args.id ≡ Some (Some b) = block_there places c.args.id
    c.place_of-place.result c.place_of-place.ensures.value ∙ ap Some c.in-Some.is in
    let short : length new + 1 ≡ length blocks = c.remove.ensures.count in
    let more : b + 1 < length blocks = omega arith in
    let moved : b + 1 < length blocks → block_at new b ≡ block_at blocks (length blocks - 1) = c.remove.ensures.moved in
    let others : (k : ℕ) → k ≢ b → k + 1 < length blocks → block_at new k ≡ block_at blocks k = c.remove.ensures.others
    in
    let owner_is : c.owner-owner.result ≡ (block_at blocks (length blocks - 1)).owner = c.owner-owner.ensures
    ∙ ap (λ (k : Block). k.owner) (moved more) in
    let rows_are : blocks_of c.set_block.new.places ≡ set (set (blocks_of places) c.args.id None)
    c.owner-owner.result (Some (Some b)) = c.set_block.ensures.blocks
    ∙ ap (λ (rows : Rows). set rows c.owner-owner.result (Some (Some b)))
    (gone places c.args.id c.clear.new.self c.clear.ensures) in
    let P : Rows → Type 0 = λ rows. LosesBlock (blocks_of places) blocks rows new c.args.id in
    subst P (sym rows_are) (loses_swapped (blocks_of places) blocks c.requires.blocks c.args.id b there new short moved
    others more c.owner-owner.result owner_is)

pub returns-then-block-len-clause-live : goal.returns-then-block-len-clause-live
returns-then-block-len-clause-live c =
    let places = c.args.places.now in
    let blocks = c.args.blocks.now.items in
    let new = c.remove.new.self.items in
    let b = c.in-Some.block in
    let test = c.if-block-len.true in
    let is = c.len.ensures in
    let there : block_in (blocks_of places) c.args.id ≡ Some (Some b) = block_there places c.args.id
    c.place_of-place.result c.place_of-place.ensures.value ∙ ap Some c.in-Some.is in
    let short : length new + 1 ≡ length blocks = c.remove.ensures.count in
    let more : b + 1 < length blocks = omega arith in
    let moved : b + 1 < length blocks → block_at new b ≡ block_at blocks (length blocks - 1) = c.remove.ensures.moved in
    let others : (k : ℕ) → k ≢ b → k + 1 < length blocks → block_at new k ≡ block_at blocks k = c.remove.ensures.others
    in
    let owner_is : c.owner-owner.result ≡ (block_at blocks (length blocks - 1)).owner = c.owner-owner.ensures
    ∙ ap (λ (k : Block). k.owner) (moved more) in
    let rows_are : blocks_of c.set_block.new.places ≡ set (set (blocks_of places) c.args.id None)
    c.owner-owner.result (Some (Some b)) = c.set_block.ensures.blocks
    ∙ ap (λ (rows : Rows). set rows c.owner-owner.result (Some (Some b)))
    (gone places c.args.id c.clear.new.self c.clear.ensures) in
    ap (λ (rows : Rows). count_by is_some rows + 1) rows_are
    ∙ ap (λ n. n + 1) (live_swapped (blocks_of places) blocks c.requires.blocks c.args.id b there new short moved others
    more c.owner-owner.result owner_is)
    ∙ live_less (blocks_of places) c.args.id (Some b) there

pub returns-else-block-len-clause-loses : goal.returns-else-block-len-clause-loses
returns-else-block-len-clause-loses c =
    let places = c.args.places.now in
    let blocks = c.args.blocks.now.items in
    let new = c.remove.new.self.items in
    let b = c.in-Some.block in
    let test = c.if-block-len.false in
    let is = c.len.ensures in
    let there : block_in (blocks_of places) c.args.id ≡ Some (Some b) = block_there places c.args.id
    c.place_of-place.result c.place_of-place.ensures.value ∙ ap Some c.in-Some.is in
    let short : length new + 1 ≡ length blocks = c.remove.ensures.count in
    let last : length blocks ≤ b + 1 = omega arith in
    let moved : b + 1 < length blocks → block_at new b ≡ block_at blocks (length blocks - 1) = c.remove.ensures.moved in
    let others : (k : ℕ) → k ≢ b → k + 1 < length blocks → block_at new k ≡ block_at blocks k = c.remove.ensures.others
    in
    let P : Rows → Type 0 = λ rows. LosesBlock (blocks_of places) blocks rows new c.args.id in
    subst P (sym (gone places c.args.id c.clear.new.self c.clear.ensures))
    (loses_last (blocks_of places) blocks c.requires.blocks c.args.id b there new short moved others last)

pub returns-else-block-len-clause-live : goal.returns-else-block-len-clause-live
returns-else-block-len-clause-live c =
    let places = c.args.places.now in
    let there : block_in (blocks_of places) c.args.id ≡ Some (Some c.in-Some.block) = block_there places c.args.id
    c.place_of-place.result c.place_of-place.ensures.value ∙ ap Some c.in-Some.is in
    ap (λ (rows : Rows). count_by is_some rows + 1) (gone places c.args.id c.clear.new.self c.clear.ensures)
    ∙ live_less (blocks_of places) c.args.id (Some c.in-Some.block) there
