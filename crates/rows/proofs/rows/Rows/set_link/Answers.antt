use Rattle.std.proofs.Common.{◌≡◌, ◌<◌, ◌≤◌, ℕ, List, length, set, Option, Some, is_some, true, ap, sym, subst, ◌∙◌, arith}
use Rattle.rows.specs.Arena.{Arena, ChangesLink, is_live, row_at, with_link}
use Rattle.rows.specs.Places.{blocks_of, place_at}
use Rattle.rows.specs.Blocks.{Block, block_at, links_in}
use Rattle.rows.specs.Stored.{AreStored, stored}
use Rattle.rows.proofs.Arenas.{ChangesLink-with_link, arena_linked, live_place, stored_place}
use Rattle.rows.proofs.Blocking.{block_there, written_here, written_other}
use Rattle.rows.proofs.Parts.{some_is}
use Rattle.rows.proofs.Storing.{stored_linked}
use Rattle.rows.proofs.rows.Rows.set_link.Goals as goal

pub set-requires-clause-block : goal.set-requires-clause-block
set-requires-clause-block c =
    (c.block_for-block.ensures.blocks.has c.args.id c.block_for-block.result c.block_for-block.ensures.block).0

pub invariant_of-self : goal.invariant_of-self
invariant_of-self c =
    let middle = c.block_for-block.new.blocks.items in
    let b = c.block_for-block.result in
    let links = set (block_at middle b).links c.args.k c.args.value in
    let within : b < length middle =
    (c.block_for-block.ensures.blocks.has c.args.id b c.block_for-block.ensures.block).0 in
    let more : c.self.inside.blocks.room ≤ c.set.new.self.room =
    (let r = c.block_for-block.ensures.room in let w = c.set.ensures.room in omega arith) in
    let P : List Block → Type 0 = λ bs. AreStored (length c.self.inside.lits.items) c.block_for-block.new.places
    bs c.self.inside.live c.set.new.self.room in
    subst P (sym c.set.ensures.items)
    (stored_linked (length c.self.inside.lits.items) c.self.inside.places c.block_for-block.new.places
    c.self.inside.blocks.items middle c.self.inside.live c.self.inside.blocks.room
    c.set.new.self.room b links c.self.invariant c.block_for-block.ensures.same
    c.block_for-block.ensures.blocks c.block_for-block.ensures.live within more)

pub returns-clause-arena : goal.returns-clause-arena
returns-clause-arena c =
    let places = c.self.inside.places in
    let blocks = c.self.inside.blocks.items in
    let lits = c.self.inside.lits.items in
    let new_places = c.block_for-block.new.places in
    let middle = c.block_for-block.new.blocks.items in
    let b = c.block_for-block.result in
    let links = set (block_at middle b).links c.args.k c.args.value in
    let are = c.block_for-block.ensures.blocks in
    let there = c.block_for-block.ensures.block in
    let within : b < length middle = (are.has c.args.id b there).0 in
    let live : is_some (place_at places c.args.id) ≡ true = sym (live_place lits blocks places c.args.id)
    ∙ ap (λ (a : Arena). is_live a c.args.id) c.self.view_is ∙ c.requires.live in
    arena_linked lits blocks middle c.set.new.self.items places new_places c.args.id b
    (λ (l : List (Option ℕ)). set l c.args.k c.args.value) live c.block_for-block.ensures.same there
    c.block_for-block.ensures.links
    (ap (λ (bs : List Block). links_in bs (Some b)) c.set.ensures.items ∙ written_here (blocks_of new_places) middle
    are b links within)
    (λ i o differs e. ap (λ (bs : List Block). links_in bs o) c.set.ensures.items
    ∙ written_other (blocks_of new_places) middle are b links within i c.args.id o differs there e)
    ∙ ap (λ (a : Arena). with_link a c.args.id c.args.k c.args.value) c.self.view_is

pub returns-clause-rest : goal.returns-clause-rest
returns-clause-rest c =
    let places = c.self.inside.places in
    let blocks = c.self.inside.blocks.items in
    let lits = c.self.inside.lits.items in
    let b = c.block_for-block.result in
    let live : is_some (place_at places c.args.id) ≡ true = sym (live_place lits blocks places c.args.id)
    ∙ ap (λ (a : Arena). is_live a c.args.id) c.self.view_is ∙ c.requires.live in
    let p = some_is (place_at places c.args.id) live in
    let same = c.block_for-block.ensures.links c.args.id p.0.block (Some b) (block_there places c.args.id p.0 p.1)
    c.block_for-block.ensures.block in
    let eight : length (links_in blocks p.0.block) ≡ 8 = ap (λ (ls : List (Option ℕ)). length ls) (sym same)
    ∙ c.set.ensures.eight in
    let field = c.requires.field in
    let within : c.args.k < length (links_in blocks p.0.block) = omega arith in
    let at : row_at c.args.self.now c.args.id ≡ Some (stored lits blocks p.0) = ap (λ (a : Arena). row_at a c.args.id)
    (sym c.self.view_is) ∙ stored_place lits blocks places c.args.id p.0 p.1 in
    let P : Arena → Type 0 = λ a. ChangesLink c.args.self.now a c.args.id c.args.k c.args.value in
    subst P (sym (returns-clause-arena c)) (ChangesLink-with_link c.args.self.now c.args.id c.args.k c.args.value
    (stored lits blocks p.0) c.requires.live at within)
