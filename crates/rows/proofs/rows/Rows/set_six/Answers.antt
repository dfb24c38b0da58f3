use Rattle.std.specs.Option.{option_map}
use Rattle.std.proofs.Common.{◌≡◌, ◌+◌, ◌<◌, ◌≤◌, ℕ, List, length, set, Option, Some, is_some, true, ap, sym, subst, ◌∙◌, arith}
use Rattle.rows.specs.Arena.{Arena, ChangesLinks, is_live, row_at, set_three, with_links}
use Rattle.rows.specs.Places.{blocks_of, place_at}
use Rattle.rows.specs.Blocks.{Block, block_at, links_in}
use Rattle.rows.specs.Stored.{AreStored, stored}
use Rattle.rows.proofs.Arenas.{ChangesLinks-again, ChangesLinks-with_links, arena_linked, linked_twice, live_place, relinked, stored_place}
use Rattle.rows.proofs.Blocking.{block_there, written_here, written_other}
use Rattle.rows.proofs.Parts.{some_is}
use Rattle.rows.proofs.Storing.{stored_linked}
use Rattle.rows.proofs.rows.Rows.set_six.Goals as goal

pub set_six-requires : goal.set_six-requires
set_six-requires c =
    (c.block_for-block.ensures.blocks.has c.args.id c.block_for-block.result c.block_for-block.ensures.block).0

pub invariant_of-self : goal.invariant_of-self
invariant_of-self c =
    let middle = c.block_for-block.new.blocks.items in
    let b = c.block_for-block.result in
    let six : List (Option ℕ) → List (Option ℕ) = λ ls. set_three 3 c.args.two (set_three 0 c.args.one ls) in
    let links = six (block_at middle b).links in
    let within : b < length middle =
    (c.block_for-block.ensures.blocks.has c.args.id b c.block_for-block.ensures.block).0 in
    let more : c.self.inside.blocks.room ≤ c.set_six.new.self.room =
    (let r = c.block_for-block.ensures.room in let w = c.set_six.ensures.room in omega arith) in
    let P : List Block → Type 0 = λ bs. AreStored (length c.self.inside.lits.items) c.block_for-block.new.places
    bs c.self.inside.live c.set_six.new.self.room in
    subst P (sym c.set_six.ensures.items)
    (stored_linked (length c.self.inside.lits.items) c.self.inside.places c.block_for-block.new.places
    c.self.inside.blocks.items middle c.self.inside.live c.self.inside.blocks.room
    c.set_six.new.self.room b links c.self.invariant c.block_for-block.ensures.same
    c.block_for-block.ensures.blocks c.block_for-block.ensures.live within more)

pub returns-clause-arena : goal.returns-clause-arena
returns-clause-arena c =
    let places = c.self.inside.places in
    let blocks = c.self.inside.blocks.items in
    let lits = c.self.inside.lits.items in
    let new_places = c.block_for-block.new.places in
    let middle = c.block_for-block.new.blocks.items in
    let b = c.block_for-block.result in
    let six : List (Option ℕ) → List (Option ℕ) = λ ls. set_three 3 c.args.two (set_three 0 c.args.one ls) in
    let links = six (block_at middle b).links in
    let are = c.block_for-block.ensures.blocks in
    let there = c.block_for-block.ensures.block in
    let within : b < length middle = (are.has c.args.id b there).0 in
    let live : is_some (place_at places c.args.id) ≡ true = sym (live_place lits blocks places c.args.id)
    ∙ ap (λ (a : Arena). is_live a c.args.id) c.self.view_is ∙ c.requires in
    arena_linked lits blocks middle c.set_six.new.self.items places new_places c.args.id b
    six live c.block_for-block.ensures.same there c.block_for-block.ensures.links
    (ap (λ (bs : List Block). links_in bs (Some b)) c.set_six.ensures.items ∙ written_here (blocks_of new_places)
    middle are b links within)
    (λ i o differs e. ap (λ (bs : List Block). links_in bs o) c.set_six.ensures.items
    ∙ written_other (blocks_of new_places) middle are b links within i c.args.id o differs there e)
    ∙ ap (λ (a : Arena). set a c.args.id (option_map (relinked six) (row_at a c.args.id))) c.self.view_is
    ∙ linked_twice c.args.self.now c.args.id c.args.one c.args.two c.requires

pub returns-clause-first : goal.returns-clause-first
returns-clause-first c =
    let places = c.self.inside.places in
    let blocks = c.self.inside.blocks.items in
    let lits = c.self.inside.lits.items in
    let b = c.block_for-block.result in
    let live : is_some (place_at places c.args.id) ≡ true = sym (live_place lits blocks places c.args.id)
    ∙ ap (λ (a : Arena). is_live a c.args.id) c.self.view_is ∙ c.requires in
    let p = some_is (place_at places c.args.id) live in
    let same = c.block_for-block.ensures.links c.args.id p.0.block (Some b) (block_there places c.args.id p.0 p.1)
    c.block_for-block.ensures.block in
    let eight : length (links_in blocks p.0.block) ≡ 8 = ap (λ (ls : List (Option ℕ)). length ls) (sym same)
    ∙ c.set_six.ensures.eight in
    let at : row_at c.args.self.now c.args.id ≡ Some (stored lits blocks p.0) = ap (λ (a : Arena). row_at a c.args.id)
    (sym c.self.view_is) ∙ stored_place lits blocks places c.args.id p.0 p.1 in
    let within : 0 + 2 < length (links_in blocks p.0.block) = omega arith in
    ChangesLinks-with_links c.args.self.now c.args.id 0 c.args.one (stored lits blocks p.0) c.requires at within

pub returns-clause-second : goal.returns-clause-second
returns-clause-second c =
    let places = c.self.inside.places in
    let blocks = c.self.inside.blocks.items in
    let lits = c.self.inside.lits.items in
    let b = c.block_for-block.result in
    let live : is_some (place_at places c.args.id) ≡ true = sym (live_place lits blocks places c.args.id)
    ∙ ap (λ (a : Arena). is_live a c.args.id) c.self.view_is ∙ c.requires in
    let p = some_is (place_at places c.args.id) live in
    let same = c.block_for-block.ensures.links c.args.id p.0.block (Some b) (block_there places c.args.id p.0 p.1)
    c.block_for-block.ensures.block in
    let eight : length (links_in blocks p.0.block) ≡ 8 = ap (λ (ls : List (Option ℕ)). length ls) (sym same)
    ∙ c.set_six.ensures.eight in
    let at : row_at c.args.self.now c.args.id ≡ Some (stored lits blocks p.0) = ap (λ (a : Arena). row_at a c.args.id)
    (sym c.self.view_is) ∙ stored_place lits blocks places c.args.id p.0 p.1 in
    let P : Arena → Type 0 = λ a. ChangesLinks (with_links c.args.self.now c.args.id 0 c.args.one) a c.args.id 3
    c.args.two in
    subst P (sym (returns-clause-arena c)) (ChangesLinks-again c.args.self.now c.args.id c.args.one c.args.two
    (stored lits blocks p.0) c.requires at eight)
