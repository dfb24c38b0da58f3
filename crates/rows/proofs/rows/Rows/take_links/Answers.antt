use Rattle.std.proofs.Common.{◌≡◌, ◌<◌, ℕ, List, Option, Some, None, length, set, is_some, true, refl, ap, sym, subst, ◌∙◌, arith}
use Rattle.rows.specs.declared.places.Place.{Place}
use Rattle.rows.specs.Arena.{Arena, ChangesLink, is_live, row_at, with_link}
use Rattle.rows.specs.Places.{blocks_of, place_at}
use Rattle.rows.specs.Blocks.{Block, block_at, block_in, links_in}
use Rattle.rows.specs.Stored.{AreStored, stored}
use Rattle.rows.proofs.Arenas.{ChangesLink-with_link, arena_linked, live_place, stored_place}
use Rattle.rows.proofs.Blocking.{block_there, no_other, written_here, written_other}
use Rattle.rows.proofs.Parts.{reblocks_none}
use Rattle.rows.proofs.Storing.{stored_linked}
use Rattle.rows.proofs.rows.Rows.take_links.Goals as goal

there : (places : List (Option Place)) (id b : ℕ) (p : Place) → place_at places id ≡ Some p → p.block ≡ Some b
    → block_in (blocks_of places) id ≡ Some (Some b)
there places id b p e is = block_there places id p e ∙ ap Some is

pub take_three-requires-clause-block : goal.take_three-requires-clause-block
take_three-requires-clause-block c =
    (c.self.invariant.blocked.has c.args.id c.in-Some.block
    (there c.self.inside.places c.args.id c.in-Some.block c.place_of.result c.place_of.ensures.value
    c.in-Some.is)).0

pub invariant_of-self : goal.invariant_of-self
invariant_of-self c =
    let blocks = c.self.inside.blocks.items in
    let places = c.self.inside.places in
    let b = c.in-Some.block in
    let has = there places c.args.id b c.place_of.result c.place_of.ensures.value c.in-Some.is in
    let links = set (block_at blocks b).links c.args.base None in
    let P : List Block → Type 0 = λ bs. AreStored (length c.self.inside.lits.items) places bs c.self.inside.live
    c.take_three.new.self.room in
    subst P (sym c.take_three.ensures.items)
    (stored_linked (length c.self.inside.lits.items) places places blocks blocks c.self.inside.live
    c.self.inside.blocks.room c.take_three.new.self.room b links c.self.invariant (reblocks_none places)
    c.self.invariant.blocked refl (c.self.invariant.blocked.has c.args.id b has).0 c.take_three.ensures.room)

pub returns-in-Some-clause-arena : goal.returns-in-Some-clause-arena
returns-in-Some-clause-arena c =
    let places = c.self.inside.places in
    let blocks = c.self.inside.blocks.items in
    let lits = c.self.inside.lits.items in
    let b = c.in-Some.block in
    let has = there places c.args.id b c.place_of.result c.place_of.ensures.value c.in-Some.is in
    let links = set (block_at blocks b).links c.args.base None in
    let are = c.self.invariant.blocked in
    let within : b < length blocks = (are.has c.args.id b has).0 in
    let live : is_some (place_at places c.args.id) ≡ true = sym (live_place lits blocks places c.args.id)
    ∙ ap (λ (a : Arena). is_live a c.args.id) c.self.view_is ∙ c.requires.live in
    arena_linked lits blocks blocks c.take_three.new.self.items places places c.args.id b
    (λ (l : List (Option ℕ)). set l c.args.base None) live (reblocks_none places) has
    (λ i o p e f. ap (links_in blocks) (no_other (block_in (blocks_of places) i) p o f e))
    (ap (λ (bs : List Block). links_in bs (Some b)) c.take_three.ensures.items
    ∙ written_here (blocks_of places) blocks are b links within)
    (λ i o differs e. ap (λ (bs : List Block). links_in bs o) c.take_three.ensures.items
    ∙ written_other (blocks_of places) blocks are b links within i c.args.id o differs has e)
    ∙ ap (λ (a : Arena). with_link a c.args.id c.args.base None) c.self.view_is

pub returns-in-Some-clause-rest : goal.returns-in-Some-clause-rest
returns-in-Some-clause-rest c =
    let places = c.self.inside.places in
    let blocks = c.self.inside.blocks.items in
    let lits = c.self.inside.lits.items in
    let eight : length (links_in blocks c.place_of.result.block) ≡ 8 =
    ap (λ (o : Option ℕ). length (links_in blocks o)) c.in-Some.is ∙ c.take_three.ensures.eight in
    let field = c.requires.fields in
    let within : c.args.base < length (links_in blocks c.place_of.result.block) = omega (arith, eight, field) in
    let at : row_at c.args.self.now c.args.id ≡ Some (stored lits blocks c.place_of.result) =
    ap (λ (a : Arena). row_at a c.args.id) (sym c.self.view_is)
    ∙ stored_place lits blocks places c.args.id c.place_of.result c.place_of.ensures.value in
    let P : Arena → Type 0 = λ a. ChangesLink c.args.self.now a c.args.id c.args.base None in
    subst P (sym (returns-in-Some-clause-arena c)) (ChangesLink-with_link c.args.self.now c.args.id c.args.base None
    (stored lits blocks c.place_of.result) c.requires.live at within)
