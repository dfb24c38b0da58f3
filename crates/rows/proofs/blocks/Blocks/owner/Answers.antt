use Rattle.std.proofs.Common.{◌≡◌, ◌+◌, ◌*◌, ◌/◌, ◌<◌, ℕ, List, Option, length, get_or, None, sym, ap, ◌∙◌, arith}
use Rattle.rows.specs.Blocks.{BlocksState, block_at, blocks_from, owner_of}
use Rattle.rows.proofs.Cutting.{blocks_length, owner_cut, place_fits, place_there}
use Rattle.rows.proofs.blocks.Blocks.owner.Goals as goal

owned : (numbers : List (Option ℕ)) (room b : ℕ) (found : Option ℕ) (now : BlocksState)
    → record { items = blocks_from (length numbers / 9) numbers; room = room } ≡ now → b < length now.items
    → found ≡ get_or numbers (9 * b + 8) None → owner_of found ≡ (block_at now.items b).owner
owned numbers room b found now view h e =
    let was : length (blocks_from (length numbers / 9) numbers) ≡ length now.items =
    ap (λ (s : BlocksState). length s.items) view in
    let n = blocks_length (length numbers / 9) numbers in
    ap owner_of e ∙ owner_cut (length numbers / 9) numbers b (omega (arith, was, n, h))
    ∙ ap (λ (s : BlocksState). (block_at s.items b).owner) view

pub overflow_mul-block : goal.overflow_mul-block
overflow_mul-block c =
    let numbers = c.self.inside.numbers.items in
    let was : length (blocks_from (length numbers / 9) numbers) ≡ length c.args.self.now.items =
    ap (λ (s : BlocksState). length s.items) c.self.view_is in
    let h : c.args.block < length c.args.self.now.items = c.requires in
    let fits = place_fits numbers c.args.block 0 c.self.invariant (omega (arith, was, h)) (omega arith) in
    omega (arith, fits)

pub overflow_add-block : goal.overflow_add-block
overflow_add-block c =
    let numbers = c.self.inside.numbers.items in
    let was : length (blocks_from (length numbers / 9) numbers) ≡ length c.args.self.now.items =
    ap (λ (s : BlocksState). length s.items) c.self.view_is in
    let h : c.args.block < length c.args.self.now.items = c.requires in
    let fits = place_fits numbers c.args.block 8 c.self.invariant (omega (arith, was, h)) (omega arith) in
    omega (arith, fits)

pub get-requires : goal.get-requires
get-requires c =
    let numbers = c.self.inside.numbers.items in
    let was : length (blocks_from (length numbers / 9) numbers) ≡ length c.args.self.now.items =
    ap (λ (s : BlocksState). length s.items) c.self.view_is in
    let h : c.args.block < length c.args.self.now.items = c.requires in
    place_there numbers c.args.block 8 c.self.invariant (omega (arith, was, h)) (omega arith)

pub returns-in-Some : goal.returns-in-Some
returns-in-Some c = sym (ap owner_of c.in-Some.is) ∙ owned c.self.inside.numbers.items _ c.args.block c.get.result
    c.args.self.now c.self.view_is c.requires c.get.ensures

pub returns-in-None : goal.returns-in-None
returns-in-None c = sym (ap owner_of c.in-None.is) ∙ owned c.self.inside.numbers.items _ c.args.block c.get.result
    c.args.self.now c.self.view_is c.requires c.get.ensures
