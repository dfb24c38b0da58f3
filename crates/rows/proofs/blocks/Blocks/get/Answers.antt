use Rattle.std.proofs.Common.{◌≡◌, ◌/◌, ◌<◌, length, get_or, None, ap, ◌∙◌, arith}
use Rattle.rows.specs.Blocks.{BlocksState, block_at, blocks_from}
use Rattle.rows.proofs.Cutting.{blocks_length, field_cut, place_fits, place_there}
use Rattle.rows.proofs.blocks.Blocks.get.Goals as goal

pub overflow_mul-block : goal.overflow_mul-block
overflow_mul-block c =
    let numbers = c.self.inside.numbers.items in
    let was : length (blocks_from (length numbers / 9) numbers) ≡ length c.args.self.now.items =
    ap (λ (s : BlocksState). length s.items) c.self.view_is in
    let h : c.args.block < length c.args.self.now.items = c.requires.block in
    let fits = place_fits numbers c.args.block 0 c.self.invariant (omega (arith, was, h)) (omega arith) in
    omega (arith, fits)

pub overflow_add-block : goal.overflow_add-block
overflow_add-block c =
    let numbers = c.self.inside.numbers.items in
    let was : length (blocks_from (length numbers / 9) numbers) ≡ length c.args.self.now.items =
    ap (λ (s : BlocksState). length s.items) c.self.view_is in
    let h : c.args.block < length c.args.self.now.items = c.requires.block in
    let low = c.requires.field in
    let fits = place_fits numbers c.args.block c.args.k c.self.invariant (omega (arith, was, h)) (omega (arith, low)) in
    omega (arith, fits)

pub get-requires : goal.get-requires
get-requires c =
    let numbers = c.self.inside.numbers.items in
    let was : length (blocks_from (length numbers / 9) numbers) ≡ length c.args.self.now.items =
    ap (λ (s : BlocksState). length s.items) c.self.view_is in
    let h : c.args.block < length c.args.self.now.items = c.requires.block in
    let low = c.requires.field in
    place_there numbers c.args.block c.args.k c.self.invariant (omega (arith, was, h)) (omega (arith, low))

pub returns : goal.returns
returns c =
    let numbers = c.self.inside.numbers.items in
    let was : length (blocks_from (length numbers / 9) numbers) ≡ length c.args.self.now.items =
    ap (λ (s : BlocksState). length s.items) c.self.view_is in
    let n = blocks_length (length numbers / 9) numbers in
    let h : c.args.block < length c.args.self.now.items = c.requires.block in
    c.get.ensures
    ∙ field_cut (length numbers / 9) numbers c.args.block c.args.k c.requires.field (omega (arith, was, n, h))
    ∙ ap (λ (s : BlocksState). get_or (block_at s.items c.args.block).links c.args.k None) c.self.view_is
