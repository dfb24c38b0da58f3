use Rattle.std.proofs.Common.{◌≡◌, ◌+◌, ◌/◌, ◌*◌, ◌<◌, length, set, sym, ap, ◌∙◌, arith}
use Rattle.std.proofs.lemmas.List.{length-set}
use Rattle.rows.specs.Blocks.{BlocksState, block_at, blocks_from}
use Rattle.rows.proofs.Cutting.{blocks_length, field_set, fields_cut, place_fits, place_there}
use Rattle.rows.proofs.blocks.Blocks.set.Goals as goal

pub overflow_mul-block : goal.overflow_mul-block
overflow_mul-block c =
    let numbers = c.self.inside.numbers.items in
    let was : length (blocks_from (length numbers / 9) numbers) ≡ length c.args.self.now.items =
    ap (λ (s : BlocksState). length s.items) c.self.view_is in
    let h : c.args.block < length c.args.self.now.items = c.requires.block in
    let fits = place_fits numbers c.args.block 0 c.self.invariant (omega (arith, was, h)) (omega arith) in
    omega (arith, fits)

pub overflow_add-block : goal.overflow_add-block
overflow_add-block c =
    let numbers = c.self.inside.numbers.items in
    let was : length (blocks_from (length numbers / 9) numbers) ≡ length c.args.self.now.items =
    ap (λ (s : BlocksState). length s.items) c.self.view_is in
    let h : c.args.block < length c.args.self.now.items = c.requires.block in
    let low = c.requires.field in
    let fits = place_fits numbers c.args.block c.args.k c.self.invariant (omega (arith, was, h)) (omega (arith, low)) in
    omega (arith, fits)

pub set-requires : goal.set-requires
set-requires c =
    let numbers = c.self.inside.numbers.items in
    let was : length (blocks_from (length numbers / 9) numbers) ≡ length c.args.self.now.items =
    ap (λ (s : BlocksState). length s.items) c.self.view_is in
    let h : c.args.block < length c.args.self.now.items = c.requires.block in
    let low = c.requires.field in
    place_there numbers c.args.block c.args.k c.self.invariant (omega (arith, was, h)) (omega (arith, low))

pub returns-clause-items : goal.returns-clause-items
returns-clause-items c =
    let numbers = c.self.inside.numbers.items in
    let was : length (blocks_from (length numbers / 9) numbers) ≡ length c.args.self.now.items =
    ap (λ (s : BlocksState). length s.items) c.self.view_is in
    let n = blocks_length (length numbers / 9) numbers in
    let h : c.args.block < length c.args.self.now.items = c.requires.block in
    let size : length (set numbers (9 * c.args.block + c.args.k) c.args.value) / 9 ≡ length numbers / 9 =
    ap (λ m. m / 9) (length-set numbers (9 * c.args.block + c.args.k) c.args.value) in
    ap (λ ns. blocks_from (length ns / 9) ns) c.set.ensures.items
    ∙ ap (λ m. blocks_from m (set numbers (9 * c.args.block + c.args.k) c.args.value)) size
    ∙ field_set (length numbers / 9) numbers c.args.block c.args.k c.args.value c.requires.field
    (omega (arith, was, n, h))
    ∙ ap (λ (s : BlocksState). set s.items c.args.block (record {
      owner = (block_at s.items c.args.block).owner;
      links = set (block_at s.items c.args.block).links c.args.k c.args.value;
    })) c.self.view_is

pub returns-clause-eight : goal.returns-clause-eight
returns-clause-eight c =
    let numbers = c.self.inside.numbers.items in
    let was : length (blocks_from (length numbers / 9) numbers) ≡ length c.args.self.now.items =
    ap (λ (s : BlocksState). length s.items) c.self.view_is in
    let n = blocks_length (length numbers / 9) numbers in
    let h : c.args.block < length c.args.self.now.items = c.requires.block in
    sym (ap (λ (s : BlocksState). length (block_at s.items c.args.block).links) c.self.view_is)
    ∙ fields_cut (length numbers / 9) numbers c.args.block c.self.invariant.nine (omega (arith, was, n, h))
