use Rattle.std.proofs.Common.{◌≡◌, ◌<◌, ◌-◌, ◌+◌, ◌*◌, ◌/◌, length, ap, ◌∙◌, arith}
use Rattle.short_numbers.specs.Lists.{last_moved}
use Rattle.rows.specs.Blocks.{BlocksState, block_at, blocks_from}
use Rattle.rows.proofs.Cutting.{block_moved, block_stays, blocks_length, blocks_less, numbers_fit, numbers_less, place_fits}
use Rattle.rows.proofs.blocks.Blocks.remove.Goals as goal

pub overflow_mul-block : goal.overflow_mul-block
overflow_mul-block c =
    let numbers = c.self.inside.numbers.items in
    let was : length (blocks_from (length numbers / 9) numbers) ≡ length c.args.self.now.items =
    ap (λ (s : BlocksState). length s.items) c.self.view_is in
    let h : c.args.block < length c.args.self.now.items = c.requires in
    let fits = place_fits numbers c.args.block 0 c.self.invariant (omega (arith, was, h)) (omega arith) in
    omega (arith, fits)

pub move_last-requires : goal.move_last-requires
move_last-requires c =
    let numbers = c.self.inside.numbers.items in
    let all = length numbers / 9 in
    let was : length (blocks_from all numbers) ≡ length c.args.self.now.items =
    ap (λ (s : BlocksState). length s.items) c.self.view_is in
    let n = blocks_length all numbers in
    let h : c.args.block < length c.args.self.now.items = c.requires in
    let within : c.args.block < all = omega (arith, was, n, h) in
    let e = c.self.invariant.nine in
    numbers_fit numbers all c.args.block e within

pub returns-clause-count : goal.returns-clause-count
returns-clause-count c =
    let numbers = c.self.inside.numbers.items in
    let all = length numbers / 9 in
    let was : length (blocks_from all numbers) ≡ length c.args.self.now.items =
    ap (λ (s : BlocksState). length s.items) c.self.view_is in
    let n = blocks_length all numbers in
    let h : c.args.block < length c.args.self.now.items = c.requires in
    let within : c.args.block < all = omega (arith, was, n, h) in
    let e = c.self.invariant.nine in
    let less = numbers_less numbers all c.args.block e within in
    let count : length (last_moved (9 * c.args.block) 9 numbers) / 9 ≡ all - 1 = omega (arith, e, less) in
    ap (λ ns. length (blocks_from (length ns / 9) ns) + 1) c.move_last.ensures.items
    ∙ ap (λ m. length (blocks_from m (last_moved (9 * c.args.block) 9 numbers)) + 1) count
    ∙ blocks_less numbers all c.args.block e within
    ∙ ap (λ (s : BlocksState). length s.items) c.self.view_is

pub returns-clause-moved : goal.returns-clause-moved
returns-clause-moved c more =
    let numbers = c.self.inside.numbers.items in
    let all = length numbers / 9 in
    let was : length (blocks_from all numbers) ≡ length c.args.self.now.items =
    ap (λ (s : BlocksState). length s.items) c.self.view_is in
    let n = blocks_length all numbers in
    let h : c.args.block < length c.args.self.now.items = c.requires in
    let within : c.args.block < all = omega (arith, was, n, h) in
    let e = c.self.invariant.nine in
    let less = numbers_less numbers all c.args.block e within in
    let count : length (last_moved (9 * c.args.block) 9 numbers) / 9 ≡ all - 1 = omega (arith, e, less) in
    let last : all - 1 ≡ length (blocks_from all numbers) - 1 = omega (arith, n) in
    ap (λ ns. block_at (blocks_from (length ns / 9) ns) c.args.block) c.move_last.ensures.items
    ∙ ap (λ m. block_at (blocks_from m (last_moved (9 * c.args.block) 9 numbers)) c.args.block) count
    ∙ block_moved numbers all c.args.block e within (omega (arith, was, n, more))
    ∙ ap (λ m. block_at (blocks_from all numbers) m) last
    ∙ ap (λ (s : BlocksState). block_at s.items (length s.items - 1)) c.self.view_is

pub returns-clause-others : goal.returns-clause-others
returns-clause-others c k differs more =
    let numbers = c.self.inside.numbers.items in
    let all = length numbers / 9 in
    let was : length (blocks_from all numbers) ≡ length c.args.self.now.items =
    ap (λ (s : BlocksState). length s.items) c.self.view_is in
    let n = blocks_length all numbers in
    let h : c.args.block < length c.args.self.now.items = c.requires in
    let within : c.args.block < all = omega (arith, was, n, h) in
    let e = c.self.invariant.nine in
    let less = numbers_less numbers all c.args.block e within in
    let count : length (last_moved (9 * c.args.block) 9 numbers) / 9 ≡ all - 1 = omega (arith, e, less) in
    ap (λ ns. block_at (blocks_from (length ns / 9) ns) k) c.move_last.ensures.items
    ∙ ap (λ m. block_at (blocks_from m (last_moved (9 * c.args.block) 9 numbers)) k) count
    ∙ block_stays numbers all c.args.block e within k differs (omega (arith, was, n, more))
    ∙ ap (λ (s : BlocksState). block_at s.items k) c.self.view_is
