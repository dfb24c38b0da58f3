use Rattle.std.proofs.Common.{◌≡◌, ◌≤◌, ◌+◌, ◌-◌, ◌/◌, ◌∷◌, ◌++◌, [], List, None, Option, Some, ℕ, suc, length, replicate, set, ap, ap₂, refl, ◌∙◌, arith}
use Rattle.std.proofs.lemmas.List.{length-append, set-append_right}
use Rattle.rows.specs.Blocks.{BlocksState, blocks_from}
use Rattle.rows.proofs.Cutting.{block_more, blocks_length, one_block}
use Rattle.rows.proofs.blocks.Blocks.push.Goals as goal

-- the numbers of a block are put in
added : (numbers more new : List (Option ℕ)) (at owner : ℕ) → more ≡ numbers ++ replicate 9 None
    → at ≡ length numbers → new ≡ set more (at + 8) (Some owner) → new ≡ numbers ++ one_block owner
added numbers more new at owner nine begins is =
    let eight : length numbers + 8 - length numbers ≡ 8 = omega arith in
    is ∙ ap₂ (λ (ns : List (Option ℕ)) (n : ℕ). set ns (n + 8) (Some owner)) nine begins
    ∙ set-append_right numbers (replicate 9 None) (length numbers) (length numbers + 8) (Some owner) refl (omega arith)
    ∙ ap (λ n. numbers ++ set (replicate 9 None) n (Some owner)) eight

pub push_none-requires : goal.push_none-requires
push_none-requires c =
    let numbers = c.self.inside.numbers.items in
    let was : length (blocks_from (length numbers / 9) numbers) ≡ length c.args.self.now.items =
    ap (λ (s : BlocksState). length s.items) c.self.view_is in
    let room : c.self.inside.numbers.room / 9 ≡ c.args.self.now.room =
    ap (λ (s : BlocksState). s.room) c.self.view_is in
    let n = blocks_length (length numbers / 9) numbers in
    let h : length c.args.self.now.items + 1 ≤ c.args.self.now.room = c.requires.room in
    let e = c.self.invariant.nine in
    omega (arith, was, room, n, h, e)

pub invariant_of-self : goal.invariant_of-self
invariant_of-self c =
    let numbers = c.self.inside.numbers.items in
    let was : length (blocks_from (length numbers / 9) numbers) ≡ length c.args.self.now.items =
    ap (λ (s : BlocksState). length s.items) c.self.view_is in
    let n = blocks_length (length numbers / 9) numbers in
    let few = c.requires.few in
    let e = c.self.invariant.nine in
    let new = added numbers c.push_none.new.self.items c.set.new.self.items c.len-at.result c.args.owner
    c.push_none.ensures.items c.len-at.ensures c.set.ensures.items in
    let l : length c.set.new.self.items ≡ length numbers + 9 = ap (λ (ns : List (Option ℕ)). length ns) new
    ∙ length-append numbers (one_block c.args.owner) in
    record {
      nine = omega (arith, e, l);
      few = omega (arith, was, n, few, e, l);
    }

pub returns-clause-items : goal.returns-clause-items
returns-clause-items c =
    let numbers = c.self.inside.numbers.items in
    let e = c.self.invariant.nine in
    let new = added numbers c.push_none.new.self.items c.set.new.self.items c.len-at.result c.args.owner
    c.push_none.ensures.items c.len-at.ensures c.set.ensures.items in
    let l = length-append numbers (one_block c.args.owner) in
    let count : length (numbers ++ one_block c.args.owner) / 9 ≡ suc (length numbers / 9) = omega (arith, e, l) in
    ap (λ (ns : List (Option ℕ)). blocks_from (length ns / 9) ns) new
    ∙ ap (λ m. blocks_from m (numbers ++ one_block c.args.owner)) count
    ∙ block_more (length numbers / 9) numbers c.args.owner e
    ∙ ap (λ (s : BlocksState). s.items ++ record { owner = c.args.owner; links = replicate 8 None } ∷ []) c.self.view_is
