use Rattle.std.proofs.Common.{◌≡◌, ◌+◌, ◌-◌, ◌<◌, List, ℕ, None, Option, length, get_or, set, take, sym, ap, ◌∙◌, arith}
use Rattle.short_numbers.specs.Kept.{numbers_of}
use Rattle.short_numbers.specs.Lists.{NumbersState}
use Rattle.short_numbers.proofs.Kept.{first_ones, numbers_length}
use Rattle.short_numbers.proofs.Moving.{all_moved, one_more, read_at, so_far}
use Rattle.short_numbers.proofs.numbers.Numbers.move_last.Goals as goal

pub loop-k-preserved : goal.loop-k-preserved
loop-k-preserved c =
    let items = c.args.self.now.items in
    let k = c.loop-k.k in
    let now = numbers_of c.loop-k.self-inside.shorts.items c.loop-k.self-inside.longs.items in
    let was : length (numbers_of c.self.inside.shorts.items c.self.inside.longs.items) ≡ length items =
    ap (λ (s : NumbersState). length s.items) c.self.view_is in
    let n = numbers_length c.self.inside.shorts.items c.self.inside.longs.items in
    let below : k < c.args.count = c.loop-k-test.true in
    let from : c.len.result - c.args.count ≡ length items - c.args.count =
    ap (λ (m : ℕ). m - c.args.count) (c.len.ensures ∙ c.self.inside.shorts.ok.0 ∙ sym n ∙ was) in
    let read : c.read-number.result ≡ get_or items ((length items - c.args.count) + k) None = c.read-number.ensures
    ∙ ap (λ (ns : List (Option ℕ)). get_or ns ((c.len.result - c.args.count) + k) None) c.loop-k.invariant.items
    ∙ ap (λ (m : ℕ). get_or (so_far items c.args.to c.args.count k) (m + k) None) from
    ∙ read_at items c.args.to c.args.count c.requires k below in
    record {
      items = c.write.ensures.items
          ∙ ap (λ (ns : List (Option ℕ)). set ns (c.args.to + k) c.read-number.result) c.loop-k.invariant.items
          ∙ ap (set (so_far items c.args.to c.args.count k) (c.args.to + k)) read
          ∙ one_more items c.args.to c.args.count c.requires k below;
      size = c.write.ensures.size ∙ c.loop-k.invariant.size;
      room = (let s = c.write.ensures.size in let l = c.write.ensures.longs in let r = c.loop-k.invariant.room in
          omega (arith, s, l, r));
      shorts = c.write.ensures.shorts ∙ c.loop-k.invariant.shorts;
      longs = (let l = c.write.ensures.longs in let r = c.loop-k.invariant.longs in omega (arith, l, r));
    }

pub returns-clause-items : goal.returns-clause-items
returns-clause-items c =
    let items = c.args.self.now.items in
    let shorts = c.loop-k.self-inside.shorts.items in
    let longs = c.loop-k.self-inside.longs.items in
    let was : length (numbers_of c.self.inside.shorts.items c.self.inside.longs.items) ≡ length items =
    ap (λ (s : NumbersState). length s.items) c.self.view_is in
    let n = numbers_length c.self.inside.shorts.items c.self.inside.longs.items in
    let from : c.len.result - c.args.count ≡ length items - c.args.count =
    ap (λ (m : ℕ). m - c.args.count) (c.len.ensures ∙ c.self.inside.shorts.ok.0 ∙ sym n ∙ was) in
    let ended = c.loop-k-test.false in
    let within = c.loop-k.auto.k-end in
    let k : c.loop-k.k ≡ c.args.count = omega (arith, ended, within) in
    ap (λ (ls : List ℕ). numbers_of ls c.truncate-2.new.self.items) c.truncate.ensures.items
    ∙ ap (numbers_of (take (c.len.result - c.args.count) shorts)) c.truncate-2.ensures.items
    ∙ first_ones shorts longs (c.len.result - c.args.count)
    ∙ ap (take (c.len.result - c.args.count)) (c.loop-k.invariant.items ∙ ap (so_far items c.args.to c.args.count) k)
    ∙ ap (λ (m : ℕ). take m (so_far items c.args.to c.args.count c.args.count)) from
    ∙ all_moved items c.args.to c.args.count c.requires
