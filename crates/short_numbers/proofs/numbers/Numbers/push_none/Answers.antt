use Rattle.std.proofs.Common.{◌≡◌, ◌+◌, ◌≤◌, List, ℕ, None, ◌++◌, length, min, replicate, vec_capacity, ap, ◌∙◌, arith}
use Rattle.std.proofs.lemmas.List.{length-append, length-replicate}
use Rattle.short_numbers.specs.Kept.{for_none, numbers_of}
use Rattle.short_numbers.specs.Lists.{NumbersState}
use Rattle.short_numbers.proofs.Kept.{none_behind, numbers_length}
use Rattle.short_numbers.proofs.numbers.Numbers.push_none.Goals as goal

pub returns-clause-items : goal.returns-clause-items
returns-clause-items c =
    let shorts = c.self.inside.shorts.items in
    let longs = c.self.inside.longs.items in
    let was : numbers_of shorts longs ≡ c.args.self.now.items = ap (λ (s : NumbersState). s.items) c.self.view_is in
    ap (λ (ls : List ℕ). numbers_of ls longs) c.put_none.ensures.items
    ∙ none_behind shorts longs c.args.count
    ∙ ap (λ ns. ns ++ replicate c.args.count None) was

pub invariant_of-self : goal.invariant_of-self
invariant_of-self c =
    let shorts = c.self.inside.shorts.items in
    let longs = c.self.inside.longs.items in
    let was : length (numbers_of shorts longs) ≡ length c.args.self.now.items =
    ap (λ (s : NumbersState). length s.items) c.self.view_is in
    let room : min (vec_capacity c.self.inside.shorts) (vec_capacity c.self.inside.longs) ≡ c.args.self.now.room =
    ap (λ (s : NumbersState). s.room) c.self.view_is in
    let n = numbers_length shorts longs in
    let l : length c.put_none.new.shorts.items ≡ length shorts + c.args.count =
    ap (λ (ls : List ℕ). length ls) c.put_none.ensures.items ∙ length-append shorts (replicate c.args.count for_none)
    ∙ ap (λ (m : ℕ). length shorts + m) (length-replicate c.args.count for_none) in
    let r : length c.args.self.now.items + c.args.count ≤ c.args.self.now.room = c.requires in
    omega (arith, was, room, n, l, r)
