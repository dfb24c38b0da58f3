use Rattle.std.proofs.Common.{◌≡◌, ◌≢◌, ◌<◌, ℕ, None, Some, List, length, get_or, sym, ap, ◌∙◌}
use Rattle.std.proofs.lemmas.List.{get_or_default}
use Rattle.short_numbers.specs.Kept.{for_none, number_of, numbers_of}
use Rattle.short_numbers.proofs.Kept.{long_alone, number_at, short_alone}
use Rattle.short_numbers.proofs.numbers.read.Goals as goal

-- what a short number stands for is what the list has there
standing : (shorts longs : List ℕ) (at short : ℕ) → at < length shorts → short ≡ get_or shorts at short
    → number_of short (get_or longs at 0) ≡ get_or (numbers_of shorts longs) at None
standing shorts longs at short within is =
    ap (λ (n : ℕ). number_of n (get_or longs at 0)) (is ∙ get_or_default shorts at short for_none within)
    ∙ sym (number_at shorts longs at)

pub returns-then-short-lt-FOR_LONG : goal.returns-then-short-lt-FOR_LONG
returns-then-short-lt-FOR_LONG c =
    let short = c.index-short.result.now in
    sym (short_alone short (get_or c.args.longs.now.items c.args.at 0) c.if-short-lt-FOR_LONG.true)
    ∙ standing c.args.shorts.now.items c.args.longs.now.items c.args.at short c.requires c.index-short.ensures

pub returns-then-short : goal.returns-then-short
returns-then-short c =
    let short = c.index-short.result.now in
    let none : short ≡ for_none = c.if-short.true in
    sym (ap (λ (n : ℕ). number_of n (get_or c.args.longs.now.items c.args.at 0)) none)
    ∙ standing c.args.shorts.now.items c.args.longs.now.items c.args.at short c.requires c.index-short.ensures

pub returns : goal.returns
returns c =
    let short = c.index-short.result.now in
    let long = get_or c.args.longs.now.items c.args.at 0 in
    let small = c.type_inv.shorts c.args.at short c.requires in
    let is = c.index-short.ensures in
    let fits : short < 4294967296 = rw (← is) at small in
    let differs : short ≢ for_none = c.if-short.false in
    ap (λ (n : ℕ). Some n) c.read_long.ensures
    ∙ sym (long_alone short long c.if-short-lt-FOR_LONG.false fits differs)
    ∙ standing c.args.shorts.now.items c.args.longs.now.items c.args.at short c.requires c.index-short.ensures
