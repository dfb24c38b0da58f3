use Rattle.std.proofs.Common.{◌≡◌, ◌<◌, ◌-◌, ℕ, Some, List, ◌+◌, ◌++◌, replicate, length, set, ap, ◌∙◌, arith}
use Rattle.std.proofs.lemmas.List.{length-append, length-replicate}
use Rattle.short_numbers.specs.Kept.{for_long, numbers_of}
use Rattle.short_numbers.proofs.Kept.{long_set, zeros_behind}
use Rattle.short_numbers.proofs.numbers.write_long.Goals as goal

pub returns-clause-items : goal.returns-clause-items
returns-clause-items c =
    let shorts = c.args.shorts.now.items in
    let longs = c.args.longs.now.items in
    let same : c.fill.new.longs.items ≡ longs ++ replicate (length shorts - length longs) 0 = c.fill.ensures.items
    ∙ ap (λ (n : ℕ). longs ++ replicate (n - length longs) 0) (c.len.ensures ∙ c.args.shorts.now.ok.0) in
    let l : length c.fill.new.longs.items ≡ length longs + (length shorts - length longs) =
    ap (λ (ls : List ℕ). length ls) same ∙ length-append longs (replicate (length shorts - length longs) 0)
    ∙ ap (λ (n : ℕ). length longs + n) (length-replicate (length shorts - length longs) 0) in
    let within = c.requires.within in
    let there : c.args.at < length c.fill.new.longs.items = omega (arith, l, within) in
    long_set shorts c.fill.new.longs.items c.args.at for_long c.args.number there
    ∙ ap (λ (ls : List ℕ). set (numbers_of shorts ls) c.args.at (Some c.args.number)) same
    ∙ ap (λ ns. set ns c.args.at (Some c.args.number)) (zeros_behind shorts longs (length shorts - length longs))
