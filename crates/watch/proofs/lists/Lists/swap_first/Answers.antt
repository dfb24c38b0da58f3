use Rattle.std.proofs.Common.{◌<◌, ◌≤◌, ◌++◌, length, set, sym, ap, ◌∙◌, arith, length-append}
use Rattle.std.proofs.lemmas.List.{set-append_left, set-append_right}
use Rattle.watch.specs.Entries.{heads_of}
use Rattle.watch.proofs.Laying.{length_heads}
use Rattle.watch.proofs.lists.Lists.swap_first.Goals as goal

pub swap_entry-requires-clause-within : goal.swap_entry-requires-clause-within
swap_entry-requires-clause-within c =
    let heads = heads_of c.self.inside.entries.items c.self.inside.slots.items in
    let all = length-append c.self.inside.low heads in
    let size = length_heads c.self.inside.entries.items c.self.inside.slots.items in
    let there = ap length c.self.view_is in
    omega (arith, c.self.invariant.0)

pub returns-then-name-lt4-clause-now : goal.returns-then-name-lt4-clause-now
returns-then-name-lt4-clause-now c =
    let heads = heads_of c.self.inside.entries.items c.self.inside.slots.items in
    let below : c.args.name < length c.self.inside.low = omega (arith, c.self.invariant.0) in
    sym (set-append_left c.self.inside.low heads c.args.name c.args.first below)
    ∙ ap (λ hs. set hs c.args.name c.args.first) c.self.view_is

pub returns-clause-now : goal.returns-clause-now
returns-clause-now c =
    let heads = heads_of c.self.inside.entries.items c.self.inside.slots.items in
    let past : 4 ≤ c.args.name = omega arith in
    ap (λ hs. c.self.inside.low ++ hs) c.swap_entry.ensures.heads
    ∙ (sym (set-append_right c.self.inside.low heads 4 c.args.name c.args.first c.self.invariant.0 past)
    ∙ ap (λ hs. set hs c.args.name c.args.first) c.self.view_is)
