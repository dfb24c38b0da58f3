use Rattle.std.proofs.Common.{◌≡◌, ◌*◌, ◌+◌, ◌/◌, ◌%◌, ◌<◌, length, get_or, set, ap, ◌∙◌, arith, None}
use Rattle.std.proofs.lemmas.List.{get_or_read}
use Rattle.watch.specs.Entries.{heads_of, no_slot, slot_at}
use Rattle.watch.proofs.Laying.{entry_heads, head_read}
use Rattle.watch.proofs.lists.swap_entry.Goals as goal

pub returns-clause-heads : goal.returns-clause-heads
returns-clause-heads c =
    let slots = c.give_entries.new.slots.items in
    let entries = c.give_entries.new.entries.items in
    let here : c.args.place < 4 * length slots = omega (arith, c.requires.within, c.give_entries.ensures.size) in
    let var : c.args.place / 4 < length slots = omega arith in
    let slot : c.index.result.now ≡ slot_at slots (c.args.place / 4) =
    get_or_read slots (c.args.place / 4) c.index.result.now var c.index.ensures no_slot in
    ap (λ es. heads_of es slots) c.set.ensures.items
    ∙ ap (λ s. heads_of (set entries (4 * s + c.args.place % 4) c.args.first) slots) slot
    ∙ entry_heads slots entries c.give_entries.new.entries.room c.give_entries.ensures.laid c.args.place
    c.args.first here c.give_entries.ensures.given
    ∙ ap (λ hs. set hs c.args.place c.args.first) c.give_entries.ensures.heads

pub returns-clause-was : goal.returns-clause-was
returns-clause-was c =
    let slots = c.give_entries.new.slots.items in
    let here : c.args.place < 4 * length slots = omega (arith, c.requires.within, c.give_entries.ensures.size) in
    head_read c.give_entries.new.entries.items slots c.args.place c.index.result.now c.get-was.result here
    c.index.ensures c.get-was.ensures
    ∙ ap (λ hs. get_or hs c.args.place None) c.give_entries.ensures.heads
