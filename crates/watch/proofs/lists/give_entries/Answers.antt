use Rattle.std.proofs.Common.{sym, ◌∙◌}
use Rattle.std.proofs.lemmas.List.{get_or_read}
use Rattle.watch.specs.Entries.{no_slot}
use Rattle.watch.proofs.lists.give_entries.Goals as goal

pub add_entries-requires-clause-none : goal.add_entries-requires-clause-none
add_entries-requires-clause-none c =
    sym (get_or_read c.args.slots.now.items c.args.i c.index.result.now c.requires.within c.index.ensures no_slot)
    ∙ c.if-index.true
