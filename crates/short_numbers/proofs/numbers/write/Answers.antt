use Rattle.std.proofs.Common.{get_or, set, sym, ap, ◌∙◌}
use Rattle.short_numbers.specs.Kept.{for_none, numbers_of}
use Rattle.short_numbers.proofs.Kept.{short_alone, short_set}
use Rattle.short_numbers.proofs.numbers.write.Goals as goal

pub returns-in-None-clause-items : goal.returns-in-None-clause-items
returns-in-None-clause-items c =
    short_set c.args.shorts.now.items c.args.longs.now.items c.args.at for_none
    ∙ ap (set (numbers_of c.args.shorts.now.items c.args.longs.now.items) c.args.at) (sym c.in-None.is)

pub returns-then-number-clause-items : goal.returns-then-number-clause-items
returns-then-number-clause-items c =
    short_set c.args.shorts.now.items c.args.longs.now.items c.args.at c.in-Some.number
    ∙ ap (set (numbers_of c.args.shorts.now.items c.args.longs.now.items) c.args.at)
    (short_alone c.in-Some.number (get_or c.args.longs.now.items c.args.at 0) c.if-number.true ∙ sym c.in-Some.is)
