use Rattle.std.proofs.Common.{sym, ◌∙◌}
use Rattle.builder.proofs.Adding.{adds_row, builds_same}
use Rattle.builder.proofs.Sorting.{left_out_is, no_one}
use Rattle.builder.proofs.build.RowBuilder.put_sorted.Goals as goal

pub row_of-requires-clause-none : goal.row_of-requires-clause-none
row_of-requires-clause-none c =
    no_one c.args.codes.now c.requires.ascending (sym c.is_left_out.ensures ∙ c.if-is_left_out.false)

pub returns-then-is_left_out-clause-adds : goal.returns-then-is_left_out-clause-adds
returns-then-is_left_out-clause-adds c = λ clause same cs b.
    builds_same c.args.self.now cs clause
    (sym (left_out_is clause c.args.codes.now c.requires.ascending same) ∙ sym c.is_left_out.ensures
    ∙ c.if-is_left_out.true) b

pub returns-clause-adds : goal.returns-clause-adds
returns-clause-adds c =
    adds_row c.add.result c.args.self.now c.add.new.self c.args.codes.now _ c.requires.ascending
    (sym c.is_left_out.ensures ∙ c.if-is_left_out.false) c.in_ok-row.ensures c.add.ensures.count
    c.add.ensures.amount c.add.ensures.rows
