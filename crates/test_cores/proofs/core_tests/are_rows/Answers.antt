use Rattle.std.proofs.Common.{List, refl, subst}
use Rattle.std.specs.List.{AllByRecursion}
use Rattle.std.proofs.lemmas.List.{take_all}
use Rattle.calculus.specs.Rows.{IsRow}
use Rattle.test_cores.proofs.Looking.{one_row}
use Rattle.test_cores.proofs.core_tests.are_rows.Goals as goal

pub loop-row-preserved : goal.loop-row-preserved
loop-row-preserved c =
    let row = rw c.lits.ensures at c.if-not-is_row.ensures in
    one_row (IsRow c.args.prefix.now) c.args.rows.now c.loop-row.row-index c.row-item.result c.loop-row-test.true
    c.row-item.is c.loop-row.invariant (row refl)

pub returns : goal.returns
returns c _ =
    subst (AllByRecursion (IsRow c.args.prefix.now))
    (take_all c.loop-row.row-index c.args.rows.now c.loop-row-test.false) c.loop-row.invariant
