use Rattle.std.proofs.Common.{List, ap, refl, subst}
use Rattle.std.specs.List.{AllByRecursion}
use Rattle.std.proofs.lemmas.List.{take_all}
use Rattle.calculus.specs.Rows.{IsRow}
use Rattle.cores.specs.Cores.{grouped_in}
use Rattle.test_cores.proofs.Looking.{one_group}
use Rattle.test_cores.proofs.core_tests.are_grouped.Goals as goal

pub loop-part-preserved : goal.loop-part-preserved
loop-part-preserved c =
    let rows = rw c.clauses.ensures at c.if-not-are_rows.ensures in
    one_group (IsRow c.args.prefix.now) c.args.parts.now c.loop-part.part-index c.part-item.result
    c.loop-part-test.true c.part-item.is c.loop-part.invariant (rows refl)

pub returns : goal.returns
returns c _ =
    subst (AllByRecursion (IsRow c.args.prefix.now))
    (ap grouped_in (take_all c.loop-part.part-index c.args.parts.now c.loop-part-test.false)) c.loop-part.invariant
