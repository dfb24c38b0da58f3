use Rattle.std.proofs.Common.{take}
use Rattle.std.specs.List.{AllByRecursion}
use Rattle.calculus.specs.Rows.{IsRow}
use Rattle.cores.specs.Cores.{grouped_in}
use Rattle.test_cores.proofs.core_tests.are_grouped.Given as goal

abbrev pub invariant-loop-part : goal.invariant-loop-part
invariant-loop-part l = AllByRecursion (IsRow l.prefix) (grouped_in (take l.part-index l.parts))
