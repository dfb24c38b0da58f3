use Rattle.std.proofs.Common.{take}
use Rattle.std.specs.List.{AllByRecursion}
use Rattle.calculus.specs.Rows.{IsRow}
use Rattle.test_cores.proofs.core_tests.are_rows.Given as goal

abbrev pub invariant-loop-row : goal.invariant-loop-row
invariant-loop-row l = AllByRecursion (IsRow l.prefix) (take l.row-index l.rows)
