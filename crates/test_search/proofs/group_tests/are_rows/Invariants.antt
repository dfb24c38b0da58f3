use Rattle.std.proofs.Common.{take}
use Rattle.std.specs.List.{All}
use Rattle.calculus.specs.Rows.{IsRow}
use Rattle.test_search.proofs.group_tests.are_rows.Given as goal

abbrev pub invariant-loop-clause : goal.invariant-loop-clause
invariant-loop-clause l = All (IsRow l.prefix) (take l.clause-index l.clauses)
