use Rattle.std.proofs.Common.{Contains, take}
use Rattle.std.specs.Prelude.{IsTrue}
use Rattle.truth.specs.Matrix.{clause_true}
use Rattle.calculus.specs.Rows.{Row}
use Rattle.calculus.specs.Search.{value_on}
use Rattle.test_search.proofs.cover_tests.are_true.Given as goal

abbrev pub invariant-loop-clause : goal.invariant-loop-clause
invariant-loop-clause l = (clause : Row) → Contains (take l.clause-index l.matrix) clause
    → IsTrue (clause_true (value_on l.trail.placed) clause)
