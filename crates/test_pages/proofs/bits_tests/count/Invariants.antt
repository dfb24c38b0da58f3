use Rattle.std.proofs.Common.{◌≤◌}
use Rattle.test_pages.proofs.bits_tests.count.Given as goal

abbrev pub invariant-loop-at : goal.invariant-loop-at
invariant-loop-at l = l.count ≤ l.at
