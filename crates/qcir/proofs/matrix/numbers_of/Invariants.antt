use Rattle.std.proofs.Common.{◌≡◌, take}
use Rattle.std.specs.List.{AllByRecursion}
use Rattle.clauses.specs.Codes.{IsInRange}
use Rattle.qcir.specs.Translation.{written}
use Rattle.qcir.proofs.matrix.numbers_of.Given as goal

-- the numbers of the literals so far are put, and all are in range
abbrev pub invariant-loop-lit : goal.invariant-loop-lit
invariant-loop-lit l = record {
  value : l.numbers.items ≡ written (take l.lit-index l.clause);
  range : AllByRecursion IsInRange l.numbers.items;
}
