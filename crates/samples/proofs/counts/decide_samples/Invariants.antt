use Rattle.std.proofs.Common.{◌≡◌, ◌+◌}
use Rattle.samples.specs.Samples.{false_ones, true_ones}
use Rattle.samples.proofs.counts.decide_samples.Given as goal

-- the formulas so far are counted
abbrev pub invariant-loop-i : goal.invariant-loop-i
invariant-loop-i l = record {
  sat : l.counts.sat ≡ true_ones l.fn.seed l.i;
  unsat : l.counts.unsat ≡ false_ones l.fn.seed l.i;
  all : l.counts.sat + l.counts.unsat ≡ l.i;
}
