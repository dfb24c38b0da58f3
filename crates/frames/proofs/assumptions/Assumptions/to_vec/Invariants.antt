use Rattle.std.proofs.Common.{◌≡◌, ◌++◌}
use Rattle.frames.specs.Kept.{literals_of}
use Rattle.frames.proofs.assumptions.Assumptions.to_vec.Given as goal

-- the list, and the literals that are left
abbrev pub invariant-loop-v : goal.invariant-loop-v
invariant-loop-v l = l.lits.items ++ literals_of l.v-iterator ≡ l.self
