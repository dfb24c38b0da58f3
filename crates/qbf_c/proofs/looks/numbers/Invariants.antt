use Rattle.std.proofs.Common.{◌≡◌, ◌++◌}
use Rattle.qbf_c.proofs.looks.numbers.Given as goal

-- the numbers so far, and those that follow
abbrev pub invariant-loop-v : goal.invariant-loop-v
invariant-loop-v l = l.numbers.items ++ l.v-iterator ≡ l.vars.keys
