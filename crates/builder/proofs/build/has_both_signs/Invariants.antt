use Rattle.std.proofs.Common.{◌≡◌, false, take}
use Rattle.clauses.specs.Codes.{has_pair}
use Rattle.builder.proofs.build.has_both_signs.Given as goal

-- no pair so far
abbrev pub invariant-loop-i : goal.invariant-loop-i
invariant-loop-i l = has_pair (take l.i l.codes) ≡ false
