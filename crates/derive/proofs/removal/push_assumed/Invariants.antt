use Rattle.std.proofs.Common.{◌≡◌, ◌++◌, take}
use Rattle.calculus.specs.Verdicts.{finished}
use Rattle.derive.proofs.removal.push_assumed.Given as goal

abbrev pub invariant-loop-lit : goal.invariant-loop-lit
invariant-loop-lit l = l.out.items ≡ l.fn.out.items ++ finished l.assumptions (take l.lit-index l.lits)
