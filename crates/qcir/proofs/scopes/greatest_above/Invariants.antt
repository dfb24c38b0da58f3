use Rattle.std.proofs.Common.{◌≡◌, max}
use Rattle.qcir.specs.Translation.{greatest_of}
use Rattle.qcir.proofs.scopes.greatest_above.Given as goal

-- with those that are left it is the greatest of all
abbrev pub invariant-loop-v : goal.invariant-loop-v
invariant-loop-v l = max l.greatest (greatest_of l.v-iterator) ≡ max l.least (greatest_of l.vars.keys)
