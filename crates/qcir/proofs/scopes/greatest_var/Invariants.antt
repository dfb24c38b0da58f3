use Rattle.std.proofs.Common.{◌≡◌, take}
use Rattle.prefix.specs.Scopes.{all_variables}
use Rattle.qcir.specs.Translation.{greatest_of}
use Rattle.qcir.proofs.scopes.greatest_var.Given as goal

-- it is the greatest of the scopes so far
abbrev pub invariant-loop-s : goal.invariant-loop-s
invariant-loop-s l = l.greatest ≡ greatest_of (all_variables (take l.s l.prefix))
