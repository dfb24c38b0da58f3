use Rattle.std.proofs.Common.{◌≡◌, take}
use Rattle.prefix.specs.Scopes.{all_variables}
use Rattle.qrp_trace.specs.Texts.{greatest}
use Rattle.qrp_trace.proofs.text.greatest_variable.Given as goal

abbrev pub invariant-loop-s : goal.invariant-loop-s
invariant-loop-s l = l.most ≡ greatest (all_variables (take l.s l.prefix))
