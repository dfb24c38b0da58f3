use Rattle.std.proofs.Common.{◌≡◌, take}
use Rattle.builder.specs.Building.{row_of_sorted}
use Rattle.builder.proofs.build.row_of.Given as goal

abbrev pub invariant-loop-code : goal.invariant-loop-code
invariant-loop-code l = l.lits.items ≡ row_of_sorted (take l.code-index l.codes)
