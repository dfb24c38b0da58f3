use Rattle.std.proofs.Common.{◌≡◌, ◌++◌, drop}
use Rattle.cores.specs.Cores.{grouped_in}
use Rattle.cores.proofs.trial.matrix_with.Given as goal

-- with the groups behind it is what is wanted
abbrev pub invariant-loop-next : goal.invariant-loop-next
invariant-loop-next l = l.matrix ++ grouped_in (drop l.next l.parts) ≡ l.kept ++ grouped_in (drop l.from l.parts)
