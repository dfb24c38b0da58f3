use Rattle.std.proofs.Common.{◌≡◌, ◌++◌, take}
use Rattle.qcir.specs.Building.{pairs}
use Rattle.qcir.specs.Translation.{rows_of}
use Rattle.qcir.proofs.matrix.put_pairs.Given as goal

-- the rows of the literals so far are put
abbrev pub invariant-loop-lit : goal.invariant-loop-lit
invariant-loop-lit l =
    l.rows.items ≡ l.initial.rows.items ++ rows_of (pairs l.first l.kept (take l.lit-index l.lits))
