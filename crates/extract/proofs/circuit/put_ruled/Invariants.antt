use Rattle.step_core.specs.Cores.{core_rows}
use Rattle.extract.specs.Tables.{AreKept}
use Rattle.extract.proofs.Filled.{IsRuledTable}
use Rattle.extract.proofs.circuit.put_ruled.Given as goal

abbrev pub invariant-loop-v : goal.invariant-loop-v
invariant-loop-v l = IsRuledTable l.pivot
    (core_rows l.core.lines) l.index.items l.vars l.v-index l.initial.table.items l.initial.aig l.aig l.table.items
    × AreKept l.pivot (core_rows l.core.lines) l.aig l.table.items l.kept.items
