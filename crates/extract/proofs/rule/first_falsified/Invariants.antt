use Rattle.std.proofs.Common.{drop, map, length, ◌≤◌}
use Rattle.step_core.specs.Cores.{core_rows}
use Rattle.extract.specs.Tables.{removed_of, AreKept}
use Rattle.extract.proofs.Rules.{IsRuleEdge}
use Rattle.extract.proofs.rule.first_falsified.Given as goal

abbrev pub invariant-loop-left : goal.invariant-loop-left
invariant-loop-left l =
    (l.left ≤ length l.removals) × IsRuleEdge l.pivot l.initial.aig l.aig l.table.items
    (drop l.left (map (removed_of (core_rows l.core.lines)) l.removals)) l.rest × AreKept l.pivot
    (core_rows l.core.lines) l.aig l.table.items l.kept.items

abbrev pub decreases-loop-left : goal.decreases-loop-left
decreases-loop-left l = l.left
