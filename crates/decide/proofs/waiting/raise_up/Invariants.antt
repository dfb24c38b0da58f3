use Rattle.std.proofs.Common.{◌*◌, ◌<◌}
use Rattle.decide.specs.Tree.{IsTree}
use Rattle.decide.proofs.waiting.raise_up.Given as goal

abbrev pub invariant-loop-i : goal.invariant-loop-i
invariant-loop-i l = IsTree l.nodes.items l.keys × (l.i < 2 * l.keys)

abbrev pub decreases-loop-i : goal.decreases-loop-i
decreases-loop-i l = l.i
