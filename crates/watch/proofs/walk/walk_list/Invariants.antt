use Rattle.calculus.specs.Search.{literals_on, value_on}
use Rattle.watch.specs.Families.{base_of}
use Rattle.watch.specs.State.{NoneCame, members}
use Rattle.watch.specs.Walks.{IsSifting, behind}
use Rattle.watch.proofs.Looking.{IsExamining}
use Rattle.watch.proofs.Walking.{steps}
use Rattle.watch.proofs.walk.walk_list.Given as goal

abbrev pub invariant-loop-at : goal.invariant-loop-at
invariant-loop-at g l =
    IsExamining g.S.Side.PIVOT l.prefix (literals_on l.trail.placed) l.initial.first l.initial.second l.initial.rows
    l.first l.second l.rows
    × IsSifting g.S.Side.PIVOT (value_on l.trail.placed) (base_of l.fn.family) l.name l.at l.rows
    × NoneCame g.S.Side.PIVOT l.initial.rows l.rows

abbrev pub decreases-loop-at : goal.decreases-loop-at
decreases-loop-at g l = steps (behind l.rows (base_of l.fn.family))
    (members g.S.Side.PIVOT l.rows (base_of l.fn.family) l.name) l.at
