use Rattle.std.proofs.Common.{List, ◌++◌, map, take}
use Rattle.calculus.specs.Rows.{Row}
use Rattle.calculus.specs.Search.{value_on}
use Rattle.cover.specs.Choices.{AreChosenBut}
use Rattle.cover.proofs.solution.choose_in_part.Given as goal

-- a front of the part is passed
abbrev pub invariant-loop-clause : goal.invariant-loop-clause
invariant-loop-clause l = (before : List Row)
    → AreChosenBut l.prefix (value_on l.trail.placed) (map (λ row. row.now) l.initial.others.items) before
    l.initial.table.items
    → AreChosenBut l.prefix (value_on l.trail.placed) (map (λ row. row.now) l.others.items)
    (before ++ take l.clause-index l.part) l.table.items
