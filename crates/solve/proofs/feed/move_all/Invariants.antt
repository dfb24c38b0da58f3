use Rattle.std.proofs.Common.{◌≡◌, ◌++◌, List, length, reverse}
use Rattle.prefix.specs.Literal.{Literal}
use Rattle.solve.specs.Feeding.{HoldsFormula}
use Rattle.solve.proofs.feed.move_all.Given as goal

-- the engine holds the clauses that have moved, and the others are to come, the last of them first
abbrev pub invariant-loop-clause : goal.invariant-loop-clause
invariant-loop-clause l = (moved : List (List Literal)) × HoldsFormula l.fn.engine.formula.scopes moved l.engine
    × (moved ++ reverse l.clauses.items ≡ reverse l.fn.clauses.items)

abbrev pub decreases-loop-clause : goal.decreases-loop-clause
decreases-loop-clause l = length l.clauses.items
