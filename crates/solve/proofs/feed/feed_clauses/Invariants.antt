use Rattle.std.proofs.Common.{take}
use Rattle.solve.specs.Feeding.{HoldsFormula}
use Rattle.solve.proofs.feed.feed_clauses.Given as goal

-- the engine holds the clauses so far
abbrev pub invariant-loop-clause : goal.invariant-loop-clause
invariant-loop-clause l = HoldsFormula l.fn.engine.formula.scopes (take l.clause-index l.clauses) l.engine
