use Rattle.std.proofs.Common.{◌≡◌, ◌∷◌, map, take}
use Rattle.qcir.specs.Building.{literal_when}
use Rattle.qcir.proofs.matrix.whole_of.Given as goal

-- the literals so far are put
abbrev pub invariant-loop-lit : goal.invariant-loop-lit
invariant-loop-lit l = l.clause.items ≡ l.fn.first ∷ map (literal_when l.kept) (take l.lit-index l.lits)
