use Rattle.std.proofs.Common.{◌≡◌, take, true}
use Rattle.derive.specs.Inputs.{ListsAll}
use Rattle.derive.specs.State.{has_rows}
use Rattle.derive.proofs.derivation.Derivation.add_each.Given as goal

abbrev pub invariant-loop-clause : goal.invariant-loop-clause
invariant-loop-clause l =
    ListsAll l.prefix l.frame l.fn.self l.self (take l.clause-index l.clauses) l.fn.reductions.items l.reductions.items
    × (has_rows l.self ≡ true)
