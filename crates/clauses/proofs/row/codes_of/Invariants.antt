use Rattle.std.proofs.Common.{◌≡◌, take}
use Rattle.clauses.specs.Codes.{codes_of}
use Rattle.clauses.proofs.row.codes_of.Given as goal

-- the codes so far are put
abbrev pub invariant-loop-n : goal.invariant-loop-n
invariant-loop-n l = l.codes.items ≡ codes_of (take l.n-index l.numbers)
