use Rattle.std.proofs.Common.{◌≡◌, map, take}
use Rattle.clauses.specs.Codes.{literal_of}
use Rattle.clauses.proofs.row.literals_of.Given as goal

-- the literals so far are put
abbrev pub invariant-loop-code : goal.invariant-loop-code
invariant-loop-code l = l.lits.items ≡ map literal_of (take l.code-index l.codes)
