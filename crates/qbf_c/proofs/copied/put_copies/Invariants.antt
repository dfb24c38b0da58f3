use Rattle.std.proofs.Common.{◌≡◌, ◌++◌, take}
use Rattle.qbf_c.proofs.copied.put_copies.Given as goal

-- the copies so far
abbrev pub invariant-loop-clause : goal.invariant-loop-clause
invariant-loop-clause l = l.rows.items ≡ l.initial.rows.items ++ take l.clause-index l.clauses
