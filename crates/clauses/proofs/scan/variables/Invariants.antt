use Rattle.std.proofs.Common.{◌≡◌, ◌≤◌, length, take}
use Rattle.clauses.specs.Clause.{variables_of}
use Rattle.clauses.proofs.scan.variables.Given as goal

-- the variables so far are counted
abbrev pub invariant-loop-i : goal.invariant-loop-i
invariant-loop-i l = record { small : l.count ≤ l.i; counted : l.count ≡ length (variables_of (take l.i l.numbers)) }
