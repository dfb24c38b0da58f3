use Rattle.std.proofs.Common.{◌≡◌, List, [], take}
use Rattle.builder.specs.Building.{Adds}
use Rattle.certcheck.specs.Check.{Named, lost, numbered}
use Rattle.certcheck.specs.Tables.{IsTableOf}
use Rattle.certcheck.proofs.lost.put_lost.Given as goal

-- the clauses so far
abbrev pub invariant-loop-i : goal.invariant-loop-i
invariant-loop-i l = record {
  adds : (ns : List Named) → IsTableOf l.table ns
      → Adds l.initial.build l.build (lost l.winner l.first (numbered ns (take l.i l.clauses)));
  empty : l.buffer.items ≡ [];
}
