use Rattle.std.proofs.Common.{◌≡◌, List, [], map, take}
use Rattle.certcheck.specs.Check.{Named, number_of}
use Rattle.builder.specs.Building.{Adds}
use Rattle.certcheck.specs.Tables.{IsTableOf}
use Rattle.certcheck.proofs.Groups.{pairs_of}
use Rattle.certcheck.proofs.lost.put_false_clause.Given as goal

-- the literals so far
abbrev pub invariant-loop-lit : goal.invariant-loop-lit
invariant-loop-lit l = record {
  adds : (ns : List Named) → IsTableOf l.table ns
      → Adds l.initial.build l.build (pairs_of l.selector (map (number_of ns) (take l.lit-index l.clause)));
  empty : l.buffer.items ≡ [];
}
