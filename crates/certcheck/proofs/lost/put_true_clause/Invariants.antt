use Rattle.std.proofs.Common.{◌≡◌, ◌<◌, List, ◌∷◌, map, take}
use Rattle.std.specs.List.{All}
use Rattle.builder.specs.Rows.{flipped}
use Rattle.certcheck.specs.Check.{Named, number_of}
use Rattle.certcheck.specs.Tables.{IsTableOf}
use Rattle.certcheck.proofs.lost.put_true_clause.Given as goal

-- the literals so far
abbrev pub invariant-loop-lit : goal.invariant-loop-lit
invariant-loop-lit l = record {
  items : (ns : List Named) → IsTableOf l.table ns
      → l.buffer.items ≡ flipped l.selector ∷ map (number_of ns) (take l.lit-index l.clause);
  below : All (λ n. n < 2097154) l.buffer.items;
}
