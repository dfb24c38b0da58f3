use Rattle.std.proofs.Common.{◌≡◌, ◌<◌, List, take}
use Rattle.std.specs.List.{All}
use Rattle.prefix.specs.Literal.{Literal}
use Rattle.certcheck.specs.Check.{given, named_inputs}
use Rattle.certcheck.specs.Tables.{IsTableOfAssumed}
use Rattle.certcheck.proofs.given.given_inputs.Given as goal

-- the inputs so far
abbrev pub invariant-loop-i : goal.invariant-loop-i
invariant-loop-i l = record {
  value : (assumptions : List Literal) → IsTableOfAssumed l.assumed assumptions
      → l.given.items ≡ given assumptions (named_inputs 0 (take l.i l.inputs));
  below : All (λ n. n < 2097154) l.given.items;
}
