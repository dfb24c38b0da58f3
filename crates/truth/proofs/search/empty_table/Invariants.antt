use Rattle.std.proofs.Common.{◌≡◌, ℕ, ◌<◌, take, length}
use Rattle.std.specs.List.{AllByRecursion}
use Rattle.truth.specs.Matrix.{no_values}
use Rattle.prefix.specs.Scopes.{BoundVariable}
use Rattle.truth.specs.Search.{values_of}
use Rattle.truth.specs.Order.{bounds_of}
use Rattle.truth.proofs.search.empty_table.Given as goal

-- no value yet, and a place for each variable so far
abbrev pub invariant-loop-bound : goal.invariant-loop-bound
invariant-loop-bound l =
    record {
      empty : (v : ℕ) → values_of l.table.items v ≡ no_values v;
      covers : AllByRecursion (λ (x : BoundVariable). x.variable < length l.table.items)
          (bounds_of (take l.bound-index l.order));
    }
