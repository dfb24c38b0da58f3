-- What a board says of either family of lists.
use Rattle.std.proofs.Common.{ℕ, ◌+◌, ◌<◌, List, Option, arith}
use Rattle.prefix.specs.declared.quant.Quant.{Quant}
use Rattle.rows.specs.Arena.{Arena}
use Rattle.watch.specs.declared.board.Family.{Family}
use Rattle.watch.specs.declared.board.Family.TheVariants.{First, Second}
use Rattle.watch.specs.Families.{base_of, lists_of}
use Rattle.watch.specs.Links.{IsLinked}
use Rattle.watch.specs.State.{IsBoard}

pub linked_of : (pivot : Quant) (family : Family) (first second : List (Option ℕ)) (rows : Arena)
    → IsBoard pivot first second rows → IsLinked pivot (lists_of family first second) rows (base_of family)
linked_of pivot First first second rows board = board.ones
linked_of pivot Second first second rows board = board.twos

pub base_low : (family : Family) → base_of family + 2 < 7
base_low First = omega arith
base_low Second = omega arith
