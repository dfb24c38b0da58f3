-- How an arena keeps its rows.
use Rattle.std.specs.Prelude.{◌≡◌, ℕ, ◌≤◌, List, map, count_by, is_some, Option}
use Rattle.std.specs.Option.{option_map}
use Rattle.prefix.specs.Literal.{Literal}
use Rattle.rows.specs.declared.places.Place.{Place}
use Rattle.rows.specs.Arena.{StoredRow, Arena}
use Rattle.rows.specs.Places.{AreSpread, blocks_of, most_blocks, part}
use Rattle.rows.specs.Blocks.{AreBlocks, Block, links_in}

-- what contracts see of a row
abbrev pub stored : List Literal → List Block → Place → StoredRow
stored literals blocks place = record { literals = part literals place; links = links_in blocks place.block }

-- what contracts see of the rows
abbrev pub arena_of : List Literal → List Block → List (Option Place) → Arena
arena_of literals blocks places = map (option_map (stored literals blocks)) places

-- how rows are kept: one behind the other, each with a block of its own or none, with room and a number for a block
-- of each
pub record AreStored (size : ℕ) (places : List (Option Place)) (blocks : List Block) (live capacity : ℕ) : Type 0 where
  pub spread : AreSpread size places
  pub blocked : AreBlocks (blocks_of places) blocks
  pub counted : count_by is_some (blocks_of places) ≡ live
  pub room : live ≤ capacity
  pub few : live ≤ most_blocks
