-- Where rows stand that have a block.
use Rattle.std.specs.Prelude.{◌≡◌, ◌≢◌, ℕ, ◌<◌, ◌≤◌, List, map, count_by, Option, None, Some, is_some, slice_index_or}
use Rattle.std.specs.Option.{option_map}
use Rattle.rows.specs.declared.places.Place.{Place}
use Rattle.rows.specs.declared.slots.Spot.{Spot}
use Rattle.rows.specs.Places.{len_of, most_blocks, start_of}
use Rattle.rows.specs.Blocks.{block_in}

-- the spot of no literals
abbrev pub no_spot : Spot
no_spot = record { low = 0; rest = 0 }

-- the spot under the number of a block
abbrev pub spot_at : List Spot → ℕ → Spot
spot_at spots b = slice_index_or spots b no_spot

-- the place of a row that has a block, and this spot
abbrev pub spotted : Spot → ℕ → Place
spotted spot b = record { start = start_of spot.low spot.rest; len = len_of spot.rest; block = Some b }

-- the place that a slot tells, with the spot of the row's block if it has one
abbrev pub spotted_with : List Spot → Place → Option ℕ → Place
spotted_with spots place None = place
spotted_with spots place (Some b) = spotted (spot_at spots b) b

-- the place of a row, by what its slot tells
abbrev pub standing : List Spot → Place → Place
standing spots place = spotted_with spots place place.block

-- the places of all rows, by what their slots tell
abbrev pub all_standing : List Spot → List (Option Place) → List (Option Place)
all_standing spots places = map (option_map (standing spots)) places

-- how spots are kept: one for each block, which is that of one row alone, with room for a spot of each live row
pub record AreSpotted (rows : List (Option (Option ℕ))) (spots room : ℕ) : Type 0 where
  pub given : (i b : ℕ) → block_in rows i ≡ Some (Some b) → b < spots
  pub apart : (i j b : ℕ) → block_in rows i ≡ Some (Some b) → block_in rows j ≡ Some (Some b) → i ≡ j
  pub enough : count_by is_some rows ≤ room

-- a block is the first one that no row has, and there are fewer before it than live rows
pub record IsFirstFree (rows : List (Option (Option ℕ))) (block : ℕ) : Type 0 where
  pub fits : block < most_blocks
  pub unused : (i : ℕ) → block_in rows i ≢ Some (Some block)
  pub before : (b : ℕ) → b < block → (i : ℕ) × (block_in rows i ≡ Some (Some b))
  pub fewer : block < count_by is_some rows
