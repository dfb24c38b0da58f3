-- Where variables stand, as it is kept.
use Rattle.std.specs.Prelude.{◌≡◌, Bool, ℕ, List, None, Option, is_some, map, nat_lt, slice_index_or, zip}
use Rattle.std.specs.Option.{option_map}
use Rattle.trail.specs.declared.entry.Spot.{Spot}

-- the value of a variable that stands somewhere
abbrev pub value_of : Spot → Bool
value_of spot = spot.value

-- the place that a variable has
abbrev pub place_of : Spot → ℕ
place_of spot = spot.place

-- where a variable stands: its value, and the place that it has then
abbrev pub spot_of : Option Bool × ℕ → Option Spot
spot_of kept = option_map (λ b. record { value = b; place = kept.1 }) kept.0

-- where variables stand: their values, and the places that they have then
abbrev pub spots_of : List (Option Bool) → List ℕ → List (Option Spot)
spots_of values places = map spot_of (zip values places)

-- a place below 2^32 - 1 is kept exactly where there is a value
abbrev pub ArePlaced : List (Option Bool) → List ℕ → Type 0
ArePlaced values places = (k : ℕ) → is_some (slice_index_or values k None)
    ≡ nat_lt (slice_index_or places k 4294967295) 4294967295
