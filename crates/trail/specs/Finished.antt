-- Sets of places, and blocks of places that are all in a set.
use Rattle.std.specs.Prelude.{◌≡◌, ℕ, zero, suc, ◌+◌, ◌*◌, ◌<◌, ◌≤◌, if◌then◌else◌, Bool, true, false, List, [], ◌∷◌, length, replicate, slice_index_or, slice_set}

-- whether a place is in a set; those past the end aren't
abbrev pub is_in : List Bool → ℕ → Bool
is_in places i = slice_index_or places i false

-- a set with a place, where that is asked for
abbrev pub with_place_if : Bool → ℕ → List Bool → List Bool
with_place_if asked i places = if asked then slice_set places i true else places

-- a set with all places before this one
abbrev pub with_before : ℕ → List Bool → List Bool
with_before zero places = places
with_before (suc n) [] = []
with_before (suc n) (place ∷ places) = true ∷ with_before n places

-- a set of as many places, with nothing in it
abbrev pub emptied : List Bool → List Bool
emptied places = replicate (length places) false

-- the places from a first one up to a last one are in the set
abbrev pub AreIn : List Bool → ℕ → ℕ → Type 0
AreIn places first last = (i : ℕ) → first ≤ i → i < last → is_in places i ≡ true

-- the 64 places of each marked block are in the set
abbrev pub AreBlocks : List Bool → List Bool → Type 0
AreBlocks places blocks = (block i : ℕ) → is_in blocks block ≡ true → i < 64 → is_in places (block * 64 + i) ≡ true
