-- Where rows stand.
use Rattle.std.specs.Prelude.{◌≡◌, ℕ, ◌+◌, ◌*◌, ◌/◌, ◌%◌, ◌<◌, ◌≤◌, ◌==◌, if◌then◌else◌, List, [], ◌++◌, length, map, replicate, take, drop, Option, None, Some, is_some, slice_index_or}
use Rattle.std.specs.Option.{option_map}
use Rattle.prefix.specs.Literal.{Literal}
use Rattle.rows.specs.declared.places.Place.{Place}

-- how many blocks there may be
abbrev pub most_blocks : ℕ
most_blocks = 4294967294

-- the start of a row, by its last 32 bits and a number whose last 8 bits are those before them
abbrev pub start_of : ℕ → ℕ → ℕ
start_of low rest = rest % 256 * 4294967296 + low

-- the length of a row, which are the bits of that number before its last 8
abbrev pub len_of : ℕ → ℕ
len_of rest = rest / 256

-- a place of which only the block is told
abbrev pub only_block : ℕ → Place
only_block block = record { start = 0; len = 0; block = Some block }

-- the place that the two numbers of a slot stand for, if they stand for one: 4294967295 as the second says that no row
-- is live, and 4294967294 that the first is the number of the row's block, which alone is told
abbrev pub slot_of : ℕ → ℕ → Option Place
slot_of low rest =
    if rest == 4294967295
    then None
    else (
    if rest == 4294967294
    then Some (only_block low)
    else Some (record { start = start_of low rest; len = len_of rest; block = None }))

-- a place from another literal on
abbrev pub moved_to : ℕ → Place → Place
moved_to start place = record { start = start; len = place.len; block = place.block }

-- a place with another block, or none
abbrev pub with_block : Option ℕ → Place → Place
with_block block place = record { start = place.start; len = place.len; block = block }

-- where the row under an id stands, if it is live
abbrev pub place_at : List (Option Place) → ℕ → Option Place
place_at places id = slice_index_or places id None

-- these places with so many between them, behind the first `split`, that are of no live row
abbrev pub around_gone : ℕ → ℕ → List (Option Place) → List (Option Place)
around_gone split gone places = take split places ++ (replicate gone None ++ drop split places)

-- none of the rows with ids from one up to another is live
pub record AreDead (places : List (Option Place)) (start end : ℕ) : Type 0 where
  pub in_order : start ≤ end
  pub given : end ≤ length places
  pub none : (id : ℕ) → start ≤ id → id < end → place_at places id ≡ None

-- what stood between the first two of these numbers and what stood between the last two have changed places
abbrev pub Swaps : (old new : List (Option Place)) → ℕ → ℕ → ℕ → Type 0
Swaps old new start middle end = (a b c d : List (Option Place)) → old ≡ a ++ (b ++ (c ++ d)) → length a ≡ start
    → start + length b ≡ middle → middle + length c ≡ end → new ≡ a ++ (c ++ (b ++ d))

-- the literals that stand at a place
abbrev pub part : List Literal → Place → List Literal
part literals place = take place.len (drop place.start literals)

-- the same of a row that may not be live
abbrev pub part_in : List Literal → Option Place → List Literal
part_in literals None = []
part_in literals (Some place) = part literals place

-- the block of each live row, which it may not have
abbrev pub blocks_of : List (Option Place) → List (Option (Option ℕ))
blocks_of places = map (option_map (λ (p : Place). p.block)) places

-- the rows stand within so many literals, one behind the other in the order of their ids
pub record AreSpread (size : ℕ) (places : List (Option Place)) : Type 0 where
  pub within : (i : ℕ) (p : Place) → place_at places i ≡ Some p → p.start + p.len ≤ size
  pub apart : (i j : ℕ) (p q : Place) → i < j → place_at places i ≡ Some p → place_at places j ≡ Some q
      → p.start + p.len ≤ q.start

-- the rows before an id stand before a place, the others from it on
pub record AreMoving (size : ℕ) (places : List (Option Place)) (id to : ℕ) : Type 0 where
  pub spread : AreSpread size places
  pub below : (i : ℕ) (p : Place) → i < id → place_at places i ≡ Some p → p.start + p.len ≤ to
  pub above : (i : ℕ) (p : Place) → id ≤ i → place_at places i ≡ Some p → to ≤ p.start
  pub fits : to ≤ size

-- the same ids are live with the same literals and blocks
pub record KeepsParts (old : List Literal) (old_places : List (Option Place)) (new : List Literal)
    (new_places : List (Option Place)) : Type 0 where
  pub parts : (i : ℕ) → part_in new (place_at new_places i) ≡ part_in old (place_at old_places i)
  pub blocks : blocks_of new_places ≡ blocks_of old_places

-- rows stand where they stood, and may have other blocks
pub record Reblocks (old new : List (Option Place)) : Type 0 where
  pub count : length new ≡ length old
  pub same : (i : ℕ) (p q : Place) → place_at old i ≡ Some p → place_at new i ≡ Some q
      → (q.start ≡ p.start) × (q.len ≡ p.len)
  pub live : (i : ℕ) → is_some (place_at new i) ≡ is_some (place_at old i)
