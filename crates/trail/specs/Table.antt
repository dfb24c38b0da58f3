-- How a trail is kept: its literals in order, each with its level, and where each variable stands.
use Rattle.std.specs.Prelude.{Bool, ◌≡◌, ℕ, zero, suc, ◌+◌, ◌<◌, ◌≤◌, ◌==◌, if◌then◌else◌, ⊤, map, length, count_by, is_some, List, [], ◌∷◌, Option, Some, None, slice_get, slice_index, slice_index_or}
use Rattle.std.specs.Option.{option_map}
use Rattle.trail.specs.declared.entry.Entry.{Entry}
use Rattle.trail.specs.declared.entry.Spot.{Spot}
use Rattle.trail.specs.Causes.{cause_of}
use Rattle.calculus.specs.Search.{Placed, Trail, is_decision, level_after, place_on, value_on}

-- an entry, as contracts see it
abbrev pub placed_of : Entry → Placed
placed_of entry = record { literal = entry.lit; cause = cause_of entry.why }

-- the trail of some entries
abbrev pub trail_of : List Entry → Trail
trail_of entries = map placed_of entries

-- each entry has its decision level, with the number of decisions before them
abbrev pub AreLeveled : ℕ → List Entry → Type 0
AreLeveled before [] = ⊤
AreLeveled before (entry ∷ rest) = (entry.level ≡ level_after before (placed_of entry)) × AreLeveled entry.level rest

-- where a variable stands by the table, which has it at its number less 1
abbrev pub spot_at : List (Option Spot) → ℕ → Option Spot
spot_at spots zero = None
spot_at spots (suc i) = slice_index_or spots i None

-- where a variable stands on a trail
abbrev pub spot_on : Trail → ℕ → Option Spot
spot_on trail x = option_map (λ b. record { value = b; place = place_on trail x }) (value_on trail x)

-- the table is that of the trail, on which no variable stands twice, and has room for one more
pub record IsTable (entries : List Entry) (spots : List (Option Spot)) (capacity : ℕ) : Type 0 where
  pub found : (x : ℕ) → spot_at spots x ≡ spot_on (trail_of entries) x
  pub once : (i : ℕ) (p : Placed) → slice_get (trail_of entries) i ≡ Some p
      → place_on (trail_of entries) p.literal.variable ≡ i
  pub leveled : AreLeveled 0 entries
  pub filled : length entries ≡ count_by is_some spots
  pub room : length spots ≤ capacity

-- the scope of each entry, by its number less 1
abbrev pub scopes_in : List Entry → List ℕ
scopes_in entries = map (λ (e : Entry). e.scope) entries

-- the marks of clean reasons
abbrev pub marks_of : List Entry → List Bool
marks_of entries = map (λ (e : Entry). e.clean) entries

-- the numbers of the scopes
abbrev pub depths_of : List Entry → List ℕ
depths_of entries = map (λ (e : Entry). e.scope + 1) entries

-- the number of the scope of the last decision after an entry, with the one before it
abbrev pub floor_after : ℕ → Entry → ℕ
floor_after before entry = if is_decision (cause_of entry.why) then entry.scope + 1 else before

-- each entry has the number of the scope of the last decision up to it, with the one before them
abbrev pub AreFloored : ℕ → List Entry → Type 0
AreFloored before [] = ⊤
AreFloored before (entry ∷ rest) = (entry.floor ≡ floor_after before entry) × AreFloored entry.floor rest

-- the number of the scope of the last decision, with the one before the entries
abbrev pub floor_from : ℕ → List Entry → ℕ
floor_from before [] = before
floor_from before (entry ∷ rest) = floor_from (floor_after before entry) rest

-- how many entries are of the scope with this number less 1
abbrev pub entries_of : List Entry → ℕ → ℕ
entries_of entries i = count_by (λ s. s == i) (scopes_in entries)

-- the counts of the scopes that have a place in the table
abbrev pub AreCounted : List Entry → List ℕ → Type 0
AreCounted entries tallies = (i : ℕ) → i < length tallies → slice_index tallies i ≡ entries_of entries i

-- the scopes' counts, and the scope of the last decision up to each entry; before any decision it is as if in scope 1
pub record IsTallied (entries : List Entry) (tallies : List ℕ) : Type 0 where
  pub tallied : AreCounted entries tallies
  pub floored : AreFloored 1 entries

-- the tables of scopes have places for as many as there is room for variables
pub record HavePlaces (room : ℕ) (tallies : List ℕ) (finished : List Bool) : Type 0 where
  pub tallies_long : room ≤ length tallies
  pub finished_long : length finished ≡ room
