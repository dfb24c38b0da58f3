-- The first rows of the lists of variables, as they are stored: a variable has four entries, one for each of its lists,
-- once one of these had a row.
use Rattle.std.specs.Prelude.{◌≡◌, ◌≢◌, ℕ, ◌+◌, ◌*◌, ◌≤◌, ◌==◌, if◌then◌else◌, List, [], ◌∷◌, Option, None, length, slice_index_or}

-- the slot of a variable without entries
abbrev pub no_slot : ℕ
no_slot = 4294967295

-- the slot of the variable at a place, which says where its entries are
abbrev pub slot_at : List ℕ → ℕ → ℕ
slot_at slots i = slice_index_or slots i no_slot

-- an entry, none where there isn't one
abbrev pub entry_at : List (Option ℕ) → ℕ → Option ℕ
entry_at entries e = slice_index_or entries e None

-- the first row of each list of each variable
abbrev pub heads_of : List (Option ℕ) → List ℕ → List (Option ℕ)
heads_of entries [] = []
heads_of entries (slot ∷ slots) =
    entry_at entries (4 * slot) ∷ entry_at entries (4 * slot + 1) ∷ entry_at entries (4 * slot + 2)
    ∷ entry_at entries (4 * slot + 3) ∷ heads_of entries slots

-- how many variables have entries
abbrev pub used : List ℕ → ℕ
used [] = 0
used (slot ∷ slots) = (if slot == no_slot then 0 else 1) + used slots

-- the entries are those of the variables that have some, each with four of its own, and there is room for all
pub record AreLaid (slots : List ℕ) (entries : List (Option ℕ)) (capacity : ℕ) : Type 0 where
  pub few : length slots ≤ 1048576
  pub counted : length entries ≡ 4 * used slots
  pub fits : 4 * length slots ≤ capacity
  pub within : (i : ℕ) → slot_at slots i ≢ no_slot → 4 * slot_at slots i + 4 ≤ length entries
  pub apart : (i j : ℕ) → slot_at slots i ≢ no_slot → slot_at slots i ≡ slot_at slots j → i ≡ j
