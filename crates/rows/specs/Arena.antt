-- Rows under their ids, as contracts see them.
use Rattle.std.specs.Prelude.{◌≡◌, ◌≢◌, ℕ, Bool, List, [], ◌∷◌, ◌++◌, ◌+◌, length, replicate, Option, Some, None, is_some, slice_index_or, slice_set}
use Rattle.std.specs.Option.{option_map}
use Rattle.prefix.specs.Literal.{Literal}

-- a row: its literals, and its link fields, eight numbers or none
pub record StoredRow : Type 0 where
  pub literals : List Literal
  pub links : List (Option ℕ)

-- an arena: for each id given so far, in ascending order from 0, the row that is live under it, or none once it was
-- freed
abbrev pub Arena : Type 0
Arena = List (Option StoredRow)

-- the id that comes next, greater than every id given
abbrev pub next_id : Arena → ℕ
next_id arena = length arena

-- the row that is live under an id, if there is one
abbrev pub row_at : Arena → ℕ → Option StoredRow
row_at arena id = slice_index_or arena id None

-- whether a row is live under an id
abbrev pub is_live : Arena → ℕ → Bool
is_live arena id = is_some (row_at arena id)

-- the literals of a row, none where there is no row
abbrev pub literals_of : Option StoredRow → List Literal
literals_of None = []
literals_of (Some row) = row.literals

-- the link fields of a row, none where there is no row
abbrev pub links_of : Option StoredRow → List (Option ℕ)
links_of None = []
links_of (Some row) = row.links

-- the literals of the row under an id; no literals under an id that isn't live
abbrev pub literals_at : Arena → ℕ → List Literal
literals_at arena id = literals_of (row_at arena id)

-- a link field of the row under an id; none under an id that isn't live
abbrev pub link_at : Arena → ℕ → ℕ → Option ℕ
link_at arena id k = slice_index_or (links_of (row_at arena id)) k None

-- a row as it is when it comes in, with no link
abbrev pub new_row : List Literal → StoredRow
new_row literals = record { literals = literals; links = replicate 8 None }

-- the arena with one more row, under the id that comes next
abbrev pub with_row : Arena → List Literal → Arena
with_row arena literals = arena ++ Some (new_row literals) ∷ []

-- the arena in which no row is live under an id
abbrev pub without_row : Arena → ℕ → Arena
without_row arena id = slice_set arena id None

-- the row with another value in one of its link fields
abbrev pub set_link_of : ℕ → Option ℕ → StoredRow → StoredRow
set_link_of k value row = record { literals = row.literals; links = slice_set row.links k value }

-- the arena with another value in one link field of the row under an id
abbrev pub with_link : Arena → ℕ → ℕ → Option ℕ → Arena
with_link arena id k value = slice_set arena id (option_map (set_link_of k value) (row_at arena id))

-- values of three link fields, that of a number and the two behind it
abbrev pub ThreeLinks : Type 0
ThreeLinks = Option ℕ × Option ℕ × Option ℕ

-- link fields with other values in three of them, the first of which has this number
abbrev pub set_three : ℕ → ThreeLinks → List (Option ℕ) → List (Option ℕ)
set_three base values links =
    slice_set (slice_set (slice_set links base values.0) (base + 1) values.1) (base + 2) values.2

-- the row with other values in three of its link fields
abbrev pub set_links_of : ℕ → ThreeLinks → StoredRow → StoredRow
set_links_of base values row = record { literals = row.literals; links = set_three base values row.links }

-- the arena with other values in three link fields of the row under an id
abbrev pub with_links : Arena → ℕ → ℕ → ThreeLinks → Arena
with_links arena id base values = slice_set arena id (option_map (set_links_of base values) (row_at arena id))

-- one id has this row, or none, and every other id has what it had
pub record ChangesAt (old new : Arena) (id : ℕ) (row : Option StoredRow) : Type 0 where
  pub there : row_at new id ≡ row
  pub elsewhere : (other : ℕ) → other ≢ id → row_at new other ≡ row_at old other

-- a link field of a row has this value; every other one has the value that it had, and so have the rows' literals
pub record ChangesLink (old new : Arena) (id k : ℕ) (value : Option ℕ) : Type 0 where
  pub link : link_at new id k ≡ value
  pub other_links : (m : ℕ) → m ≢ k → link_at new id m ≡ link_at old id m
  pub same_literals : literals_at new id ≡ literals_at old id
  pub elsewhere : (other : ℕ) → other ≢ id → row_at new other ≡ row_at old other
  pub same_live : (other : ℕ) → is_live new other ≡ is_live old other

-- three link fields of a row have these values; every other one has the value that it had, and so have the rows'
-- literals
pub record ChangesLinks (old new : Arena) (id base : ℕ) (values : ThreeLinks) : Type 0 where
  pub first : link_at new id base ≡ values.0
  pub second : link_at new id (base + 1) ≡ values.1
  pub third : link_at new id (base + 2) ≡ values.2
  pub other_links : (m : ℕ) → m ≢ base → m ≢ base + 1 → m ≢ base + 2 → link_at new id m ≡ link_at old id m
  pub same_literals : literals_at new id ≡ literals_at old id
  pub elsewhere : (other : ℕ) → other ≢ id → row_at new other ≡ row_at old other
  pub same_live : (other : ℕ) → is_live new other ≡ is_live old other
