-- Which rows have link fields of their own.
use Rattle.std.specs.Prelude.{◌≡◌, ◌≢◌, ℕ, zero, suc, ◌*◌, ◌/◌, ◌<◌, ◌≤◌, Bool, false, List, [], ◌∷◌, length, take, drop, count_by, replicate, Option, None, Some, is_some, slice_index_or}
use Rattle.rows.specs.Places.{most_blocks}

-- a block: the row that owns it, and its link fields, each a number or none
pub record Block : Type 0 where
  pub owner : ℕ
  pub links : List (Option ℕ)

-- blocks, and how many there may be without more memory
pub record BlocksState : Type 0 where
  pub items : List Block
  pub room : ℕ

-- the number that stands for an owner
abbrev pub owner_of : Option ℕ → ℕ
owner_of None = 0
owner_of (Some owner) = owner

-- so many blocks, whose numbers stand one behind the other, nine a block: its link fields, and the row that owns it
abbrev pub blocks_from : ℕ → List (Option ℕ) → List Block
blocks_from zero numbers = []
blocks_from (suc n) numbers = record { owner = owner_of (slice_index_or numbers 8 None); links = take 8 numbers }
    ∷ blocks_from n (drop 9 numbers)

-- how blocks are kept: with nine numbers each, and a number for each
pub record AreKept (numbers : List (Option ℕ)) : Type 0 where
  pub nine : length numbers ≡ 9 * (length numbers / 9)
  pub few : length numbers / 9 ≤ most_blocks

-- link fields without a link, of no row
abbrev pub no_block : Block
no_block = record { owner = 0; links = replicate 8 None }

-- the block under a number
abbrev pub block_at : List Block → ℕ → Block
block_at blocks b = slice_index_or blocks b no_block

-- the link fields of a row with this block, if it has one: without one they are none
abbrev pub links_in : List Block → Option ℕ → List (Option ℕ)
links_in blocks None = replicate 8 None
links_in blocks (Some b) = (block_at blocks b).links

-- whether a row is live and has a block
abbrev pub has_block : Option (Option ℕ) → Bool
has_block None = false
has_block (Some block) = is_some block

-- the block of a row, none for a row that isn't live or has none
abbrev pub block_in : List (Option (Option ℕ)) → ℕ → Option (Option ℕ)
block_in rows i = slice_index_or rows i None

-- each block is that of the live row that owns it, and no other row has it
pub record AreBlocks (rows : List (Option (Option ℕ))) (blocks : List Block) : Type 0 where
  pub has : (i b : ℕ) → block_in rows i ≡ Some (Some b) → (b < length blocks) × ((block_at blocks b).owner ≡ i)
  pub owner : (b : ℕ) → b < length blocks → block_in rows (block_at blocks b).owner ≡ Some (Some b)
  pub counted : count_by has_block rows ≡ length blocks

-- one row has no block any more, and isn't live; each other one has the link fields that it had
pub record LosesBlock (old : List (Option (Option ℕ))) (old_blocks : List Block) (new : List (Option (Option ℕ)))
    (new_blocks : List Block) (id : ℕ) : Type 0 where
  pub blocks : AreBlocks new new_blocks
  pub gone : block_in new id ≡ None
  pub live : (i : ℕ) → i ≢ id → is_some (block_in new i) ≡ is_some (block_in old i)
  pub links : (i : ℕ) (b c : Option ℕ) → i ≢ id → block_in old i ≡ Some b → block_in new i ≡ Some c
      → links_in new_blocks c ≡ links_in old_blocks b
