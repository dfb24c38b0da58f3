-- Blocks, and the list of numbers that stands for them.
use Rattle.std.proofs.Common.{◌≡◌, ◌≢◌, ℕ, zero, suc, ◌+◌, ◌-◌, ◌*◌, ◌/◌, ◌^◌, ◌<◌, ◌≤◌, List, [], ◌∷◌, ◌++◌, length, take, drop, get_or, set, replicate, Option, Some, None, refl, sym, ap, ap₂, ◌∙◌, inl, inr, arith}
use Rattle.std.proofs.Math.Seq.{take-set-lt}
use Rattle.std.proofs.lemmas.Bool.{cases_lt}
use Rattle.std.proofs.lemmas.List.{drop-append-le, drop-drop, drop-set-add, drop-set-lt, ext_get_or, get_or-append_right, get_or-drop, get_or-take, get_or_append_left, length-append, length-drop, length-take-le, take-append-le, get_or-set_other, take-set-le}
use Rattle.short_numbers.specs.Lists.{last_moved}
use Rattle.rows.specs.Blocks.{AreKept, Block, block_at, blocks_from, owner_of}

-- there are so many blocks
pub blocks_length : (n : ℕ) (numbers : List (Option ℕ)) → length (blocks_from n numbers) ≡ n
blocks_length zero numbers = refl
blocks_length (suc n) numbers = ap suc (blocks_length n (drop 9 numbers))

-- a block
pub block_cut : (n : ℕ) (numbers : List (Option ℕ)) (b : ℕ) → b < n → block_at (blocks_from n numbers) b
    ≡ record { owner = owner_of (get_or numbers (9 * b + 8) None); links = take 8 (drop (9 * b) numbers) }
block_cut zero numbers b h = absurd (omega arith)
block_cut (suc n) numbers zero h = refl
block_cut (suc n) numbers (suc b) h =
    block_cut n (drop 9 numbers) b (omega arith)
    ∙ ap₂ (λ (o : Option ℕ) (ls : List (Option ℕ)). record { owner = owner_of o; links = take 8 ls })
    (get_or-drop 9 numbers (9 * b + 8) None
    ∙ ap (λ i. get_or numbers i None) (let same : 9 + (9 * b + 8) ≡ 9 * suc b + 8 = omega arith in same))
    (drop-drop (9 * b) 9 numbers
    ∙ ap (λ i. drop i numbers) (let same : 9 + 9 * b ≡ 9 * suc b = omega arith in same))

-- the owner of a block
pub owner_cut : (n : ℕ) (numbers : List (Option ℕ)) (b : ℕ) → b < n
    → owner_of (get_or numbers (9 * b + 8) None) ≡ (block_at (blocks_from n numbers) b).owner
owner_cut n numbers b within = sym (ap (λ (block : Block). block.owner) (block_cut n numbers b within))

-- a link field of a block
pub field_cut : (n : ℕ) (numbers : List (Option ℕ)) (b k : ℕ) → k < 8 → b < n
    → get_or numbers (9 * b + k) None ≡ get_or (block_at (blocks_from n numbers) b).links k None
field_cut n numbers b k low within =
    sym (ap (λ (block : Block). get_or block.links k None) (block_cut n numbers b within)
    ∙ get_or-take 8 (drop (9 * b) numbers) k None low
    ∙ get_or-drop (9 * b) numbers k None)

-- eight link fields
pub fields_cut : (n : ℕ) (numbers : List (Option ℕ)) (b : ℕ) → length numbers ≡ 9 * n → b < n
    → length (block_at (blocks_from n numbers) b).links ≡ 8
fields_cut n numbers b size within =
    let l = length-drop (9 * b) numbers in
    let long : 8 ≤ length (drop (9 * b) numbers) = omega (arith, l, size) in
    ap (λ (block : Block). length block.links) (block_cut n numbers b within)
    ∙ length-take-le 8 (drop (9 * b) numbers) long

-- its places are there
pub place_there : (numbers : List (Option ℕ)) (b k : ℕ) → AreKept numbers
    → b < length (blocks_from (length numbers / 9) numbers) → k < 9 → 9 * b + k < length numbers
place_there numbers b k kept within low =
    let c = blocks_length (length numbers / 9) numbers in
    let e = kept.nine in
    omega (arith, c, e, within, low)

-- and their numbers are small
pub place_fits : (numbers : List (Option ℕ)) (b k : ℕ) → AreKept numbers
    → b < length (blocks_from (length numbers / 9) numbers) → k < 9 → 9 * b + k < 2 ^ 64
place_fits numbers b k kept within low =
    let c = blocks_length (length numbers / 9) numbers in
    let f = kept.few in
    omega (arith, c, f, within, low)

-- another value of a link field
pub field_set : (n : ℕ) (numbers : List (Option ℕ)) (b k : ℕ) (value : Option ℕ) → k < 8 → b < n
    → blocks_from n (set numbers (9 * b + k) value) ≡ set (blocks_from n numbers) b (record {
      owner = (block_at (blocks_from n numbers) b).owner;
      links = set (block_at (blocks_from n numbers) b).links k value;
    })
field_set zero numbers b k value low h = absurd (omega arith)
field_set (suc n) numbers zero k value low h =
    ap (λ i. blocks_from (suc n) (set numbers i value)) (let same : 9 * zero + k ≡ k = omega arith in same)
    ∙ ap₂ (λ (o : Option ℕ) (these : List (Option ℕ)). record { owner = owner_of o; links = these }
    ∷ blocks_from n (drop 9 (set numbers k value)))
    (get_or-set_other numbers k 8 value None (λ e. absurd (omega arith))) (take-set-lt 8 numbers k value low)
    ∙ ap (λ (others : List (Option ℕ)). record {
      owner = owner_of (get_or numbers 8 None);
      links = set (take 8 numbers) k value;
    } ∷ blocks_from n others) (drop-set-lt 9 numbers k value (omega arith))
field_set (suc n) numbers (suc b) k value low h =
    let at : 9 * suc b + k ≡ 9 + (9 * b + k) = omega arith in
    ap (λ i. blocks_from (suc n) (set numbers i value)) at
    ∙ ap₂ (λ (o : Option ℕ) (these : List (Option ℕ)). record { owner = owner_of o; links = these }
    ∷ blocks_from n (drop 9 (set numbers (9 + (9 * b + k)) value)))
    (get_or-set_other numbers (9 + (9 * b + k)) 8 value None (λ e. absurd (omega arith)))
    (take-set-le 8 numbers (9 + (9 * b + k)) value (omega arith))
    ∙ ap (λ (others : List (Option ℕ)). record { owner = owner_of (get_or numbers 8 None); links = take 8 numbers }
    ∷ blocks_from n others) (drop-set-add 9 numbers (9 * b + k) value)
    ∙ ap (λ (blocks : List Block). record { owner = owner_of (get_or numbers 8 None); links = take 8 numbers } ∷ blocks)
    (field_set n (drop 9 numbers) b k value low (omega arith))

-- a block whose links are written twice

abbrev pub written : List Block → ℕ → (List (Option ℕ) → List (Option ℕ)) → List Block
written blocks b f =
    set blocks b (record { owner = (block_at blocks b).owner; links = f (block_at blocks b).links })

pub written_again : (blocks : List Block) (b : ℕ) (f g : List (Option ℕ) → List (Option ℕ)) → b < length blocks
    → written (written blocks b f) b g ≡ written blocks b (λ links. g (f links))
written_again [] b f g h = absurd (omega arith)
written_again (block ∷ blocks) zero f g h = refl
written_again (block ∷ blocks) (suc b) f g h = ap (λ (bs : List Block). block ∷ bs)
    (written_again blocks b f g (omega arith))

-- one more block
abbrev pub one_block : ℕ → List (Option ℕ)
one_block owner = replicate 8 None ++ Some owner ∷ []

pub block_more : (n : ℕ) (numbers : List (Option ℕ)) (owner : ℕ) → length numbers ≡ 9 * n
    → blocks_from (suc n) (numbers ++ one_block owner)
    ≡ blocks_from n numbers ++ record { owner = owner; links = replicate 8 None } ∷ []
block_more zero [] owner size = refl
block_more zero (first ∷ numbers) owner size = absurd (omega (arith, size))
block_more (suc n) numbers owner size =
    let more = one_block owner in
    let l = length-drop 9 numbers in
    let rest : length (drop 9 numbers) ≡ 9 * n = omega (arith, l, size) in
    ap₂ (λ (o : Option ℕ) (these : List (Option ℕ)). record { owner = owner_of o; links = these }
    ∷ blocks_from (suc n) (drop 9 (numbers ++ more)))
    (get_or_append_left numbers more None 8 (omega (arith, size))) (take-append-le 8 numbers more (omega (arith, size)))
    ∙ ap (λ (others : List (Option ℕ)). record { owner = owner_of (get_or numbers 8 None); links = take 8 numbers }
    ∷ blocks_from (suc n) others) (drop-append-le 9 numbers more (omega (arith, size)))
    ∙ ap (λ (blocks : List Block). record { owner = owner_of (get_or numbers 8 None); links = take 8 numbers } ∷ blocks)
    (block_more n (drop 9 numbers) owner rest)

-- the last places come into the place of others

module _ (to count : ℕ) (items : List (Option ℕ)) (within : to + count ≤ length items) where
  abbrev from : ℕ
  from = length items - count

  abbrev behind : List (Option ℕ)
  behind = drop from items ++ drop (to + count) items

  front_length : length (take to items) ≡ to
  front_length = length-take-le to items (omega arith)

  last_length : length (drop from items) ≡ count
  last_length = let l = length-drop from items in omega arith

  pub moved_length : length (last_moved to count items) + count ≡ length items
  moved_length =
      let a = length-append (take to items) behind in
      let b = length-append (drop from items) (drop (to + count) items) in
      let c = length-drop (to + count) items in
      let f = front_length in
      let l = last_length in
      let t : length (last_moved to count items) ≡ from =
      length-take-le from (take to items ++ behind) (omega (arith, a, b, c, f, l, within)) in
      omega (arith, t, within)

  pub moved_before : (i : ℕ) → i < to → i < from → get_or (last_moved to count items) i None ≡ get_or items i None
  moved_before i h left =
      get_or-take from (take to items ++ behind) i None left
      ∙ get_or_append_left (take to items) behind None i (let f = front_length in omega (arith, f, h))
      ∙ get_or-take to items i None h

  moved_behind : (i : ℕ) → to ≤ i → i < from → get_or (last_moved to count items) i None ≡ get_or behind (i - to) None
  moved_behind i h left =
      get_or-take from (take to items ++ behind) i None left
      ∙ get_or-append_right (take to items) behind to i None front_length h

  pub moved_there : (i : ℕ) → i < count → to + i < from
      → get_or (last_moved to count items) (to + i) None ≡ get_or items (from + i) None
  moved_there i h left =
      moved_behind (to + i) (omega arith) left
      ∙ ap (λ n. get_or behind n None) (omega arith)
      ∙ get_or_append_left (drop from items) (drop (to + count) items) None i
      (let l = last_length in omega (arith, l, h))
      ∙ get_or-drop from items i None

  pub moved_after : (i : ℕ) → to + count ≤ i → i < from
      → get_or (last_moved to count items) i None ≡ get_or items i None
  moved_after i h left =
      moved_behind i (omega arith) left
      ∙ get_or-append_right (drop from items) (drop (to + count) items) count (i - to) None last_length (omega arith)
      ∙ get_or-drop (to + count) items (i - to - count) None
      ∙ ap (λ n. get_or items n None) (omega arith)

-- the same fields from two places on
same_fields : (w a b : ℕ) (xs ys : List (Option ℕ)) → a + w ≤ length xs → b + w ≤ length ys
    → ((k : ℕ) → k < w → get_or xs (a + k) None ≡ get_or ys (b + k) None)
    → take w (drop a xs) ≡ take w (drop b ys)
same_fields w a b xs ys h g same =
    let l = length-drop a xs in
    let m = length-drop b ys in
    let x : length (take w (drop a xs)) ≡ w = length-take-le w (drop a xs) (omega (arith, l, h)) in
    let y : length (take w (drop b ys)) ≡ w = length-take-le w (drop b ys) (omega (arith, m, g)) in
    ext_get_or None (take w (drop a xs)) (take w (drop b ys)) (x ∙ sym y)
    (λ k low.
    let under : k < w = omega (arith, x, low) in
    get_or-take w (drop a xs) k None under ∙ get_or-drop a xs k None ∙ same k under
    ∙ sym (get_or-take w (drop b ys) k None under ∙ get_or-drop b ys k None))

-- the last block comes into the place of another

module _ (numbers : List (Option ℕ)) (n b : ℕ) (size : length numbers ≡ 9 * n) (within : b < n) where
  abbrev new_numbers : List (Option ℕ)
  new_numbers = last_moved (9 * b) 9 numbers

  abbrev old_blocks : List Block
  old_blocks = blocks_from n numbers

  abbrev new_blocks : List Block
  new_blocks = blocks_from (n - 1) new_numbers

  pub numbers_fit : 9 * b + 9 ≤ length numbers
  numbers_fit = omega (arith, size)

  pub numbers_less : length new_numbers + 9 ≡ length numbers
  numbers_less = moved_length (9 * b) 9 numbers numbers_fit

  pub blocks_less : length new_blocks + 1 ≡ length old_blocks
  blocks_less =
      let one = blocks_length n numbers in
      let other = blocks_length (n - 1) new_numbers in
      omega (arith, one, other)

  same_block : (j k : ℕ) → j + 1 < n → k < n
      → ((i : ℕ) → i < 9 → get_or new_numbers (9 * j + i) None ≡ get_or numbers (9 * k + i) None)
      → block_at new_blocks j ≡ block_at old_blocks k
  same_block j k new_in old_in same =
      let l = numbers_less in
      block_cut (n - 1) new_numbers j (omega arith)
      ∙ ap₂ (λ (o : Option ℕ) (ls : List (Option ℕ)). record { owner = owner_of o; links = ls })
      (same 8 (omega arith))
      (same_fields 8 (9 * j) (9 * k) new_numbers numbers (omega (arith, l, size)) (omega (arith, size))
      (λ i low. same i (omega arith)))
      ∙ sym (block_cut n numbers k old_in)

  pub block_moved : b + 1 < n → block_at new_blocks b ≡ block_at old_blocks (n - 1)
  block_moved h =
      same_block b (n - 1) h (omega arith)
      (λ i low.
      let from : length numbers - 9 + i ≡ 9 * (n - 1) + i = omega (arith, size, h) in
      moved_there (9 * b) 9 numbers numbers_fit i low (omega (arith, size, h))
      ∙ ap (λ m. get_or numbers m None) from)

  pub block_stays : (k : ℕ) → k ≢ b → k + 1 < n → block_at new_blocks k ≡ block_at old_blocks k
  block_stays k differs h =
      same_block k k h (omega arith)
      (λ i low.
      elim (cases_lt k b) [
        | inl below ↦ moved_before (9 * b) 9 numbers numbers_fit (9 * k + i) (omega arith) (omega (arith, size))
        | inr above ↦ moved_after (9 * b) 9 numbers numbers_fit (9 * k + i)
            (let apart : b + 1 ≤ k = omega arith in omega arith) (omega (arith, size))
      ])
