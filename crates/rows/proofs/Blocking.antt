-- Blocks of link fields, and the rows that have them.
use Rattle.std.proofs.Common.{◌≡◌, ◌≢◌, ℕ, ◌+◌, ◌-◌, ◌<◌, ◌≤◌, true, cond, List, [], ◌∷◌, ◌++◌, length, replicate, get_or, set, Option, Some, None, is_some, refl, sym, ap, ◌∙◌, inl, inr, arith}
use Rattle.std.specs.Prelude.{count_by}
use Rattle.std.specs.Option.{option_map}
use Rattle.std.proofs.lemmas.Bool.{cases_eq, cases_lt}
use Rattle.std.proofs.lemmas.List.{get_or-set_same, get_or-set_other, get_or_past, get_or_append_left, get_or_at, length-set, length-append, length_push}
use Rattle.std.proofs.lemmas.List.Sums.{sum_by-cons, sum_by_push, sum_by-set}
use Rattle.rows.specs.declared.places.Place.{Place}
use Rattle.rows.specs.Places.{blocks_of, place_at}
use Rattle.rows.specs.Blocks.{Block, AreBlocks, LosesBlock, block_at, block_in, has_block, links_in, no_block}
use Rattle.rows.proofs.Parts.{map_at, none_some, some_same}

abbrev Rows : Type 0
Rows = List (Option (Option ℕ))

-- rows and their ids

pub row_given : (rows : Rows) (i : ℕ) (o : Option ℕ) → block_in rows i ≡ Some o → i < length rows
row_given rows i o e =
    elim (cases_lt i (length rows)) [
      | inl h ↦ h
      | inr h ↦ absurd (none_some (block_in rows i) o (get_or_past rows i None h) e)
    ]

pub no_other : (o : Option (Option ℕ)) (b c : Option ℕ) → o ≡ Some b → o ≡ Some c → b ≡ c
no_other o b c e f = some_same o b c e f

pub one_block : (o : Option (Option ℕ)) (b c : ℕ) → o ≡ Some (Some b) → o ≡ Some (Some c) → b ≡ c
one_block o b c e f = let g : Some (Some b) ≡ Some (Some c) = sym e ∙ f in cc

pub not_none : (o : Option (Option ℕ)) (b : ℕ) → o ≡ Some None → o ≡ Some (Some b) → ⊥
not_none o b e f = let g : Some None ≡ Some (Some b) = sym e ∙ f in cc

-- counts

abbrev has_bit : Option (Option ℕ) → ℕ
has_bit o = cond (has_block o) 1 0

abbrev live_bit : Option (Option ℕ) → ℕ
live_bit o = cond (is_some o) 1 0

bits : (o : Option (Option ℕ)) → has_bit o ≤ live_bit o
bits None = omega arith
bits (Some None) = omega arith
bits (Some (Some b)) = omega arith

pub count_le : (rows : Rows) → count_by has_block rows ≤ count_by is_some rows
count_le [] = omega arith
count_le (o ∷ rows) =
    let h = sum_by-cons has_bit o rows in
    let l = sum_by-cons live_bit o rows in
    let b = bits o in
    let r = count_le rows in
    omega arith

-- a live row without a block leaves room for one
pub count_less : (rows : Rows) (id : ℕ) → block_in rows id ≡ Some None → count_by has_block rows < count_by is_some rows
count_less rows id there =
    let within = row_given rows id None there in
    let h = sum_by-set has_bit rows id None None within in
    let l = sum_by-set live_bit rows id None None within in
    let hb : has_bit (get_or rows id None) ≡ 0 = ap has_bit there in
    let lb : live_bit (get_or rows id None) ≡ 1 = ap live_bit there in
    let r = count_le (set rows id None) in
    let none : has_bit None ≡ 0 = refl in
    let none_live : live_bit None ≡ 0 = refl in
    omega arith

-- one more row, without a block

module _ (rows : Rows) (blocks : List Block) (are : AreBlocks rows blocks) where
  pub blocks_more : AreBlocks (rows ++ Some None ∷ []) blocks
  blocks_more =
      record {
        has = λ i b e.
            elim (cases_lt i (length rows)) [
              | inl h ↦ are.has i b (sym (get_or_append_left rows (Some None ∷ []) None i h) ∙ e)
              | inr h ↦ absurd (not_none (block_in (rows ++ Some None ∷ []) i) b (last i h b e) e)
            ];
        owner = λ b h. let e = are.owner b h in get_or_append_left rows (Some None ∷ []) None (block_at blocks b).owner
            (row_given rows (block_at blocks b).owner (Some b) e) ∙ e;
        counted = (let p = sum_by_push has_bit rows (Some None) in let z : has_bit (Some None) ≡ 0 = refl in let c =
            are.counted in omega arith);
      }
    where
      last : (i : ℕ) → length rows ≤ i → (b : ℕ) → block_in (rows ++ Some None ∷ []) i ≡ Some (Some b)
          → block_in (rows ++ Some None ∷ []) i ≡ Some None
      last i h b e =
          let is : i ≡ length rows = let g = row_given (rows ++ Some None ∷ []) i (Some b) e in let l =
          length-append rows (Some None ∷ []) in omega arith in
          ap (block_in (rows ++ Some None ∷ [])) is ∙ get_or_at rows (Some None) [] None (length rows) refl

pub live_more : (rows : Rows) → count_by is_some (rows ++ Some None ∷ []) ≡ count_by is_some rows + 1
live_more rows = let p = sum_by_push live_bit rows (Some None) in let z : live_bit (Some None) ≡ 1 = refl in omega arith

-- a row that gets a block

module _ (rows : Rows) (blocks : List Block) (are : AreBlocks rows blocks) (id : ℕ)
    (there : block_in rows id ≡ Some None) where
  abbrev more_blocks : List Block
  more_blocks = blocks ++ (record { owner = id; links = replicate 8 None }) ∷ []

  abbrev with_block : Rows
  with_block = set rows id (Some (Some (length blocks)))

  within : id < length rows
  within = row_given rows id None there

  pub given_here : block_in with_block id ≡ Some (Some (length blocks))
  given_here = get_or-set_same rows id (Some (Some (length blocks))) None within

  given_other : (i : ℕ) → i ≢ id → block_in with_block i ≡ block_in rows i
  given_other i differs = get_or-set_other rows id i (Some (Some (length blocks))) None differs

  old_block : (b : ℕ) → b < length blocks → block_at more_blocks b ≡ block_at blocks b
  old_block b h = get_or_append_left blocks ((record { owner = id; links = replicate 8 None }) ∷ []) no_block b h

  new_block : block_at more_blocks (length blocks) ≡ record { owner = id; links = replicate 8 None }
  new_block = get_or_at blocks (record { owner = id; links = replicate 8 None }) [] no_block (length blocks) refl

  pub blocks_given : AreBlocks with_block more_blocks
  blocks_given =
      record {
        has = λ i b e.
            elim (cases_eq i id) [
              | inl same ↦
                  let is : b ≡ length blocks = one_block (block_in with_block id) b (length blocks)
                  (ap (block_in with_block) (sym same) ∙ e) given_here in
                  let l = length_push blocks (record { owner = id; links = replicate 8 None }) in (
                    omega arith,
                    ap (λ n. (block_at more_blocks n).owner) is ∙ ap (λ (k : Block). k.owner) new_block
                        ∙ sym same,
                  )
              | inr differs ↦
                  let p = are.has i b (sym (given_other i differs) ∙ e) in
                  let h : b < length blocks = p.0 in
                  let l = length_push blocks (record { owner = id; links = replicate 8 None }) in
                  (omega arith, ap (λ (k : Block). k.owner) (old_block b h) ∙ p.1)
            ];
        owner = λ b h.
            elim (cases_lt b (length blocks)) [
              | inl low ↦
                  let e = are.owner b low in
                  let o : (block_at more_blocks b).owner ≡ (block_at blocks b).owner = ap (λ (k : Block). k.owner)
                  (old_block b low) in
                  ap (block_in with_block) o
                  ∙ given_other (block_at blocks b).owner
                  (λ same. not_none (block_in rows id) b there (ap (block_in rows) (sym same) ∙ e))
                  ∙ e
              | inr high ↦
                  let l = length_push blocks (record { owner = id; links = replicate 8 None }) in
                  let is : b ≡ length blocks = omega arith in
                  ap (block_in with_block) (ap (λ n. (block_at more_blocks n).owner) is
                  ∙ ap (λ (k : Block). k.owner) new_block)
                  ∙ given_here ∙ ap (λ n. Some (Some n)) (sym is)
            ];
        counted = (
            let s = sum_by-set has_bit rows id (Some (Some (length blocks))) None within in
            let z : has_bit (get_or rows id None) ≡ 0 = ap has_bit there in
            let o : has_bit (Some (Some (length blocks))) ≡ 1 = refl in
            let c = are.counted in
            let l = length_push blocks (record { owner = id; links = replicate 8 None }) in
            omega arith);
      }

  pub live_given : count_by is_some with_block ≡ count_by is_some rows
  live_given =
      let s = sum_by-set live_bit rows id (Some (Some (length blocks))) None within in
      let z : live_bit (get_or rows id None) ≡ 1 = ap live_bit there in
      let o : live_bit (Some (Some (length blocks))) ≡ 1 = refl in
      omega arith

  kept_links : (i : ℕ) (b : Option ℕ) → i ≢ id → block_in rows i ≡ Some b → links_in more_blocks b ≡ links_in blocks b
  kept_links i None differs e = refl
  kept_links i (Some b) differs e = ap (λ (k : Block). k.links) (old_block b (are.has i b e).0)

  pub links_given : (i : ℕ) (b c : Option ℕ) → block_in rows i ≡ Some b → block_in with_block i ≡ Some c
      → links_in more_blocks c ≡ links_in blocks b
  links_given i b c e f =
      elim (cases_eq i id) [
        | inl same ↦
            let had : b ≡ None = no_other (block_in rows id) b None (ap (block_in rows) (sym same) ∙ e) there in
            let has : c ≡ Some (length blocks) = no_other (block_in with_block id) c (Some (length blocks))
            (ap (block_in with_block) (sym same) ∙ f) given_here in
            ap (links_in more_blocks) has ∙ ap (λ (k : Block). k.links) new_block ∙ ap (links_in blocks) (sym had)
        | inr differs ↦
            let is : c ≡ b = no_other (block_in rows i) c b (sym (given_other i differs) ∙ f) e in
            ap (links_in more_blocks) is ∙ kept_links i b differs e
      ]

-- a block whose links are written

module _ (rows : Rows) (blocks : List Block) (are : AreBlocks rows blocks) (b : ℕ) (links : List (Option ℕ))
    (within : b < length blocks) where
  abbrev written : List Block
  written = set blocks b (record { owner = (block_at blocks b).owner; links = links })

  same_owner : (c : ℕ) → (block_at written c).owner ≡ (block_at blocks c).owner
  same_owner c =
      elim (cases_eq c b) [
        | inl same ↦
            ap (λ n. (block_at written n).owner) same
            ∙ ap (λ (k : Block). k.owner)
            (get_or-set_same blocks b (record { owner = (block_at blocks b).owner; links = links }) no_block within)
            ∙ ap (λ n. (block_at blocks n).owner) (sym same)
        | inr differs ↦ ap (λ (k : Block). k.owner)
            (get_or-set_other blocks b c (record { owner = (block_at blocks b).owner; links = links }) no_block differs)
      ]

  pub blocks_written : AreBlocks rows written
  blocks_written =
      record {
        has = λ i c e. let p = are.has i c e in let h : c < length blocks = p.0 in let l = length-set blocks b
            (record { owner = (block_at blocks b).owner; links = links }) in (omega arith, same_owner c ∙ p.1);
        owner = λ c h. let low : c < length blocks = let l = length-set blocks b
            (record { owner = (block_at blocks b).owner; links = links }) in omega arith in ap (block_in rows)
            (same_owner c) ∙ are.owner c low;
        counted = are.counted ∙ sym (length-set blocks b (record { owner = (block_at blocks b).owner; links = links }));
      }

  pub written_here : links_in written (Some b) ≡ links
  written_here = ap (λ (k : Block). k.links)
      (get_or-set_same blocks b (record { owner = (block_at blocks b).owner; links = links }) no_block within)

  pub written_other : (i id : ℕ) (o : Option ℕ) → i ≢ id → block_in rows id ≡ Some (Some b) → block_in rows i ≡ Some o
      → links_in written o ≡ links_in blocks o
  written_other i id None differs here e = refl
  written_other i id (Some c) differs here e =
      ap (λ (k : Block). k.links)
      (get_or-set_other blocks b c (record { owner = (block_at blocks b).owner; links = links }) no_block
      (λ same. differs (sym (are.has i c e).1 ∙ ap (λ n. (block_at blocks n).owner) same ∙ (are.has id b here).1)))

-- a row that goes with its block: the last block comes into its place

module _ (rows : Rows) (blocks : List Block) (are : AreBlocks rows blocks) (id b : ℕ)
    (there : block_in rows id ≡ Some (Some b)) (new : List Block) (length_is : length new + 1 ≡ length blocks)
    (moved : b + 1 < length blocks → block_at new b ≡ block_at blocks (length blocks - 1))
    (others : (k : ℕ) → k ≢ b → k + 1 < length blocks → block_at new k ≡ block_at blocks k) where
  gone_within : id < length rows
  gone_within = row_given rows id (Some b) there

  b_within : b < length blocks
  b_within = (are.has id b there).0

  abbrev last : ℕ
  last = length blocks - 1

  -- the block was the last one

  module _ (is_last : length blocks ≤ b + 1) where
    abbrev less : Rows
    less = set rows id None

    less_here : block_in less id ≡ None
    less_here = get_or-set_same rows id None None gone_within

    less_other : (i : ℕ) → i ≢ id → block_in less i ≡ block_in rows i
    less_other i differs = get_or-set_other rows id i None None differs

    stays : (i c : ℕ) → i ≢ id → block_in rows i ≡ Some (Some c) → c < length new
    stays i c differs e =
        let p = are.has i c e in
        let h : c < length blocks = p.0 in
        let apart : c ≢ b = λ same. differs (sym p.1 ∙ ap (λ n. (block_at blocks n).owner) same
        ∙ (are.has id b there).1) in
        let w = b_within in
        omega arith

    same_block : (c : ℕ) → c < length new → block_at new c ≡ block_at blocks c
    same_block c h = others c (omega arith) (omega arith)

    pub loses_last : LosesBlock rows blocks less new id
    loses_last =
        record {
          blocks = record {
            has = λ i c e.
                elim (cases_eq i id) [
                  | inl same ↦
                      absurd (none_some (block_in less id) (Some c) less_here (ap (block_in less) (sym same) ∙ e))
                  | inr differs ↦
                      let f = sym (less_other i differs) ∙ e in
                      let h = stays i c differs f in
                      (h, ap (λ (k : Block). k.owner) (same_block c h) ∙ (are.has i c f).1)
                ];
            owner = λ c h.
                let low : c < length blocks = omega arith in
                let e = are.owner c low in
                let o : (block_at new c).owner ≡ (block_at blocks c).owner = ap (λ (k : Block). k.owner)
                (same_block c h) in
                let apart : c ≢ b = omega arith in
                ap (block_in less) o
                ∙ less_other (block_at blocks c).owner
                (λ same. apart (one_block (block_in rows id) c b (ap (block_in rows) (sym same) ∙ e) there))
                ∙ e;
            counted = (
                let s = sum_by-set has_bit rows id None None gone_within in
                let z : has_bit (get_or rows id None) ≡ 1 = ap has_bit there in
                let o : has_bit None ≡ 0 = refl in
                let c = are.counted in
                omega arith);
          };
          gone = less_here;
          live = λ i differs. ap is_some (less_other i differs);
          links = λ i o p differs e f.
              let is : p ≡ o = no_other (block_in rows i) p o (sym (less_other i differs) ∙ f) e in
              ap (links_in new) is ∙ kept i o differs e;
        }
      where
        kept : (i : ℕ) (o : Option ℕ) → i ≢ id → block_in rows i ≡ Some o → links_in new o ≡ links_in blocks o
        kept i None differs e = refl
        kept i (Some c) differs e = ap (λ (k : Block). k.links) (same_block c (stays i c differs e))

  -- another block comes into its place

  module _ (more : b + 1 < length blocks) (owner : ℕ) (owner_is : owner ≡ (block_at blocks last).owner) where
    pub owner_row : block_in rows owner ≡ Some (Some last)
    owner_row = ap (block_in rows) owner_is ∙ are.owner last (omega arith)

    pub owner_differs : owner ≢ id
    owner_differs same =
        let e : last ≡ b = one_block (block_in rows id) last b (ap (block_in rows) (sym same) ∙ owner_row) there in
        omega arith

    abbrev swapped : Rows
    swapped = set (set rows id None) owner (Some (Some b))

    owner_within : owner < length (set rows id None)
    owner_within = rw (length-set rows id None) (row_given rows owner (Some last) owner_row)

    swapped_owner : block_in swapped owner ≡ Some (Some b)
    swapped_owner = get_or-set_same (set rows id None) owner (Some (Some b)) None owner_within

    swapped_here : block_in swapped id ≡ None
    swapped_here = get_or-set_other (set rows id None) owner id (Some (Some b)) None (λ e. owner_differs (sym e))
        ∙ get_or-set_same rows id None None gone_within

    swapped_other : (i : ℕ) → i ≢ id → i ≢ owner → block_in swapped i ≡ block_in rows i
    swapped_other i not_id not_owner = get_or-set_other (set rows id None) owner i (Some (Some b)) None not_owner
        ∙ get_or-set_other rows id i None None not_id

    other_block : (i c : ℕ) → i ≢ id → i ≢ owner → block_in rows i ≡ Some (Some c) → (c ≢ b) × (c + 1 < length blocks)
    other_block i c not_id not_owner e =
        let p = are.has i c e in
        let h : c < length blocks = p.0 in
        let not_last : c ≢ last = λ same. not_owner (sym p.1 ∙ ap (λ n. (block_at blocks n).owner) same ∙ sym owner_is)
        in
        ((λ same. not_id (sym p.1 ∙ ap (λ n. (block_at blocks n).owner) same ∙ (are.has id b there).1)), omega arith)

    pub loses_swapped : LosesBlock rows blocks swapped new id
    loses_swapped =
        record {
          blocks = record {
            has = λ i c e.
                elim (cases_eq i id) [
                  | inl same ↦
                      absurd (none_some (block_in swapped id) (Some c) swapped_here
                      (ap (block_in swapped) (sym same) ∙ e))
                  | inr not_id ↦
                      elim (cases_eq i owner) [
                        | inl same ↦
                            let is : c ≡ b = one_block (block_in swapped owner) c b
                            (ap (block_in swapped) (sym same) ∙ e) swapped_owner in (
                              omega arith,
                              ap (λ n. (block_at new n).owner) is ∙ ap (λ (k : Block). k.owner) (moved more)
                                  ∙ sym owner_is ∙ sym same,
                            )
                        | inr not_owner ↦
                            let f = sym (swapped_other i not_id not_owner) ∙ e in
                            let p = other_block i c not_id not_owner f in
                            let h : c + 1 < length blocks = p.1 in
                            (omega arith, ap (λ (k : Block). k.owner) (others c p.0 h) ∙ (are.has i c f).1)
                      ]
                ];
            owner = λ c h.
                elim (cases_eq c b) [
                  | inl same ↦
                      let o : (block_at new c).owner ≡ owner = ap (λ n. (block_at new n).owner) same
                      ∙ ap (λ (k : Block). k.owner) (moved more) ∙ sym owner_is in
                      ap (block_in swapped) o ∙ swapped_owner ∙ ap (λ n. Some (Some n)) (sym same)
                  | inr differs ↦
                      let low : c < length blocks = omega arith in
                      let e = are.owner c low in
                      let o : (block_at new c).owner ≡ (block_at blocks c).owner = ap (λ (k : Block). k.owner)
                      (others c differs (omega arith)) in
                      let not_last : c ≢ last = omega arith in
                      ap (block_in swapped) o
                      ∙ swapped_other (block_at blocks c).owner
                      (λ same. differs (one_block (block_in rows id) c b (ap (block_in rows) (sym same) ∙ e) there))
                      (λ same. not_last (one_block (block_in rows owner) c last (ap (block_in rows) (sym same) ∙ e)
                      owner_row))
                      ∙ e
                ];
            counted = (
                let s = sum_by-set has_bit rows id None None gone_within in
                let z : has_bit (get_or rows id None) ≡ 1 = ap has_bit there in
                let o : has_bit None ≡ 0 = refl in
                let t = sum_by-set has_bit (set rows id None) owner (Some (Some b)) None owner_within in
                let y : has_bit (get_or (set rows id None) owner None) ≡ 1 =
                ap has_bit (get_or-set_other rows id owner None None owner_differs ∙ owner_row) in
                let x : has_bit (Some (Some b)) ≡ 1 = refl in
                let c = are.counted in
                omega arith);
          };
          gone = swapped_here;
          live = λ i differs.
              elim (cases_eq i owner) [
                | inl same ↦ ap (λ n. is_some (block_in swapped n)) same ∙ ap is_some swapped_owner
                    ∙ sym (ap is_some owner_row) ∙ ap (λ n. is_some (block_in rows n)) (sym same)
                | inr not_owner ↦ ap is_some (swapped_other i differs not_owner)
              ];
          links = λ i o p differs e f.
              elim (cases_eq i owner) [
                | inl same ↦
                    let was : o ≡ Some last = no_other (block_in rows owner) o (Some last)
                    (ap (block_in rows) (sym same) ∙ e) owner_row in
                    let is : p ≡ Some b = no_other (block_in swapped owner) p (Some b)
                    (ap (block_in swapped) (sym same) ∙ f) swapped_owner in
                    ap (links_in new) is ∙ ap (λ (k : Block). k.links) (moved more) ∙ ap (links_in blocks) (sym was)
                | inr not_owner ↦
                    let is : p ≡ o = no_other (block_in rows i) p o (sym (swapped_other i differs not_owner) ∙ f) e in
                    ap (links_in new) is ∙ kept i o differs not_owner e
              ];
        }
      where
        kept : (i : ℕ) (o : Option ℕ) → i ≢ id → i ≢ owner → block_in rows i ≡ Some o → links_in new o ≡ links_in blocks
            o
        kept i None differs not_owner e = refl
        kept i (Some c) differs not_owner e = let p = other_block i c differs not_owner e in ap (λ (k : Block). k.links)
            (others c p.0 p.1)

    pub live_swapped : count_by is_some swapped ≡ count_by is_some (set rows id None)
    live_swapped =
        let t = sum_by-set live_bit (set rows id None) owner (Some (Some b)) None owner_within in
        let y : live_bit (get_or (set rows id None) owner None) ≡ 1 =
        ap live_bit (get_or-set_other rows id owner None None owner_differs ∙ owner_row) in
        let x : live_bit (Some (Some b)) ≡ 1 = refl in
        omega arith

-- a row that goes and has no block
pub loses_none : (rows : Rows) (blocks : List Block) (id : ℕ) → AreBlocks rows blocks → block_in rows id ≡ Some None
    → LosesBlock rows blocks (set rows id None) blocks id
loses_none rows blocks id are there =
    record {
      blocks = record {
        has = λ i c e.
            elim (cases_eq i id) [
              | inl same ↦
                  absurd (none_some (block_in (set rows id None) id) (Some c) here
                  (ap (block_in (set rows id None)) (sym same) ∙ e))
              | inr differs ↦ are.has i c (sym (other i differs) ∙ e)
            ];
        owner = λ c h.
            let e = are.owner c h in
            other (block_at blocks c).owner
            (λ same. not_none (block_in rows id) c there (ap (block_in rows) (sym same) ∙ e)) ∙ e;
        counted = (
            let s = sum_by-set has_bit rows id None None within in
            let z : has_bit (get_or rows id None) ≡ 0 = ap has_bit there in
            let o : has_bit None ≡ 0 = refl in
            let c = are.counted in
            omega arith);
      };
      gone = here;
      live = λ i differs. ap is_some (other i differs);
      links = λ i o p differs e f. ap (links_in blocks) (no_other (block_in rows i) p o (sym (other i differs) ∙ f) e);
    }
  where
    within : id < length rows
    within = row_given rows id None there

    here : block_in (set rows id None) id ≡ None
    here = get_or-set_same rows id None None within

    other : (i : ℕ) → i ≢ id → block_in (set rows id None) i ≡ block_in rows i
    other i differs = get_or-set_other rows id i None None differs

-- a live row less
pub live_less : (rows : Rows) (id : ℕ) (o : Option ℕ) → block_in rows id ≡ Some o → count_by is_some
    (set rows id None) + 1 ≡ count_by is_some rows
live_less rows id o there =
    let s = sum_by-set live_bit rows id None None (row_given rows id o there) in
    let z : live_bit (get_or rows id None) ≡ 1 = ap live_bit there in
    let n : live_bit None ≡ 0 = refl in
    omega arith

-- a row with a block, or without one, is live
pub live_block : (places : List (Option Place)) (i : ℕ) (o : Option ℕ) → block_in (blocks_of places) i ≡ Some o
    → is_some (place_at places i) ≡ true
live_block places i o e = by (place_at places i) (sym (map_at (λ (p : Place). p.block) places i) ∙ e)
  where
    by : (q : Option Place) → option_map (λ (p : Place). p.block) q ≡ Some o → is_some q ≡ true
    by None h = absurd (let g : None ≡ Some o = h in cc)
    by (Some p) h = refl

pub block_there : (places : List (Option Place)) (i : ℕ) (p : Place) → place_at places i ≡ Some p
    → block_in (blocks_of places) i ≡ Some p.block
block_there places i p e = map_at (λ (q : Place). q.block) places i ∙ ap (option_map (λ (q : Place). q.block)) e
