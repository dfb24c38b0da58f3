-- How the rows of an arena stay kept.
use Rattle.std.proofs.Common.{◌≡◌, ℕ, ◌+◌, ◌-◌, ◌<◌, ◌≤◌, List, [], ◌∷◌, ◌++◌, length, map, set, cond, Option, Some, None, is_some, refl, sym, ap, subst, ◌∙◌, arith}
use Rattle.std.specs.Prelude.{count_by}
use Rattle.std.specs.Option.{option_map}
use Rattle.std.proofs.lemmas.List.{length-map, length-append, map-append}
use Rattle.std.proofs.lemmas.List.Sums.{count_by-le-length, sum_by-cons}
use Rattle.prefix.specs.Literal.{Literal}
use Rattle.rows.specs.declared.places.Place.{Place}
use Rattle.rows.specs.Places.{AreSpread, KeepsParts, Reblocks, blocks_of, most_blocks}
use Rattle.rows.specs.Blocks.{Block, AreBlocks, LosesBlock, block_at}
use Rattle.rows.specs.Stored.{AreStored, arena_of, stored}
use Rattle.rows.proofs.Parts.{spread_more, spread_reblocked, spread_without}
use Rattle.rows.proofs.Blocking.{blocks_more, blocks_written, count_le, live_more}

-- there are no more blocks than live rows, and no more of these than ids
pub blocks_few : (size : ℕ) (places : List (Option Place)) (blocks : List Block) (live room : ℕ)
    → AreStored size places blocks live room → length blocks ≤ live
blocks_few size places blocks live room s =
    let c = count_le (blocks_of places) in
    let h = s.blocked.counted in
    let l = s.counted in
    omega arith

pub live_few : (size : ℕ) (places : List (Option Place)) (blocks : List Block) (live room : ℕ)
    → AreStored size places blocks live room → live ≤ length places
live_few size places blocks live room s =
    let c = count_by-le-length is_some (blocks_of places) in
    let l = s.counted in
    let n = length-map places (option_map (λ (p : Place). p.block)) in
    omega arith

pub stored_more : (size more : ℕ) (places : List (Option Place)) (blocks : List Block) (live room now : ℕ)
    → AreStored size places blocks live room → live + 1 ≤ now → live + 1 ≤ most_blocks → AreStored (size + more)
    (places ++ Some (record { start = size; len = more; block = None }) ∷ []) blocks (live + 1) now
stored_more size more places blocks live room now s fits few =
    record {
      spread = spread_more size more places None s.spread;
      blocked =
          rw (map-append (option_map (λ (p : Place). p.block)) places
          (Some (record { start = size; len = more; block = None }) ∷ []))
          (blocks_more (blocks_of places) blocks s.blocked);
      counted = ap (count_by is_some)
          (map-append (option_map (λ (p : Place). p.block)) places
          (Some (record { start = size; len = more; block = None }) ∷ [])) ∙ live_more (blocks_of places)
          ∙ ap (λ n. n + 1) s.counted;
      room = fits;
      few = few;
    }

pub stored_less : (size : ℕ) (places new_places : List (Option Place)) (blocks new_blocks : List Block)
    (live room now id : ℕ) → AreStored size places blocks live room → Reblocks (set places id None) new_places
    → LosesBlock (blocks_of places) blocks (blocks_of new_places) new_blocks id → count_by is_some
    (blocks_of new_places) + 1 ≡ count_by is_some (blocks_of places) → room ≤ now → AreStored size new_places new_blocks
    (live - 1) now
stored_less size places new_places blocks new_blocks live room now id s same loses count is =
    record {
      spread = spread_reblocked size (set places id None) new_places same (spread_without size places id s.spread);
      blocked = loses.blocks;
      counted = (let l = s.counted in omega arith);
      room = (let r = s.room in omega arith);
      few = (let f = s.few in omega arith);
    }

pub stored_linked : (size : ℕ) (places new_places : List (Option Place)) (blocks middle : List Block)
    (live room now b : ℕ) (links : List (Option ℕ)) → AreStored size places blocks live room
    → Reblocks places new_places → AreBlocks (blocks_of new_places) middle → count_by is_some (blocks_of new_places) ≡
    count_by is_some (blocks_of places) → b < length middle → room ≤ now → AreStored size new_places
    (set middle b (record { owner = (block_at middle b).owner; links = links })) live now
stored_linked size places new_places blocks middle live room now b links s same are count within more =
    record {
      spread = spread_reblocked size places new_places same s.spread;
      blocked = blocks_written (blocks_of new_places) middle are b links within;
      counted = count ∙ s.counted;
      room = (let r = s.room in omega arith);
      few = (let f = s.few in omega arith);
    }

pub stored_slid : (size new_size : ℕ) (old new : List Literal) (places new_places : List (Option Place))
    (blocks : List Block) (live room : ℕ) → AreStored size places blocks live room → AreSpread new_size new_places
    → KeepsParts old places new new_places → AreStored new_size new_places blocks live room
stored_slid size new_size old new places new_places blocks live room s spread kept =
    record {
      spread = spread;
      blocked = rw kept.blocks s.blocked;
      counted = ap (count_by is_some) kept.blocks ∙ s.counted;
      room = s.room;
      few = s.few;
    }

pub stored_put : (lits row new_lits : List Literal) (places new_places : List (Option Place)) (blocks : List Block)
    (live room now : ℕ) → new_lits ≡ lits ++ row → new_places ≡ places ++ Some
    (record { start = length lits; len = length row; block = None }) ∷ [] → AreStored (length lits) places blocks live
    room → live + 1 ≤ now → live + 1 ≤ most_blocks → AreStored (length new_lits) new_places blocks (live + 1) now
stored_put lits row new_lits places new_places blocks live room now e1 e2 s fits few =
    let size : length new_lits ≡ length lits + length row = ap (λ (ls : List Literal). length ls) e1
    ∙ length-append lits row in
    let P : ℕ → Type 0 = λ n. AreStored n new_places blocks (live + 1) now in
    let Q : List (Option Place) → Type 0 = λ ps. AreStored (length lits + length row) ps blocks (live + 1) now in
    subst P (sym size)
    (subst Q (sym e2) (stored_more (length lits) (length row) places blocks live room now s fits few))

-- as many rows are live as have a place
module _ {A : Type 0} (f : Place → A) where
  abbrev one_of : {B : Type 0} → Option B → ℕ
  one_of o = cond (is_some o) 1 0

  same_one : (o : Option Place) → one_of (option_map f o) ≡ one_of o
  same_one None = refl
  same_one (Some p) = refl

  pub count_mapped : (places : List (Option Place)) → count_by is_some (map (option_map f) places) ≡ count_by is_some
      places
  count_mapped [] = refl
  count_mapped (o ∷ places) =
      let l : count_by is_some (option_map f o ∷ map (option_map f) places) ≡ one_of (option_map f o)
      + count_by is_some (map (option_map f) places) = sum_by-cons (λ (x : Option A). one_of x) (option_map f o)
      (map (option_map f) places) in
      let r : count_by is_some (o ∷ places) ≡ one_of o + count_by is_some places =
      sum_by-cons (λ (x : Option Place). one_of x) o places in
      let s = same_one o in
      let rest = count_mapped places in
      omega (arith, l, r, s, rest)

pub live_counted : (size : ℕ) (literals : List Literal) (places : List (Option Place)) (blocks : List Block)
    (live room : ℕ) → AreStored size places blocks live room → live ≡ count_by is_some (arena_of literals blocks places)
live_counted size literals places blocks live room s =
    sym (count_mapped (stored literals blocks) places
    ∙ (sym (count_mapped (λ (p : Place). p.block) places) ∙ s.counted))
