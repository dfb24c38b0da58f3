-- Ids that are taken back: the last places go, of which none is of a live row.
use Rattle.std.proofs.Common.{◌≡◌, ℕ, zero, suc, ◌+◌, ◌<◌, ◌≤◌, Bool, false, cond, List, [], ◌∷◌, take, get_or, Option, Some, None, is_some, refl, sym, ap, subst, ◌∙◌, ⊎_elim, arith}
use Rattle.std.specs.Prelude.{count_by}
use Rattle.std.specs.Option.{option_map}
use Rattle.std.proofs.lemmas.Bool.{cases_lt, true≢false}
use Rattle.std.proofs.lemmas.List.{get_or-take, get_or_past, length-take, take-map}
use Rattle.std.proofs.lemmas.List.Sums.{sum_by-cons}
use Rattle.prefix.specs.Literal.{Literal}
use Rattle.rows.specs.declared.places.Place.{Place}
use Rattle.rows.specs.Arena.{is_live}
use Rattle.rows.specs.Places.{AreSpread, blocks_of, place_at}
use Rattle.rows.specs.Blocks.{Block, AreBlocks, block_at, has_block}
use Rattle.rows.specs.Stored.{AreStored, arena_of, stored}
use Rattle.rows.proofs.Arenas.{live_place}
use Rattle.rows.proofs.Parts.{map_at}

none_there : {A : Type 0} (o : Option A) → is_some o ≡ false → o ≡ None
none_there None e = refl
none_there (Some x) e = absurd (true≢false e)

-- nothing is there from a number on
abbrev pub NoneFrom : {A : Type 0} → List (Option A) → ℕ → Type 0
NoneFrom xs n = (i : ℕ) → n ≤ i → is_some (get_or xs i None) ≡ false

none_tail : {A : Type 0} (x : Option A) (xs : List (Option A)) (n : ℕ) → NoneFrom (x ∷ xs) (suc n) → NoneFrom xs n
none_tail x xs n none i h = none (suc i) (omega arith)

-- a front of which the rest is empty tells the same
pub front_same : {A : Type 0} (xs : List (Option A)) (n : ℕ) → NoneFrom xs n → (i : ℕ)
    → get_or (take n xs) i None ≡ get_or xs i None
front_same xs n none i =
    ⊎_elim
    (λ (low : i < n). get_or-take n xs i None low)
    (λ (high : n ≤ i).
    let short = length-take n xs in
    get_or_past (take n xs) i None (omega arith) ∙ sym (none_there (get_or xs i None) (none i high)))
    (cases_lt i n)

-- and counts the same

abbrev one_if : Bool → ℕ
one_if b = cond b 1 0

count_none : {A : Type 0} (p : Option A → Bool) → p None ≡ false → (xs : List (Option A)) → NoneFrom xs 0
    → count_by p xs ≡ 0
count_none p off [] none = refl
count_none p off (x ∷ xs) none =
    let here : one_if (p x) ≡ 0 = ap one_if (ap p (none_there x (none 0 (omega arith))) ∙ off) in
    let more : count_by p (x ∷ xs) ≡ one_if (p x) + count_by p xs = sum_by-cons (λ y. one_if (p y)) x xs in
    let rest : count_by p xs ≡ 0 = count_none p off xs (λ i h. none (suc i) (omega arith)) in
    omega (arith, here, more, rest)

count_front : {A : Type 0} (p : Option A → Bool) → p None ≡ false → (xs : List (Option A)) (n : ℕ) → NoneFrom xs n
    → count_by p (take n xs) ≡ count_by p xs
count_front p off [] zero none = refl
count_front p off [] (suc n) none = refl
count_front p off (x ∷ xs) zero none = sym (count_none p off (x ∷ xs) none)
count_front p off (x ∷ xs) (suc n) none =
    let front : count_by p (x ∷ take n xs) ≡ one_if (p x) + count_by p (take n xs) = sum_by-cons (λ y. one_if (p y)) x
    (take n xs) in
    let whole : count_by p (x ∷ xs) ≡ one_if (p x) + count_by p xs = sum_by-cons (λ y. one_if (p y)) x xs in
    let rest : count_by p (take n xs) ≡ count_by p xs = count_front p off xs n (none_tail x xs n none) in
    omega (arith, front, whole, rest)

module _ (places : List (Option Place)) (n : ℕ) (none : NoneFrom places n) where
  blocks_none : NoneFrom (blocks_of places) n
  blocks_none i h = ap is_some (map_at (λ (p : Place). p.block) places i) ∙ mapped (place_at places i) (none i h)
    where
      mapped : (o : Option Place) → is_some o ≡ false → is_some (option_map (λ (p : Place). p.block) o) ≡ false
      mapped None e = e
      mapped (Some p) e = e

  blocks_front : blocks_of (take n places) ≡ take n (blocks_of places)
  blocks_front = sym (take-map (option_map (λ (p : Place). p.block)) n places)

  spread_front : (size : ℕ) → AreSpread size places → AreSpread size (take n places)
  spread_front size spread = record {
    within = λ i p there. spread.within i p (sym (front_same places n none i) ∙ there);
    apart = λ i j p q before at to. spread.apart i j p q before (sym (front_same places n none i) ∙ at)
        (sym (front_same places n none j) ∙ to);
  }

  front_blocks : (blocks : List Block) → AreBlocks (blocks_of places) blocks
      → AreBlocks (take n (blocks_of places)) blocks
  front_blocks blocks are = record {
    has = λ i b there. are.has i b (sym (front_same (blocks_of places) n blocks_none i) ∙ there);
    owner = λ b within. front_same (blocks_of places) n blocks_none (block_at blocks b).owner ∙ are.owner b within;
    counted = count_front has_block refl (blocks_of places) n blocks_none ∙ are.counted;
  }

  pub stored_front : (size : ℕ) (blocks : List Block) (live room : ℕ) → AreStored size places blocks live room
      → AreStored size (take n places) blocks live room
  stored_front size blocks live room s = record {
    spread = spread_front size s.spread;
    blocked = subst (λ rows. AreBlocks rows blocks) (sym blocks_front) (front_blocks blocks s.blocked);
    counted = ap (count_by is_some) blocks_front
        ∙ (count_front is_some refl (blocks_of places) n blocks_none ∙ s.counted);
    room = s.room;
    few = s.few;
  }

-- by the rows that contracts see
pub none_placed : (literals : List Literal) (blocks : List Block) (places : List (Option Place)) (n : ℕ)
    → ((i : ℕ) → n ≤ i → is_live (arena_of literals blocks places) i ≡ false) → NoneFrom places n
none_placed literals blocks places n none i h = sym (live_place literals blocks places i) ∙ none i h

pub arena_front : (literals : List Literal) (blocks : List Block) (places : List (Option Place)) (n : ℕ)
    → arena_of literals blocks (take n places) ≡ take n (arena_of literals blocks places)
arena_front literals blocks places n = sym (take-map (option_map (stored literals blocks)) n places)
