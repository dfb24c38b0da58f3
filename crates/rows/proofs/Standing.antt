-- Slots, and the spots of the rows that have a block.
use Rattle.std.proofs.Common.{◌≡◌, ◌≢◌, ℕ, zero, suc, ◌+◌, ◌<◌, ◌≤◌, cond, List, [], ◌∷◌, ◌++◌, map, length, take, get_or, set, Option, Some, None, Result, Ok, Err, OnOk, OnErr, IfSome, is_some, refl, sym, ap, ap₂, subst, ◌∙◌, ◌⊎◌, inl, inr, arith}
use Rattle.std.specs.Prelude.{count_by}
use Rattle.std.specs.Option.{option_map}
use Rattle.std.proofs.lemmas.Bool.{cases_eq, cases_lt}
use Rattle.std.proofs.lemmas.List.{get_or-set_same, get_or-set_other, get_or-take, get_or_past, get_or_append_left, get_or_at, length-append, length-set, length-map, length-take, map-append, map-set, set-get_or, set_past, take-map}
use Rattle.std.proofs.lemmas.List.Sums.{sum_by-cons, sum_by_push, sum_by-set}
use Rattle.rows.specs.declared.places.Place.{Place}
use Rattle.rows.specs.declared.slots.Spot.{Spot}
use Rattle.rows.specs.Places.{AreDead, blocks_of, len_of, most_blocks, moved_to, only_block, place_at, start_of, with_block}
use Rattle.rows.specs.Blocks.{AreBlocks, Block, block_at, block_in}
use Rattle.rows.specs.Spots.{AreSpotted, IsFirstFree, all_standing, spot_at, spotted, spotted_with, standing}
use Rattle.rows.proofs.Blocking.{block_there, count_le, count_less, live_less, one_block, row_given}
use Rattle.rows.proofs.Parts.{map_at, none_some}

abbrev Rows : Type 0
Rows = List (Option (Option ℕ))

-- a place keeps its block
pub block_kept : (spots : List Spot) (p : Place) → (standing spots p).block ≡ p.block
block_kept spots p = by p.block refl
  where
    by : (o : Option ℕ) → p.block ≡ o → (spotted_with spots p o).block ≡ o
    by None h = h
    by (Some b) h = refl

pub blocks_kept : (spots : List Spot) (places : List (Option Place))
    → blocks_of (all_standing spots places) ≡ blocks_of places
blocks_kept spots [] = refl
blocks_kept spots (None ∷ places) = ap (λ (rows : Rows). None ∷ rows) (blocks_kept spots places)
blocks_kept spots (Some p ∷ places) =
    ap₂ (λ (o : Option ℕ) (rows : Rows). Some o ∷ rows) (block_kept spots p) (blocks_kept spots places)

pub free_inside : (spots : List Spot) (slots now : List (Option Place)) (b : ℕ) → all_standing spots slots ≡ now
    → IsFirstFree (blocks_of now) b → IsFirstFree (blocks_of slots) b
free_inside spots slots now b view next =
    subst (λ rows. IsFirstFree rows b)
    (sym (ap (λ (ps : List (Option Place)). blocks_of ps) view) ∙ blocks_kept spots slots) next

-- what is read of them

pub standing_at : (spots : List Spot) (places : List (Option Place)) (i : ℕ)
    → place_at (all_standing spots places) i ≡ option_map (standing spots) (place_at places i)
standing_at spots places i = map_at (standing spots) places i

some_mapped : (f : Place → Place) (o : Option Place) → is_some (option_map f o) ≡ is_some o
some_mapped f None = refl
some_mapped f (Some p) = refl

pub live_standing : (spots : List Spot) (places : List (Option Place)) (i : ℕ)
    → is_some (place_at (all_standing spots places) i) ≡ is_some (place_at places i)
live_standing spots places i = ap is_some (standing_at spots places i)
    ∙ some_mapped (standing spots) (place_at places i)

-- two ways that agree on all rows but one, which is written

pub map_same : (f g : Place → Place) (places : List (Option Place))
    → ((i : ℕ) (p : Place) → place_at places i ≡ Some p → f p ≡ g p)
    → map (option_map f) places ≡ map (option_map g) places
map_same f g [] same = refl
map_same f g (None ∷ places) same =
    ap (λ (ps : List (Option Place)). None ∷ ps) (map_same f g places (λ i p e. same (suc i) p e))
map_same f g (Some q ∷ places) same =
    ap₂ (λ (o : Place) (ps : List (Option Place)). Some o ∷ ps) (same 0 q refl)
    (map_same f g places (λ i p e. same (suc i) p e))

pub set_same : (f g : Place → Place) (places : List (Option Place)) (id : ℕ) (o : Option Place)
    → ((i : ℕ) (p : Place) → i ≢ id → place_at places i ≡ Some p → f p ≡ g p)
    → set (map (option_map f) places) id o ≡ set (map (option_map g) places) id o
set_same f g [] id o same = refl
set_same f g (x ∷ places) zero o same =
    ap (λ (ps : List (Option Place)). o ∷ ps)
    (map_same f g places (λ i p e. same (suc i) p (omega arith) e))
set_same f g (None ∷ places) (suc id) o same =
    ap (λ (ps : List (Option Place)). None ∷ ps)
    (set_same f g places id o (λ i p differs e. same (suc i) p (omega (arith, differs)) e))
set_same f g (Some q ∷ places) (suc id) o same =
    ap₂ (λ (r : Place) (ps : List (Option Place)). Some r ∷ ps) (same 0 q (omega arith) refl)
    (set_same f g places id o (λ i p differs e. same (suc i) p (omega (arith, differs)) e))

-- how spots stay kept

abbrev live_bit : Option (Option ℕ) → ℕ
live_bit o = cond (is_some o) 1 0

bit_most : (o : Option (Option ℕ)) → live_bit o ≤ 1
bit_most None = omega arith
bit_most (Some b) = omega arith

module _ (rows : Rows) (spots room : ℕ) (are : AreSpotted rows spots room) where
  pub spotted_more : (more_spots more_room : ℕ) → spots ≤ more_spots → room ≤ more_room
      → AreSpotted rows more_spots more_room
  spotted_more more_spots more_room s r = record {
    given = λ i b e. let h : b < spots = are.given i b e in omega arith;
    apart = are.apart;
    enough = let h = are.enough in omega arith;
  }

  -- one row more, without a block
  module _ (o : Option (Option ℕ)) (free : (b : ℕ) → o ≢ Some (Some b)) where
    was : (i b : ℕ) → block_in (rows ++ o ∷ []) i ≡ Some (Some b) → block_in rows i ≡ Some (Some b)
    was i b e =
        elim (cases_lt i (length rows)) [
          | inl low ↦ sym (get_or_append_left rows (o ∷ []) None i low) ∙ e
          | inr high ↦
              let g = row_given (rows ++ o ∷ []) i (Some b) e in
              let l = length-append rows (o ∷ []) in
              let is : i ≡ length rows = omega arith in
              absurd (free b (sym (get_or_at rows o [] None (length rows) refl)
              ∙ ap (block_in (rows ++ o ∷ [])) (sym is) ∙ e))
        ]

    pub spotted_push : (more_room : ℕ) → room ≤ more_room → count_by is_some rows + 1 ≤ more_room
        → AreSpotted (rows ++ o ∷ []) spots more_room
    spotted_push more_room r enough = record {
      given = λ i b e. are.given i b (was i b e);
      apart = λ i j b e f. are.apart i j b (was i b e) (was j b f);
      enough = let p = sum_by_push live_bit rows o in let m = bit_most o in omega arith;
    }

  -- a row that goes
  pub spotted_less : (id : ℕ) → AreSpotted (set rows id None) spots room
  spotted_less id = record {
    given = λ i b e. are.given i b (was_less i b e);
    apart = λ i j b e f. are.apart i j b (was_less i b e) (was_less j b f);
    enough = let h = are.enough in let l = count_less_set in omega arith;
  }
    where
      was_less : (i b : ℕ) → block_in (set rows id None) i ≡ Some (Some b) → block_in rows i ≡ Some (Some b)
      was_less i b e =
          elim (cases_eq i id) [
            | inl same ↦
                let g = row_given (set rows id None) i (Some b) e in
                let l = length-set rows id None in
                let within : id < length rows = omega arith in
                absurd (none_some (block_in (set rows id None) id) (Some b)
                (get_or-set_same rows id None None within) (ap (block_in (set rows id None)) (sym same) ∙ e))
            | inr differs ↦ sym (get_or-set_other rows id i None None differs) ∙ e
          ]

      count_less_set : count_by is_some (set rows id None) ≤ count_by is_some rows
      count_less_set =
          elim (cases_lt id (length rows)) [
            | inl within ↦
                let s = sum_by-set live_bit rows id None None within in
                let n : live_bit None ≡ 0 = refl in
                omega arith
            | inr past ↦ let same = ap (count_by is_some) (set_past rows id None past) in omega arith
          ]

  -- a front of the rows
  pub spotted_front : (n : ℕ) → AreSpotted (take n rows) spots room
  spotted_front n = record {
    given = λ i b e. are.given i b (was_front i b e);
    apart = λ i j b e f. are.apart i j b (was_front i b e) (was_front j b f);
    enough = let h = are.enough in let l = count_front_le rows n in omega arith;
  }
    where
      was_front : (i b : ℕ) → block_in (take n rows) i ≡ Some (Some b) → block_in rows i ≡ Some (Some b)
      was_front i b e =
          let g = row_given (take n rows) i (Some b) e in
          let l = length-take n rows in
          let low : i < n = omega arith in
          sym (get_or-take n rows i None low) ∙ e

      count_front_le : (xs : Rows) (k : ℕ) → count_by is_some (take k xs) ≤ count_by is_some xs
      count_front_le [] zero = omega arith
      count_front_le [] (suc k) = omega arith
      count_front_le (x ∷ xs) zero = omega arith
      count_front_le (x ∷ xs) (suc k) =
          let a = sum_by-cons live_bit x xs in
          let b = sum_by-cons live_bit x (take k xs) in
          let r = count_front_le xs k in
          omega arith

  -- the first free number: the spots reach up to its number, and there is room for it
  module _ (b : ℕ) (first : IsFirstFree rows b) where
    pub free_within : b ≤ spots
    free_within = up b (λ k h. let w = first.before k h in are.given w.0 k w.1)
      where
        up : (n : ℕ) → ((k : ℕ) → k < n → k < spots) → n ≤ spots
        up zero all = omega arith
        up (suc k) all = let h : k < spots = all k (omega arith) in omega arith

    pub free_room : b < room
    free_room = let f = first.fewer in let r = are.enough in omega arith

  -- a row that gets it
  module _ (id b : ℕ) (o : Option ℕ) (live : block_in rows id ≡ Some o) (first : IsFirstFree rows b) where
    given_within : id < length rows
    given_within = row_given rows id o live

    given_is : (i c : ℕ) → block_in (set rows id (Some (Some b))) i ≡ Some (Some c)
        → ((i ≡ id) × (c ≡ b)) ⊎ ((i ≢ id) × (block_in rows i ≡ Some (Some c)))
    given_is i c e =
        elim (cases_eq i id) [
          | inl same ↦ inl (
            same,
            one_block (block_in (set rows id (Some (Some b))) id) c b
                (ap (block_in (set rows id (Some (Some b)))) (sym same) ∙ e)
                (get_or-set_same rows id (Some (Some b)) None given_within),
          )
          | inr differs ↦ inr (differs, sym (get_or-set_other rows id i (Some (Some b)) None differs) ∙ e)
        ]

    pub spotted_free : (more_spots more_room : ℕ) → spots ≤ more_spots → b < more_spots → room ≤ more_room
        → AreSpotted (set rows id (Some (Some b))) more_spots more_room
    spotted_free more_spots more_room s within r = record {
      given = λ i c e.
          elim (given_is i c e) [
            | inl here ↦ let is = here.1 in omega arith
            | inr other ↦ let h : c < spots = are.given i c other.1 in omega arith
          ];
      apart = λ i j c e f.
          elim (given_is i c e) [
            | inl here ↦
                elim (given_is j c f) [
                  | inl there ↦ here.0 ∙ sym there.0
                  | inr other ↦ absurd (first.unused j (other.1 ∙ ap (λ n. Some (Some n)) here.1))
                ]
            | inr one ↦
                elim (given_is j c f) [
                  | inl there ↦ absurd (first.unused i (one.1 ∙ ap (λ n. Some (Some n)) there.1))
                  | inr other ↦ are.apart i j c one.1 other.1
                ]
          ];
      enough = (
          let t = sum_by-set live_bit rows id (Some (Some b)) None given_within in
          let y : live_bit (get_or rows id None) ≡ 1 = ap live_bit live in
          let x : live_bit (Some (Some b)) ≡ 1 = refl in
          let h = are.enough in
          omega arith);
    }

-- no rows are kept so
pub spotted_none : (spots room : ℕ) → AreSpotted [] spots room
spotted_none spots room = record {
  given = λ i b e. absurd (none_some (block_in [] i) (Some b) (get_or_past [] i None (omega arith)) e);
  apart = λ i j b e f. absurd (none_some (block_in [] i) (Some b) (get_or_past [] i None (omega arith)) e);
  enough = omega arith;
}

-- places whose blocks are kept so

module _ (slots : List (Option Place)) (spots room : ℕ) (are : AreSpotted (blocks_of slots) spots room) where
  pub kept_less : (new : List (Option Place)) (id : ℕ) → new ≡ set slots id None → AreSpotted (blocks_of new) spots room
  kept_less new id e =
      let P : Rows → Type 0 = λ rows. AreSpotted rows spots room in
      subst P
      (sym (ap (λ (ps : List (Option Place)). blocks_of ps) e
      ∙ map-set (option_map (λ (p : Place). p.block)) slots id None))
      (spotted_less (blocks_of slots) spots room are id)

  pub kept_front : (new : List (Option Place)) (n : ℕ) → new ≡ take n slots → AreSpotted (blocks_of new) spots room
  kept_front new n e =
      let P : Rows → Type 0 = λ rows. AreSpotted rows spots room in
      subst P
      (take-map (option_map (λ (p : Place). p.block)) n slots ∙ sym (ap (λ (ps : List (Option Place)). blocks_of ps) e))
      (spotted_front (blocks_of slots) spots room are n)

  pub kept_push : (new : List (Option Place)) (slot : Option Place) (more_room : ℕ) → new ≡ slots ++ slot ∷ []
      → IfSome slot (λ p. p.block ≡ None) → room ≤ more_room → count_by is_some (blocks_of slots) + 1 ≤ more_room
      → AreSpotted (blocks_of new) spots more_room
  kept_push new slot more_room e own r enough =
      let P : Rows → Type 0 = λ rows. AreSpotted rows spots more_room in
      let o = option_map (λ (p : Place). p.block) slot in
      subst P
      (sym (ap (λ (ps : List (Option Place)). blocks_of ps) e
      ∙ map-append (option_map (λ (p : Place). p.block)) slots (slot ∷ [])))
      (spotted_push (blocks_of slots) spots room are o (own_free slot own) more_room r enough)
    where
      own_free : (q : Option Place) → IfSome q (λ p. p.block ≡ None) → (b : ℕ)
          → option_map (λ (p : Place). p.block) q ≢ Some (Some b)
      own_free None h b f = absurd (let g : None ≡ Some (Some b) = f in cc)
      own_free (Some p) h b f = absurd (let g : Some p.block ≡ Some (Some b) = f in let i : p.block ≡ None = h in cc)

  pub kept_free : (new : List (Option Place)) (id b : ℕ) (p : Place) → place_at slots id ≡ Some p
      → new ≡ set slots id (Some (only_block b)) → IsFirstFree (blocks_of slots) b → (more_spots more_room : ℕ)
      → spots ≤ more_spots → b < more_spots → room ≤ more_room → AreSpotted (blocks_of new) more_spots more_room
  kept_free new id b p there e next more_spots more_room s within r =
      let P : Rows → Type 0 = λ rows. AreSpotted rows more_spots more_room in
      subst P
      (sym (ap (λ (ps : List (Option Place)). blocks_of ps) e
      ∙ map-set (option_map (λ (q : Place). q.block)) slots id (Some (only_block b))))
      (spotted_free (blocks_of slots) spots room are id b p.block (block_there slots id p there) next more_spots
      more_room s within r)

  pub kept_moved : (new : List (Option Place)) (id start : ℕ) (p : Place) → place_at slots id ≡ Some p
      → new ≡ set slots id (option_map (moved_to start) (place_at slots id)) → AreSpotted (blocks_of new) spots room
  kept_moved new id start p there e =
      let P : Rows → Type 0 = λ rows. AreSpotted rows spots room in
      subst P
      (sym (ap (λ (ps : List (Option Place)). blocks_of ps)
      (e ∙ ap (λ (o : Option Place). set slots id (option_map (moved_to start) o)) there)
      ∙ (map-set (option_map (λ (q : Place). q.block)) slots id (Some (moved_to start p))
      ∙ (ap (set (blocks_of slots) id) (sym (block_there slots id p there)) ∙ set-get_or (blocks_of slots) id None))))
      are

pub kept_pushed : {A E : Type 0} (r : Result A E) (slots new : List (Option Place)) (slot : Option Place)
    (spots room more_room : ℕ) → OnOk r (new ≡ slots ++ slot ∷ []) → OnErr r (new ≡ slots)
    → AreSpotted (blocks_of slots) spots room → IfSome slot (λ p. p.block ≡ None) → room ≤ more_room
    → count_by is_some (blocks_of slots) + 1 ≤ more_room → AreSpotted (blocks_of new) spots more_room
kept_pushed (Ok x) slots new slot spots room more_room e f are own r enough =
    kept_push slots spots room are new slot more_room e own r enough
kept_pushed (Err y) slots new slot spots room more_room e f are own r enough =
    subst (λ ps. AreSpotted (blocks_of ps) spots more_room) (sym f)
    (spotted_more (blocks_of slots) spots room are spots more_room (omega arith) r)

pub kept_pushed_pair : {A E : Type 0} (r : Result A E) (slots new : List (Option Place)) (one two : Option Place)
    (spots room more_room : ℕ) → OnOk r (new ≡ (slots ++ one ∷ []) ++ two ∷ []) → OnErr r (new ≡ slots)
    → AreSpotted (blocks_of slots) spots room → IfSome one (λ p. p.block ≡ None) → IfSome two (λ p. p.block ≡ None)
    → room ≤ more_room → count_by is_some (blocks_of slots) + 2 ≤ more_room → AreSpotted (blocks_of new) spots more_room
kept_pushed_pair (Ok x) slots new one two spots room more_room e f are own next r enough =
    let first = kept_push slots spots room are (slots ++ one ∷ []) one more_room refl own r (omega arith) in
    let c : count_by is_some (blocks_of (slots ++ one ∷ [])) ≤ count_by is_some (blocks_of slots) + 1 =
    count_push slots one in
    kept_push (slots ++ one ∷ []) spots more_room first new two more_room e next (omega arith) (omega arith)
  where
    count_push : (ps : List (Option Place)) (slot : Option Place)
        → count_by is_some (blocks_of (ps ++ slot ∷ [])) ≤ count_by is_some (blocks_of ps) + 1
    count_push ps slot =
        let o = option_map (λ (p : Place). p.block) slot in
        let e = ap (λ (rows : Rows). count_by is_some rows)
        (map-append (option_map (λ (p : Place). p.block)) ps (slot ∷ [])) in
        let p = sum_by_push live_bit (blocks_of ps) o in
        let m = bit_most o in
        omega arith
kept_pushed_pair (Err y) slots new one two spots room more_room e f are own next r enough =
    subst (λ ps. AreSpotted (blocks_of ps) spots more_room) (sym f)
    (spotted_more (blocks_of slots) spots room are spots more_room (omega arith) r)

-- what becomes of the places themselves

-- a place without a block stands where its slot says
pub own_stands : (spots : List Spot) (o : Option Place) → IfSome o (λ p. p.block ≡ None)
    → option_map (standing spots) o ≡ o
own_stands spots None own = refl
own_stands spots (Some p) own = ap (λ (b : Option ℕ). Some (spotted_with spots p b)) own

-- other spots under one number change only the row that has this block
pub stands_same : (spots more : List Spot) (b : ℕ) → ((k : ℕ) → k ≢ b → spot_at more k ≡ spot_at spots k) → (p : Place)
    → p.block ≢ Some b → standing more p ≡ standing spots p
stands_same spots more b others p differs = by p.block differs
  where
    by : (o : Option ℕ) → o ≢ Some b → spotted_with more p o ≡ spotted_with spots p o
    by None h = refl
    by (Some k) h = ap (λ (s : Spot). spotted s k) (others k (λ e. h (ap Some e)))

pub push_stands : (spots more : List Spot) (slots new now : List (Option Place)) (slot : Option Place) → more ≡ spots
    → IfSome slot (λ p. p.block ≡ None) → all_standing spots slots ≡ now → new ≡ slots ++ slot ∷ []
    → all_standing more new ≡ now ++ slot ∷ []
push_stands spots more slots new now slot same own view e =
    ap₂ (λ (ss : List Spot) (ps : List (Option Place)). all_standing ss ps) same e
    ∙ (map-append (option_map (standing spots)) slots (slot ∷ [])
    ∙ ap₂ (λ (ps : List (Option Place)) (o : Option Place). ps ++ o ∷ []) view (own_stands spots slot own))

-- a row with a block stands at its spot
pub spotted_at : (spots : List Spot) (slots now : List (Option Place)) (id b : ℕ) (p : Place)
    → all_standing spots slots ≡ now → place_at slots id ≡ Some p → p.block ≡ Some b
    → place_at now id ≡ Some (spotted (spot_at spots b) b)
spotted_at spots slots now id b p view there has =
    ap (λ (ps : List (Option Place)). place_at ps id) (sym view)
    ∙ (standing_at spots slots id
    ∙ (ap (option_map (standing spots)) there ∙ ap (λ (k : Option ℕ). Some (spotted_with spots p k)) has))

-- an id without a live row has none either way
pub dead_standing : (spots : List Spot) (slots : List (Option Place)) (start end : ℕ) → AreDead slots start end
    → AreDead (all_standing spots slots) start end
dead_standing spots slots start end dead = record {
  in_order = dead.in_order;
  given = let g = dead.given in let l = length-map slots (option_map (standing spots)) in omega arith;
  none = λ id h l. standing_at spots slots id ∙ ap (option_map (standing spots)) (dead.none id h l);
}

-- a row gets a block that no row had, and its spot there
pub block_stands : (spots more : List Spot) (slots new now : List (Option Place)) (id b : ℕ) (place : Place)
    → all_standing spots slots ≡ now → new ≡ set slots id (Some (only_block b))
    → ((i : ℕ) → block_in (blocks_of slots) i ≢ Some (Some b))
    → ((k : ℕ) → k ≢ b → spot_at more k ≡ spot_at spots k) → place_at now id ≡ Some place
    → start_of (spot_at more b).low (spot_at more b).rest ≡ place.start → len_of (spot_at more b).rest ≡ place.len
    → all_standing more new ≡ set now id (option_map (with_block (Some b)) (place_at now id))
block_stands spots more slots new now id b place view e free others at start len =
    let o : Option Place = option_map (with_block (Some b)) (place_at now id) in
    let is : Some (spotted (spot_at more b) b) ≡ o =
    ap₂ (λ (n m : ℕ). Some (record { start = n; len = m; block = Some b })) start len
    ∙ sym (ap (option_map (with_block (Some b))) at) in
    ap (all_standing more) e
    ∙ (map-set (option_map (standing more)) slots id (Some (only_block b))
    ∙ (ap (set (all_standing more slots) id) is
    ∙ (set_same (standing more) (standing spots) slots id o
    (λ i p differs there. stands_same spots more b others p
    (λ has. free i (block_there slots i p there ∙ ap Some has)))
    ∙ ap (λ (ps : List (Option Place)). set ps id o) view)))

-- a row without a block gets another place
pub own_moves : (spots : List Spot) (slots new now : List (Option Place)) (id start : ℕ) (p : Place)
    → all_standing spots slots ≡ now → place_at slots id ≡ Some p → p.block ≡ None
    → new ≡ set slots id (option_map (moved_to start) (place_at slots id))
    → all_standing spots new ≡ set now id (option_map (moved_to start) (place_at now id))
own_moves spots slots new now id start p view there own e =
    let q : Option Place = Some (moved_to start p) in
    let at : place_at now id ≡ Some p =
    ap (λ (ps : List (Option Place)). place_at ps id) (sym view)
    ∙ (standing_at spots slots id ∙ (ap (option_map (standing spots)) there ∙ own_stands spots (Some p) own)) in
    ap (all_standing spots) (e ∙ ap (λ (o : Option Place). set slots id (option_map (moved_to start) o)) there)
    ∙ (map-set (option_map (standing spots)) slots id q
    ∙ (ap (set (all_standing spots slots) id) (own_stands spots q own)
    ∙ (ap (λ (ps : List (Option Place)). set ps id q) view
    ∙ ap (λ (o : Option Place). set now id (option_map (moved_to start) o)) (sym at))))

-- and so does one with a block
pub spot_moves : (spots more : List Spot) (slots now : List (Option Place)) (size room id b start : ℕ) (p : Place)
    → AreSpotted (blocks_of slots) size room → all_standing spots slots ≡ now → place_at slots id ≡ Some p
    → p.block ≡ Some b → start_of (spot_at more b).low (spot_at more b).rest ≡ start
    → len_of (spot_at more b).rest ≡ len_of (spot_at spots b).rest
    → ((k : ℕ) → k ≢ b → spot_at more k ≡ spot_at spots k)
    → all_standing more slots ≡ set now id (option_map (moved_to start) (place_at now id))
spot_moves spots more slots now size room id b start p are view there has from len others =
    let o : Option Place = option_map (moved_to start) (place_at now id) in
    let now_at = spotted_at spots slots now id b p view there has in
    let at = spotted_at more slots (all_standing more slots) id b p refl there has in
    let is : place_at (all_standing more slots) id ≡ o =
    at
    ∙ (ap₂ (λ (n m : ℕ). Some (record { start = n; len = m; block = Some b })) from len
    ∙ sym (ap (option_map (moved_to start)) now_at)) in
    let here = block_there slots id p there ∙ ap Some has in
    sym (set-get_or (all_standing more slots) id None)
    ∙ (ap (set (all_standing more slots) id) is
    ∙ (set_same (standing more) (standing spots) slots id o
    (λ i q differs e. stands_same spots more b others q
    (λ too. differs (are.apart i id b (block_there slots i q e ∙ ap Some too) here)))
    ∙ ap (λ (ps : List (Option Place)). set ps id o) view))

-- the number behind those of all blocks is the first free one
pub free_given : (rows : Rows) (blocks : List Block) → AreBlocks rows blocks → (id : ℕ) → block_in rows id ≡ Some None
    → count_by is_some rows ≤ most_blocks → IsFirstFree rows (length blocks)
free_given rows blocks are id there few =
    let less = count_less rows id there in
    let count = are.counted in
    record {
      fits = omega arith;
      unused = λ i e. let h : length blocks < length blocks = (are.has i (length blocks) e).0 in omega arith;
      before = λ b h. ((block_at blocks b).owner, are.owner b h);
      fewer = omega arith;
    }

-- and so is that of a row which goes, while it is not the last one
pub free_again : (rows : Rows) (blocks : List Block) → AreBlocks rows blocks → (id b : ℕ)
    → block_in rows id ≡ Some (Some b) → b + 1 < length blocks → count_by is_some rows ≤ most_blocks
    → IsFirstFree (set rows id None) b
free_again rows blocks are id b there more few =
    let count = are.counted in
    let le = count_le rows in
    let less = live_less rows id (Some b) there in
    record {
      fits = omega arith;
      unused = λ i e.
          elim (cases_eq i id) [
            | inl same ↦
                absurd (none_some (block_in (set rows id None) id) (Some b)
                (get_or-set_same rows id None None (row_given rows id (Some b) there))
                (ap (block_in (set rows id None)) (sym same) ∙ e))
            | inr differs ↦
                differs (sym (are.has i b (sym (get_or-set_other rows id i None None differs) ∙ e)).1
                ∙ (are.has id b there).1)
          ];
      before = λ k h.
          let owner = (block_at blocks k).owner in
          let e : block_in rows owner ≡ Some (Some k) = are.owner k (omega arith) in
          let apart : k ≢ b = omega arith in (
            owner,
            get_or-set_other rows id owner None None
                (λ same. apart (one_block (block_in rows id) k b (ap (block_in rows) (sym same) ∙ e) there)) ∙ e,
          );
      fewer = omega arith;
    }
