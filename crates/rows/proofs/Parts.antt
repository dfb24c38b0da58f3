-- The literals of rows, where they stand and where they are moved.
use Rattle.std.proofs.Common.{◌≡◌, ◌≢◌, ℕ, zero, suc, ◌+◌, ◌-◌, ◌<◌, ◌≤◌, List, [], ◌∷◌, ◌++◌, length, map, take, drop, get_or, set, Option, Some, None, is_some, IsTrue, refl, sym, ap, ◌∙◌, inl, inr, arith, append_assoc}
use Rattle.std.specs.Option.{option_map}
use Rattle.std.proofs.lemmas.Bool.{cases_eq, cases_lt, false≢true}
use Rattle.std.proofs.lemmas.List.{get_or-set_same, get_or-set_other, get_or_past, get_or_at, get_or_append_left, length-set, length-drop, length-append, length-take-le, map-set, set-get_or, take-append-drop, take-append-le, drop-append-le, take_all, take_at, drop_at, drop-drop}
use Rattle.std.proofs.lemmas.List.Edits.{drop-paste, length-paste}
use lib.Seq.{paste}
use Rattle.prefix.specs.Literal.{Literal}
use Rattle.rows.specs.declared.places.Place.{Place}
use Rattle.rows.specs.Places.{AreMoving, AreSpread, KeepsParts, Reblocks, blocks_of, part, part_in, place_at}

-- options

pub none_some : {A : Type 0} (o : Option A) (x : A) → o ≡ None → o ≡ Some x → ⊥
none_some o x n s = let g : None ≡ Some x = sym n ∙ s in cc

pub some_same : {A : Type 0} (o : Option A) (x y : A) → o ≡ Some x → o ≡ Some y → x ≡ y
some_same o x y a b = let g : Some x ≡ Some y = sym a ∙ b in cc

pub some_is : {A : Type 0} (o : Option A) → IsTrue (is_some o) → (x : A) × (o ≡ Some x)
some_is None e = absurd (false≢true e)
some_is (Some x) e = (x, refl)

-- what is read of a map over options
pub map_at : {A B : Type 0} (f : A → B) (xs : List (Option A)) (i : ℕ) → get_or (map (option_map f) xs) i
    None ≡ option_map f (get_or xs i None)
map_at f [] i = refl
map_at f (x ∷ xs) zero = refl
map_at f (x ∷ xs) (suc i) = map_at f xs i

-- a live row has an id that was given
pub place_given : (places : List (Option Place)) (i : ℕ) (p : Place) → place_at places i ≡ Some p → i < length places
place_given places i p e =
    elim (cases_lt i (length places)) [
      | inl h ↦ h
      | inr h ↦ absurd (none_some (place_at places i) p (get_or_past places i None h) e)
    ]

-- the literals at a place

pub part_append : (xs ys : List Literal) (p : Place) → p.start + p.len ≤ length xs → part (xs ++ ys) p ≡ part xs p
part_append xs ys p h =
    let far : p.start ≤ length xs = omega arith in
    let long : p.len ≤ length (drop p.start xs) = rw (length-drop p.start xs) (omega arith) in
    ap (take p.len) (drop-append-le p.start xs ys far) ∙ take-append-le p.len (drop p.start xs) ys long

pub part_end : (xs ys : List Literal) (block : Option ℕ)
    → part (xs ++ ys) (record { start = length xs; len = length ys; block = block }) ≡ ys
part_end xs ys block = ap (take (length ys)) (drop_at xs ys (length xs) refl) ∙ take_all (length ys) ys (omega arith)

pub part_front : (xs : List Literal) (n : ℕ) (p : Place) → p.start + p.len ≤ n → n ≤ length xs
    → part (take n xs) p ≡ part xs p
part_front xs n p h within =
    sym (part_append (take n xs) (drop n xs) p (rw (length-take-le n xs within) h))
    ∙ ap (λ (ls : List Literal). part ls p) (take-append-drop n xs)

-- literals that are moved down

module _ (xs : List Literal) (to start len : ℕ) (down : to ≤ start) (within : start + len ≤ length xs) where
  abbrev moved_down : List Literal
  moved_down = paste xs to (drop start xs) len

  short : to ≤ length xs
  short = omega arith

  enough : len ≤ length (drop start xs)
  enough = rw (length-drop start xs) (omega arith)

  split : moved_down ≡ take to xs ++ (take len (drop start xs) ++ drop (to + len) xs)
  split = append_assoc (take to xs) (take len (drop start xs)) (drop (to + len) xs)

  pub moved_here : take len (drop to moved_down) ≡ take len (drop start xs)
  moved_here =
      ap (λ (ls : List Literal). take len (drop to ls)) split
      ∙ ap (take len) (drop_at (take to xs) (take len (drop start xs) ++ drop (to + len) xs) to
      (length-take-le to xs short))
      ∙ take_at (take len (drop start xs)) (drop (to + len) xs) len (length-take-le len (drop start xs) enough)

  pub moved_below : (p : Place) → p.start + p.len ≤ to → part moved_down p ≡ part xs p
  moved_below p h =
      ap (λ (ls : List Literal). part ls p) split
      ∙ part_append (take to xs) (take len (drop start xs) ++ drop (to + len) xs) p (rw (length-take-le to xs short) h)
      ∙ part_front xs to p h short

  pub moved_above : (p : Place) → to + len ≤ p.start → part moved_down p ≡ part xs p
  moved_above p h =
      let k : ℕ = p.start - (to + len) in
      let far : (to + len) + k ≡ p.start = omega arith in
      ap (take p.len)
      (ap (λ n. drop n moved_down) (sym far)
      ∙ sym (drop-drop k (to + len) moved_down)
      ∙ ap (drop k) (drop-paste xs to (drop start xs) len short enough)
      ∙ drop-drop k (to + len) xs
      ∙ ap (λ n. drop n xs) far)

  pub moved_length : length moved_down ≡ length xs
  moved_length = length-paste xs to (drop start xs) len (omega arith) enough

-- rows that are moved one after the other

pub moving_from : (size : ℕ) (places : List (Option Place)) → AreSpread size places → AreMoving size places 0 0
moving_from size places spread = record {
  spread = spread;
  below = λ i p h e. absurd (omega arith);
  above =
      λ i p h e. omega arith;
  fits = omega arith;
}

module _ (size : ℕ) (places : List (Option Place)) (id to : ℕ) (m : AreMoving size places id to) where
  pub moving_none : place_at places id ≡ None → AreMoving size places (id + 1) to
  moving_none none =
      record {
        spread = m.spread;
        below = λ i p h e.
            elim (cases_eq i id) [
              | inl same ↦ absurd (none_some (place_at places id) p none (ap (place_at places) (sym same) ∙ e))
              | inr differs ↦ m.below i p (omega arith) e
            ];
        above = λ i p h e. m.above i p (omega arith) e;
        fits = m.fits;
      }

  module _ (place : Place) (there : place_at places id ≡ Some place) where
    is_place : (i : ℕ) (p : Place) → i ≡ id → place_at places i ≡ Some p → p ≡ place
    is_place i p same e = some_same (place_at places id) p place (ap (place_at places) (sym same) ∙ e) there

    above_place : (i : ℕ) (p : Place) → id + 1 ≤ i → place_at places i ≡ Some p → place.start + place.len ≤ p.start
    above_place i p h e = m.spread.apart id i place p (omega arith) there e

    to_place : to ≤ place.start
    to_place = m.above id place (omega arith) there

    ends_within : place.start + place.len ≤ size
    ends_within = m.spread.within id place there

    pub moving_stays : to ≡ place.start → AreMoving size places (id + 1) (to + place.len)
    moving_stays is =
        record {
          spread = m.spread;
          below = λ i p h e.
              elim (cases_eq i id) [
                | inl same ↦ rw (is_place i p same e) (omega arith)
                | inr differs ↦ let b = m.below i p (omega arith) e in omega arith
              ];
          above = λ i p h e. let b = above_place i p h e in omega arith;
          fits = let b = ends_within in omega arith;
        }

    abbrev lowered : Place
    lowered = record { start = to; len = place.len; block = place.block }

    abbrev lowered_places : List (Option Place)
    lowered_places = set places id (Some lowered)

    lowered_here : (i : ℕ) (p : Place) → i ≡ id → place_at lowered_places i ≡ Some p → p ≡ lowered
    lowered_here i p same e = some_same (place_at lowered_places id) p lowered
        (ap (place_at lowered_places) (sym same) ∙ e)
        (get_or-set_same places id (Some lowered) None (place_given places id place there))

    lowered_other : (i : ℕ) (p : Place) → i ≢ id → place_at lowered_places i ≡ Some p → place_at places i ≡ Some p
    lowered_other i p differs e = sym (get_or-set_other places id i (Some lowered) None differs) ∙ e

    pub moving_down : AreMoving size lowered_places (id + 1) (to + place.len)
    moving_down =
        record {
          spread = record {
            within = λ i p e.
                elim (cases_eq i id) [
                  | inl same ↦ rw (lowered_here i p same e) (let a = ends_within in let b = to_place in omega arith)
                  | inr differs ↦ m.spread.within i p (lowered_other i p differs e)
                ];
            apart = λ i j p q h e f.
                elim (cases_eq i id) [
                  | inl same ↦
                      let a = above_place j q (omega arith) (lowered_other j q (omega arith) f) in
                      let b = to_place in
                      rw (lowered_here i p same e) (omega arith)
                  | inr differs ↦
                      elim (cases_eq j id) [
                        | inl same ↦ rw (lowered_here j q same f)
                            (m.below i p (omega arith) (lowered_other i p differs e))
                        | inr apart ↦ m.spread.apart i j p q h (lowered_other i p differs e) (lowered_other j q apart f)
                      ]
                ];
          };
          below = λ i p h e.
              elim (cases_eq i id) [
                | inl same ↦ rw (lowered_here i p same e) (omega arith)
                | inr differs ↦ let b = m.below i p (omega arith) (lowered_other i p differs e) in omega arith
              ];
          above = λ i p h e. let a = above_place i p h (lowered_other i p (omega arith) e) in let b = to_place in
              omega arith;
          fits = let a = ends_within in let b = to_place in omega arith;
        }

    same_block : set (blocks_of places) id (Some place.block) ≡ blocks_of places
    same_block =
        ap (set (blocks_of places) id)
        (sym (map_at (λ (p : Place). p.block) places id ∙ ap (option_map (λ (p : Place). p.block)) there))
        ∙ set-get_or (blocks_of places) id None

    pub parts_down : (xs : List Literal) → length xs ≡ size → KeepsParts xs places
        (paste xs to (drop place.start xs) place.len) lowered_places
    parts_down xs long =
        record {
          parts = λ i.
              elim (cases_eq i id) [
                | inl same ↦
                    ap (part_in ys) (ap (place_at lowered_places) same ∙ get_or-set_same places id (Some lowered) None
                    (place_given places id place there))
                    ∙ moved_here xs to place.start place.len to_place within
                    ∙ sym (ap (part_in xs) (ap (place_at places) same ∙ there))
                | inr differs ↦
                    ap (part_in ys) (get_or-set_other places id i (Some lowered) None differs)
                    ∙ elsewhere i differs (place_at places i) refl
              ];
          blocks = map-set (option_map (λ (p : Place). p.block)) places id (Some lowered) ∙ same_block;
        }
      where
        ys : List Literal
        ys = paste xs to (drop place.start xs) place.len

        within : place.start + place.len ≤ length xs
        within = rw long ends_within

        elsewhere : (i : ℕ) → i ≢ id → (o : Option Place) → place_at places i ≡ o → part_in ys o ≡ part_in xs o
        elsewhere i differs None e = refl
        elsewhere i differs (Some p) e =
            elim (cases_lt i id) [
              | inl h ↦ moved_below xs to place.start place.len to_place within p (m.below i p h e)
              | inr h ↦ moved_above xs to place.start place.len to_place within p
                  (let a = above_place i p (omega arith) e in let b = to_place in omega arith)
            ]

-- what is kept

pub parts_same : (xs : List Literal) (places : List (Option Place)) → KeepsParts xs places xs places
parts_same xs places = record { parts = λ i. refl; blocks = refl }

pub parts_then : (xs ys zs : List Literal) (a b c : List (Option Place)) → KeepsParts xs a ys b → KeepsParts ys b zs c
    → KeepsParts xs a zs c
parts_then xs ys zs a b c first next = record {
  parts = λ i. next.parts i ∙ first.parts i;
  blocks = next.blocks
      ∙ first.blocks;
}

-- at the end of the pass
pub spread_front : (size : ℕ) (places : List (Option Place)) (id to : ℕ) → AreMoving size places id to
    → length places ≤ id → AreSpread to places
spread_front size places id to m all =
    record { within = λ i p e. m.below i p (let g = place_given places i p e in omega arith) e; apart = m.spread.apart }

pub parts_front : (xs : List Literal) (places : List (Option Place)) (id to : ℕ) → AreMoving (length xs) places id to
    → length places ≤ id → KeepsParts xs places (take to xs) places
parts_front xs places id to m all = record { parts = λ i. front i (place_at places i) refl; blocks = refl }
  where
    front : (i : ℕ) (o : Option Place) → place_at places i ≡ o → part_in (take to xs) o ≡ part_in xs o
    front i None e = refl
    front i (Some p) e = part_front xs to p (m.below i p (let g = place_given places i p e in omega arith) e) m.fits

-- one more row
pub spread_more : (size more : ℕ) (places : List (Option Place)) (block : Option ℕ) → AreSpread size places
    → AreSpread (size + more) (places ++ Some (record { start = size; len = more; block = block }) ∷ [])
spread_more size more places block spread =
    record {
      within = λ i p e.
          elim (cases_lt i (length places)) [
            | inl h ↦ let b = spread.within i p (front i h p e) in omega arith
            | inr h ↦ rw (last i h p e) (omega arith)
          ];
      apart = λ i j p q h e f.
          elim (cases_lt j (length places)) [
            | inl g ↦ spread.apart i j p q h (front i (omega arith) p e) (front j g q f)
            | inr g ↦
                elim (cases_lt i (length places)) [
                  | inl k ↦ rw (last j g q f) (spread.within i p (front i k p e))
                  | inr k ↦ absurd (let a = past i p e in let b = past j q f in omega arith)
                ]
          ];
    }
  where
    one : Place
    one = record { start = size; len = more; block = block }

    front : (i : ℕ) → i < length places → (p : Place) → place_at (places ++ Some one ∷ []) i ≡ Some p
        → place_at places i ≡ Some p
    front i h p e = sym (get_or_append_left places (Some one ∷ []) None i h) ∙ e

    past : (i : ℕ) (p : Place) → place_at (places ++ Some one ∷ []) i ≡ Some p → i < length places + 1
    past i p e = let g = place_given (places ++ Some one ∷ []) i p e in let l = length-append places (Some one ∷ []) in
        omega arith

    last : (i : ℕ) → length places ≤ i → (p : Place) → place_at (places ++ Some one ∷ []) i ≡ Some p → p ≡ one
    last i h p e =
        let is : i ≡ length places = let g = past i p e in omega arith in
        some_same (place_at (places ++ Some one ∷ []) i) p one e (ap (place_at (places ++ Some one ∷ [])) is
        ∙ get_or_at places (Some one) [] None (length places) refl)

pub spread_reblocked : (size : ℕ) (old new : List (Option Place)) → Reblocks old new → AreSpread size old
    → AreSpread size new
spread_reblocked size old new same spread =
    record {
      within = λ i p e. let o = was i p e in let s = same.same i o.0 p o.1 e in let b = spread.within i o.0 o.1 in
          omega arith;
      apart = λ i j p q h e f.
          let o = was i p e in
          let u = was j q f in
          let s = same.same i o.0 p o.1 e in
          let t = same.same j u.0 q u.1 f in
          let b = spread.apart i j o.0 u.0 h o.1 u.1 in
          omega arith;
    }
  where
    was : (i : ℕ) (p : Place) → place_at new i ≡ Some p → (o : Place) × (place_at old i ≡ Some o)
    was i p e = some_is (place_at old i) (sym (same.live i) ∙ ap is_some e)

pub spread_without : (size : ℕ) (places : List (Option Place)) (id : ℕ) → AreSpread size places
    → AreSpread size (set places id None)
spread_without size places id spread = record {
  within = λ i p e. spread.within i p (was i p e);
  apart =
      λ i j p q h e f. spread.apart i j p q h (was i p e) (was j q f);
}
  where
    was : (i : ℕ) (p : Place) → place_at (set places id None) i ≡ Some p → place_at places i ≡ Some p
    was i p e =
        elim (cases_eq i id) [
          | inl same ↦ absurd (none_some (place_at (set places id None) i) p (gone i same) e)
          | inr differs ↦ sym (get_or-set_other places id i None None differs) ∙ e
        ]
      where
        gone : (i : ℕ) → i ≡ id → place_at (set places id None) i ≡ None
        gone i same =
            elim (cases_lt id (length places)) [
              | inl h ↦ ap (place_at (set places id None)) same ∙ get_or-set_same places id None None h
              | inr h ↦ get_or_past (set places id None) i None (let l = length-set places id None in omega arith)
            ]

-- rows that stand where they stood

pub reblocks_none : (places : List (Option Place)) → Reblocks places places
reblocks_none places =
    record {
      count = refl;
      same = λ i p q e f. let is : q ≡ p = some_same (place_at places i) q p f e in
          (ap (λ (r : Place). r.start) is, ap (λ (r : Place). r.len) is);
      live = λ i. refl;
    }

pub reblocks_set : (places : List (Option Place)) (id : ℕ) (place : Place) (block : Option ℕ)
    → place_at places id ≡ Some place
    → Reblocks places (set places id (Some (record { start = place.start; len = place.len; block = block })))
reblocks_set places id place block there =
    record {
      count = length-set places id (Some one);
      same = λ i p q e f.
          elim (cases_eq i id) [
            | inl same ↦
                let was : p ≡ place = some_same (place_at places id) p place (ap (place_at places) (sym same) ∙ e)
                there in
                let is : q ≡ one = some_same (place_at (set places id (Some one)) id) q one
                (ap (place_at (set places id (Some one))) (sym same) ∙ f) here in (
                  ap (λ (r : Place). r.start) is ∙ sym (ap (λ (r : Place). r.start) was),
                  ap (λ (r : Place). r.len) is
                      ∙ sym (ap (λ (r : Place). r.len) was),
                )
            | inr differs ↦
                let is : q ≡ p = some_same (place_at places i) q p (sym (other i differs) ∙ f) e in
                (ap (λ (r : Place). r.start) is, ap (λ (r : Place). r.len) is)
          ];
      live = λ i.
          elim (cases_eq i id) [
            | inl same ↦ ap (λ n. is_some (place_at (set places id (Some one)) n)) same ∙ ap is_some here
                ∙ sym (ap is_some there) ∙ ap (λ n. is_some (place_at places n)) (sym same)
            | inr differs ↦ ap is_some (other i differs)
          ];
    }
  where
    one : Place
    one = record { start = place.start; len = place.len; block = block }

    here : place_at (set places id (Some one)) id ≡ Some one
    here = get_or-set_same places id (Some one) None (place_given places id place there)

    other : (i : ℕ) → i ≢ id → place_at (set places id (Some one)) i ≡ place_at places i
    other i differs = get_or-set_other places id i (Some one) None differs

-- what a copy within a list leaves
pub moved_is : (xs ys : List Literal) (to start len : ℕ) → ys ≡ paste xs to (drop start xs) ((start + len) - start)
    → ys ≡ paste xs to (drop start xs) len
moved_is xs ys to start len e = let is : (start + len) - start ≡ len = omega arith in e
    ∙ ap (paste xs to (drop start xs)) is
