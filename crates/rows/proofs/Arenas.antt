-- Lemmas on what a contract sees of an arena, for this crate and its callers.
use Rattle.std.proofs.Common.{◌≡◌, ◌≢◌, ℕ, ◌+◌, ◌<◌, ◌≤◌, List, [], ◌∷◌, ◌++◌, length, replicate, get_or, set, Option, Some, None, is_some, IsTrue, refl, sym, ap, ap₂, ◌∙◌, ◌⊎◌, false, inl, inr, arith}
use Rattle.std.proofs.lemmas.List.{get_or-set_same, get_or-set_other, get_or_past, get_or_at, get_or_append_left, length-append, length-set, length-map, map-append, same_lists, get_or_default, set-set}
use Rattle.std.proofs.lemmas.Bool.{cases_eq, cases_lt}
use Rattle.std.specs.Option.{option_map}
use Rattle.prefix.specs.Literal.{Literal}
use Rattle.rows.specs.declared.places.Place.{Place}
use Rattle.rows.specs.Arena.{StoredRow, Arena, row_at, is_live, literals_of, links_of, link_at, new_row, set_three, ThreeLinks, with_row, with_link, with_links, set_link_of, set_links_of, ChangesAt, ChangesLink, ChangesLinks}
use Rattle.rows.specs.Places.{AreSpread, KeepsParts, Reblocks, blocks_of, part, part_in, place_at}
use Rattle.rows.specs.Blocks.{Block, LosesBlock, block_in, links_in}
use Rattle.rows.specs.Stored.{arena_of, stored}
use Rattle.rows.proofs.Parts.{map_at, some_is, part_append, part_end}

-- a live id is one that was given
pub is_live-given : (arena : Arena) (id : ℕ) → IsTrue (is_live arena id) → id < length arena
is_live-given arena id live = grind (arith, get_or_past)

-- a write under one id changes that id alone
pub ChangesAt-set : (arena : Arena) (id : ℕ) (row : Option StoredRow) → IsTrue (is_live arena id)
    → ChangesAt arena (set arena id row) id row
ChangesAt-set arena id row live =
    record {
      there = get_or-set_same arena id row None (is_live-given arena id live);
      elsewhere = λ other differs. get_or-set_other arena id other row None differs;
    }

-- a row with other link fields
module _ (arena : Arena) (id : ℕ) (row : StoredRow) (f : StoredRow → StoredRow) (live : IsTrue (is_live arena id))
    (at : row_at arena id ≡ Some row) where
  abbrev changed : Arena
  changed = set arena id (option_map f (row_at arena id))

  changed_there : row_at changed id ≡ Some (f row)
  changed_there = get_or-set_same arena id (option_map f (row_at arena id)) None (is_live-given arena id live)
      ∙ ap (option_map f) at

  changed_elsewhere : (other : ℕ) → other ≢ id → row_at changed other ≡ row_at arena other
  changed_elsewhere other differs = get_or-set_other arena id other (option_map f (row_at arena id)) None differs

  changed_live : (other : ℕ) → is_live changed other ≡ is_live arena other
  changed_live other =
      elim (cases_eq other id) [
        | inl same ↦ rw same (ap is_some changed_there ∙ sym (ap is_some at))
        | inr differs ↦ ap is_some (changed_elsewhere other differs)
      ]

  changed_link : (k : ℕ) → link_at changed id k ≡ get_or (f row).links k None
  changed_link k = ap (λ r. get_or (links_of r) k None) changed_there

  same_link : (k : ℕ) → get_or (f row).links k None ≡ get_or row.links k None → link_at changed id k ≡ link_at arena id
      k
  same_link k e = changed_link k ∙ e ∙ sym (ap (λ r. get_or (links_of r) k None) at)

-- what a write of a link field changes
pub ChangesLink-with_link : (arena : Arena) (id k : ℕ) (value : Option ℕ) (row : StoredRow) → IsTrue (is_live arena id)
    → row_at arena id ≡ Some row → k < length row.links → ChangesLink arena (with_link arena id k value) id k value
ChangesLink-with_link arena id k value row live at within =
    record {
      link = changed_link arena id row (set_link_of k value) live at k ∙ get_or-set_same row.links k value None within;
      other_links = λ m differs. same_link arena id row (set_link_of k value) live at m
          (get_or-set_other row.links k m value None differs);
      same_literals = ap literals_of (changed_there arena id row (set_link_of k value) live at)
          ∙ sym (ap literals_of at);
      elsewhere = changed_elsewhere arena id row (set_link_of k value) live at;
      same_live = changed_live arena id row (set_link_of k value) live at;
    }

-- what a write of three link fields changes
pub ChangesLinks-with_links : (arena : Arena) (id base : ℕ) (values : ThreeLinks) (row : StoredRow)
    → IsTrue (is_live arena id) → row_at arena id ≡ Some row → base + 2 < length row.links → ChangesLinks arena
    (with_links arena id base values) id base values
ChangesLinks-with_links arena id base values row live at within =
    record {
      first = changed_link arena id row (set_links_of base values) live at base ∙ get_or-set_other
          (set (set row.links base values.0) (base + 1) values.1) (base + 2) base values.2 None (omega arith)
          ∙ get_or-set_other (set row.links base values.0) (base + 1) base values.1 None (omega arith)
          ∙ get_or-set_same row.links base values.0 None (omega arith);
      second = changed_link arena id row (set_links_of base values) live at (base + 1) ∙ get_or-set_other
          (set (set row.links base values.0) (base + 1) values.1) (base + 2) (base + 1) values.2 None (omega arith)
          ∙ get_or-set_same (set row.links base values.0) (base + 1) values.1 None
          (let l = length-set row.links base values.0 in omega arith);
      third = changed_link arena id row (set_links_of base values) live at (base + 2)
          ∙ get_or-set_same (set (set row.links base values.0) (base + 1) values.1) (base + 2) values.2 None
          (let l = length-set row.links base values.0 in let m = length-set (set row.links base values.0)
          (base + 1) values.1 in omega arith);
      other_links =
          λ m not_base not_one not_two.
          same_link arena id row (set_links_of base values) live at m
          (get_or-set_other (set (set row.links base values.0) (base + 1) values.1) (base + 2) m values.2 None not_two
          ∙ get_or-set_other (set row.links base values.0) (base + 1) m values.1 None not_one
          ∙ get_or-set_other row.links base m values.0 None not_base);
      same_literals = ap literals_of (changed_there arena id row (set_links_of base values) live at)
          ∙ sym (ap literals_of at);
      elsewhere = changed_elsewhere arena id row (set_links_of base values) live at;
      same_live = changed_live arena id row (set_links_of base values) live at;
    }

-- the row of an id

pub row_at_place : (literals : List Literal) (blocks : List Block) (places : List (Option Place)) (i : ℕ)
    → row_at (arena_of literals blocks places) i ≡ option_map (stored literals blocks) (place_at places i)
row_at_place literals blocks places i = map_at (stored literals blocks) places i

is_some_map : {A B : Type 0} (f : A → B) (o : Option A) → is_some (option_map f o) ≡ is_some o
is_some_map f None = refl
is_some_map f (Some x) = refl

pub live_place : (literals : List Literal) (blocks : List Block) (places : List (Option Place)) (i : ℕ)
    → is_live (arena_of literals blocks places) i ≡ is_some (place_at places i)
live_place literals blocks places i = ap is_some (row_at_place literals blocks places i)
    ∙ is_some_map (stored literals blocks) (place_at places i)

pub block_place : (places : List (Option Place)) (i : ℕ) (p : Place) → place_at places i ≡ Some p
    → block_in (blocks_of places) i ≡ Some p.block
block_place places i p e = map_at (λ (q : Place). q.block) places i ∙ ap (option_map (λ (q : Place). q.block)) e

-- arenas with the same rows

pub same_arena : (old new : Arena) → length new ≡ length old → ((i : ℕ) → row_at new i ≡ row_at old i) → new ≡ old
same_arena old new long rows = same_lists new old long (λ k d h. at k d h)
  where
    at : (k : ℕ) (d : Option StoredRow) → k < length new → get_or new k d ≡ get_or old k d
    at k d h = get_or_at_default new k d None h ∙ rows k ∙ get_or_at_default old k None d (rw (← long) h)
      where
        get_or_at_default : (xs : Arena) (k : ℕ) (d e : Option StoredRow) → k < length xs
            → get_or xs k d ≡ get_or xs k e
        get_or_at_default xs k d e h = get_or_default xs k d e h

-- rows whose parts are kept, with the same blocks
pub parts_arena : (old new : List Literal) (blocks : List Block) (places new_places : List (Option Place))
    → KeepsParts old places new new_places → arena_of new blocks new_places ≡ arena_of old blocks places
parts_arena old new blocks places new_places kept =
    same_arena (arena_of old blocks places) (arena_of new blocks new_places)
    (length-map new_places (option_map (stored new blocks)) ∙ same_length
    ∙ sym (length-map places (option_map (stored old blocks))))
    (λ i. row_at_place new blocks new_places i ∙ same_row (place_at places i) (place_at new_places i) (kept.parts i)
    (block i) ∙ sym (row_at_place old blocks places i))
  where
    same_length : length new_places ≡ length places
    same_length =
        sym (length-map new_places (option_map (λ (p : Place). p.block)))
        ∙ ap length kept.blocks
        ∙ length-map places (option_map (λ (p : Place). p.block))

    block : (i : ℕ) → option_map (λ (p : Place). p.block) (place_at new_places i) ≡ option_map (λ (p : Place). p.block)
        (place_at places i)
    block i = sym (map_at (λ (p : Place). p.block) new_places i) ∙ ap (λ bs. block_in bs i) kept.blocks
        ∙ map_at (λ (p : Place). p.block) places i

    same_row : (o n : Option Place) → part_in new n ≡ part_in old o → option_map (λ (p : Place). p.block) n ≡ option_map
        (λ (p : Place). p.block) o → option_map (stored new blocks) n ≡ option_map (stored old blocks) o
    same_row None None parts b = refl
    same_row None (Some q) parts b = absurd (cc)
    same_row (Some p) None parts b = absurd (cc)
    same_row (Some p) (Some q) parts b =
        let f : Some q.block ≡ Some p.block = b in
        let g : q.block ≡ p.block = cc in
        ap₂ (λ l k. Some (record { literals = l; links = links_in blocks k })) parts g

-- one more row
pub arena_more : (literals row : List Literal) (blocks : List Block) (places : List (Option Place))
    → AreSpread (length literals) places → arena_of (literals ++ row) blocks
    (places ++ Some (record { start = length literals; len = length row; block = None }) ∷ []) ≡ with_row
    (arena_of literals blocks places) row
arena_more literals row blocks places spread =
    map-append (option_map (stored (literals ++ row) blocks)) places (Some one ∷ [])
    ∙ ap₂ (λ a (r : List Literal). a ++ Some (record { literals = r; links = replicate 8 None }) ∷ []) front
    (part_end literals row None)
  where
    one : Place
    one = record { start = length literals; len = length row; block = None }

    front : arena_of (literals ++ row) blocks places ≡ arena_of literals blocks places
    front = parts_arena literals (literals ++ row) blocks places places
        (record { parts = λ i. same i (place_at places i) refl; blocks = refl })
      where
        same : (i : ℕ) (o : Option Place) → place_at places i ≡ o → part_in (literals ++ row) o ≡ part_in literals o
        same i None e = refl
        same i (Some p) e = part_append literals row p (spread.within i p e)

-- a row of an arena by its place
pub stored_place : (literals : List Literal) (blocks : List Block) (places : List (Option Place)) (i : ℕ) (p : Place)
    → place_at places i ≡ Some p → row_at (arena_of literals blocks places) i ≡ Some (stored literals blocks p)
stored_place literals blocks places i p e = row_at_place literals blocks places i
    ∙ ap (option_map (stored literals blocks)) e

-- rows that stand where they stood, with the same links
same_stored : (literals : List Literal) (blocks new_blocks : List Block) (p q : Place) → q.start ≡ p.start
    → q.len ≡ p.len → links_in new_blocks q.block ≡ links_in blocks p.block → stored literals new_blocks q ≡ stored
    literals blocks p
same_stored literals blocks new_blocks p q s l k =
    λ i. record { literals = part literals (record { start = s i; len = l i; block = q.block }); links = k i }

-- a row with other link fields
abbrev pub relinked : (List (Option ℕ) → List (Option ℕ)) → StoredRow → StoredRow
relinked f row = record { literals = row.literals; links = f row.links }

-- the row whose first six link fields are written, three and three

six_of : (o : Option StoredRow) (one two : ThreeLinks) → option_map (relinked (λ ls. set_three 3 two
    (set_three 0 one ls))) o ≡ option_map (set_links_of 3 two) (option_map (set_links_of 0 one) o)
six_of None one two = refl
six_of (Some row) one two = refl

pub linked_twice : (arena : Arena) (id : ℕ) (one two : ThreeLinks) → IsTrue (is_live arena id)
    → set arena id (option_map (relinked (λ ls. set_three 3 two (set_three 0 one ls))) (row_at arena id))
    ≡ with_links (with_links arena id 0 one) id 3 two
linked_twice arena id one two live =
    let was = option_map (set_links_of 0 one) (row_at arena id) in
    ap (set arena id) (six_of (row_at arena id) one two)
    ∙ sym (set-set arena id was (option_map (set_links_of 3 two) was))
    ∙ ap (λ o. set (set arena id was) id (option_map (set_links_of 3 two) o))
    (sym (get_or-set_same arena id was None (is_live-given arena id live)))

pub ChangesLinks-again : (arena : Arena) (id : ℕ) (one two : ThreeLinks) (row : StoredRow)
    → IsTrue (is_live arena id) → row_at arena id ≡ Some row → length row.links ≡ 8
    → ChangesLinks (with_links arena id 0 one) (with_links (with_links arena id 0 one) id 3 two) id 3 two
ChangesLinks-again arena id one two row live at eight =
    let at_now = changed_there arena id row (set_links_of 0 one) live at in
    let a = length-set row.links 0 one.0 in
    let b = length-set (set row.links 0 one.0) 1 one.1 in
    let c = length-set (set (set row.links 0 one.0) 1 one.1) 2 one.2 in
    ChangesLinks-with_links (with_links arena id 0 one) id 3 two (set_links_of 0 one row) (ap is_some at_now) at_now
    (omega arith)

-- a row whose link fields are written
pub arena_linked : (literals : List Literal) (blocks middle new : List Block) (places new_places : List (Option Place))
    (id b : ℕ) (f : List (Option ℕ) → List (Option ℕ)) → IsTrue (is_some (place_at places id))
    → Reblocks places new_places
    → block_in (blocks_of new_places) id ≡ Some (Some b)
    → ((i : ℕ) (b c : Option ℕ) → block_in (blocks_of places) i ≡ Some b → block_in (blocks_of new_places) i ≡ Some c
    → links_in middle c ≡ links_in blocks b)
    → links_in new (Some b) ≡ f (links_in middle (Some b))
    → ((i : ℕ) (o : Option ℕ) → i ≢ id → block_in (blocks_of new_places) i ≡ Some o → links_in new o ≡ links_in middle
    o)
    → arena_of literals new new_places ≡ set (arena_of literals blocks places) id
    (option_map (relinked f) (row_at (arena_of literals blocks places) id))
arena_linked literals blocks middle new places new_places id b f live same there kept here others =
    same_arena
    (set (arena_of literals blocks places) id
    (option_map (relinked f) (row_at (arena_of literals blocks places) id))) (arena_of literals new new_places)
    (length-map new_places (option_map (stored literals new)) ∙ same.count
    ∙ sym (length-map places (option_map (stored literals blocks)))
    ∙ sym (length-set (arena_of literals blocks places) id
    (option_map (relinked f) (row_at (arena_of literals blocks places) id))))
    (λ i. row i)
  where
    arena : Arena
    arena = arena_of literals blocks places

    was_live : IsTrue (is_live arena id)
    was_live = live_place literals blocks places id ∙ live

    row : (i : ℕ) → row_at (arena_of literals new new_places) i ≡ row_at
        (set arena id (option_map (relinked f) (row_at arena id))) i
    row i =
        elim (cases_eq i id) [
          | inl is ↦
              rw is
              (let o = some_is (place_at places id) live in
              let n = some_is (place_at new_places id) (same.live id ∙ live) in
              let s = same.same id o.0 n.0 o.1 n.1 in
              let nb : n.0.block ≡ Some b =
              (let g : Some n.0.block ≡ Some (Some b) = sym (block_place new_places id n.0 n.1) ∙ there in cc) in
              stored_place literals new new_places id n.0 n.1
              ∙ ap Some (λ j. record {
                literals = part literals (record { start = s.0 j; len = s.1 j; block = n.0.block });
                links = (ap (links_in new) nb ∙ here
                    ∙ ap f (kept id o.0.block (Some b) (block_place places id o.0 o.1) there)) j;
              })
              ∙ sym (get_or-set_same arena id (option_map (relinked f) (row_at arena id)) None
              (is_live-given arena id was_live)
              ∙ ap (option_map (relinked f)) (stored_place literals blocks places id o.0 o.1)))
          | inr differs ↦ other i differs (place_at places i) refl
              ∙ sym (get_or-set_other arena id i (option_map (relinked f) (row_at arena id)) None differs)
        ]
      where
        other : (i : ℕ) → i ≢ id → (o : Option Place) → place_at places i ≡ o
            → row_at (arena_of literals new new_places) i ≡ row_at arena i
        other i differs None e = row_at_place literals new new_places i ∙ ap (option_map (stored literals new))
            (gone (place_at new_places i) (same.live i ∙ ap is_some e))
            ∙ sym (row_at_place literals blocks places i ∙ ap (option_map (stored literals blocks)) e)
          where
            gone : (n : Option Place) → is_some n ≡ false → n ≡ None
            gone None h = refl
            gone (Some q) h = absurd (cc)
        other i differs (Some p) e =
            let n = some_is (place_at new_places i) (same.live i ∙ ap is_some e) in
            let s = same.same i p n.0 e n.1 in
            let l = others i n.0.block differs (block_place new_places i n.0 n.1) ∙ kept i p.block n.0.block
            (block_place places i p e) (block_place new_places i n.0 n.1) in
            stored_place literals new new_places i n.0 n.1
            ∙ ap Some (same_stored literals blocks new p n.0 s.0 s.1 l)
            ∙ sym (stored_place literals blocks places i p e)

-- a row that goes
pub arena_less : (literals : List Literal) (blocks new : List Block) (places new_places : List (Option Place)) (id : ℕ)
    → Reblocks (set places id None) new_places → LosesBlock (blocks_of places) blocks (blocks_of new_places) new id
    → arena_of literals new new_places ≡ set (arena_of literals blocks places) id None
arena_less literals blocks new places new_places id same loses =
    same_arena (set arena id None) (arena_of literals new new_places)
    (length-map new_places (option_map (stored literals new)) ∙ same.count ∙ length-set places id None
    ∙ sym (length-map places (option_map (stored literals blocks))) ∙ sym (length-set arena id None))
    (λ i. row i)
  where
    arena : Arena
    arena = arena_of literals blocks places

    none_from : (n : Option Place) → option_map (λ (p : Place). p.block) n ≡ None → n ≡ None
    none_from None h = refl
    none_from (Some q) h = absurd (cc)

    row : (i : ℕ) → row_at (arena_of literals new new_places) i ≡ row_at (set arena id None) i
    row i =
        elim (cases_eq i id) [
          | inl is ↦
              rw is
              (row_at_place literals new new_places id
              ∙ ap (option_map (stored literals new))
              (none_from (place_at new_places id) (sym (map_at (λ (p : Place). p.block) new_places id)
              ∙ loses.gone))
              ∙ sym (gone_row (cases_lt id (length arena))))
          | inr differs ↦ other i differs (place_at places i) refl ∙ sym (get_or-set_other arena id i None None differs)
        ]
      where
        gone_row : (id < length arena) ⊎ (length arena ≤ id) → row_at (set arena id None) id ≡ None
        gone_row (inl h) = get_or-set_same arena id None None h
        gone_row (inr h) = get_or_past (set arena id None) id None (let l = length-set arena id None in omega arith)

        other : (i : ℕ) → i ≢ id → (o : Option Place) → place_at places i ≡ o
            → row_at (arena_of literals new new_places) i ≡ row_at arena i
        other i differs None e =
            row_at_place literals new new_places i
            ∙ ap (option_map (stored literals new))
            (gone (place_at new_places i)
            (same.live i ∙ ap is_some (get_or-set_other places id i None None differs ∙ e)))
            ∙ sym (row_at_place literals blocks places i ∙ ap (option_map (stored literals blocks)) e)
          where
            gone : (n : Option Place) → is_some n ≡ false → n ≡ None
            gone None h = refl
            gone (Some q) h = absurd (cc)
        other i differs (Some p) e =
            let f = get_or-set_other places id i None None differs ∙ e in
            let n = some_is (place_at new_places i) (same.live i ∙ ap is_some f) in
            let s = same.same i p n.0 f n.1 in
            let l = loses.links i p.block n.0.block differs (block_place places i p e)
            (block_place new_places i n.0 n.1) in
            stored_place literals new new_places i n.0 n.1
            ∙ ap Some (same_stored literals blocks new p n.0 s.0 s.1 l)
            ∙ sym (stored_place literals blocks places i p e)

pub arena_put : (lits row new_lits : List Literal) (blocks : List Block) (places new_places : List (Option Place))
    → new_lits ≡ lits ++ row → new_places ≡ places ++ Some
    (record { start = length lits; len = length row; block = None }) ∷ [] → AreSpread (length lits) places
    → arena_of new_lits blocks new_places ≡ with_row (arena_of lits blocks places) row
arena_put lits row new_lits blocks places new_places e1 e2 spread =
    ap₂ (λ (ls : List Literal) (ps : List (Option Place)). arena_of ls blocks ps) e1 e2
    ∙ arena_more lits row blocks places spread

-- one more row changes the id that comes next alone
pub ChangesAt-more : (arena : Arena) (row : List Literal) (id : ℕ) → id ≡ length arena
    → ChangesAt arena (with_row arena row) id (Some (new_row row))
ChangesAt-more arena row id next =
    record {
      there = ap (row_at (with_row arena row)) next ∙ get_or_at arena (Some (new_row row)) [] None (length arena) refl;
      elsewhere =
          λ other differs.
          elim (cases_lt other (length arena)) [
            | inl h ↦ get_or_append_left arena (Some (new_row row) ∷ []) None other h
            | inr h ↦
                get_or_past (with_row arena row) other None (let l = length-append arena (Some (new_row row) ∷ []) in
                omega arith)
                ∙ sym (get_or_past arena other None h)
          ];
    }
