-- Ids of one gap that have no slot.
use Rattle.std.proofs.Common.{◌≡◌, ◌≤◌, ◌<◌, ◌-◌, ◌+◌, ◌++◌, ◌∷◌, ℕ, zero, suc, List, [], Option, None, is_some, Some, true, false, take, drop, get_or, replicate, set, length, refl, sym, ap, subst, ◌⊎◌, inl, inr, ⊎_elim, true≢false, ◌∙◌, arith}
use Rattle.std.specs.Option.{option_map}
use Rattle.std.proofs.lemmas.Bool.{cases_lt}
use Rattle.std.proofs.lemmas.List.{append-nil, append_assoc, drop_at, drop-drop, get_or_append_left, get_or-append_right, get_or_default, get_or-drop, get_or-replicate, length-append, length-drop, length-map, length-replicate, length-set, length-take-le, replicate-append-replicate, set-append_left, set-append_right, take-append-drop, take-append-le, take-replicate, take-take, take_at}
use Rattle.std.proofs.Math.Seq.{take-append-add}
use borrow.Rule.Slice.PartMut.{mid_of, put_mid}
use Rattle.prefix.specs.Literal.{Literal}
use Rattle.rows.specs.declared.places.Place.{Place}
use Rattle.rows.specs.Places.{AreDead, AreMoving, KeepsParts, Swaps, around_gone, place_at}
use Rattle.rows.proofs.Parts.{map_at, none_some, place_given, some_is}

abbrev Places : Type 0
Places = List (Option Place)

-- so many ids without a slot
abbrev none_of : ℕ → Places
none_of n = replicate n None

none_length : (n : ℕ) → length (none_of n) ≡ n
none_length n = length-replicate n None

-- where the slots in front of the gap and those behind it are given
module _ (front back : Places) (split gone : ℕ) (at : length front ≡ split) where
  pub around_at : around_gone split gone (front ++ back) ≡ front ++ (none_of gone ++ back)
  around_at =
      ap (λ (xs : Places). xs ++ (none_of gone ++ drop split (front ++ back))) (take_at front back split at)
      ∙ ap (λ (xs : Places). front ++ (none_of gone ++ xs)) (drop_at front back split at)

  front_read : (id : ℕ) → id < split
      → place_at (around_gone split gone (front ++ back)) id ≡ place_at (front ++ back) id
  front_read id low =
      let short : id < length front = omega arith in
      ap (λ (xs : Places). place_at xs id) around_at
      ∙ (get_or_append_left front (none_of gone ++ back) None id short
      ∙ sym (get_or_append_left front back None id short))

  gap_read : (id : ℕ) → split ≤ id → id < split + gone → place_at (around_gone split gone (front ++ back)) id ≡ None
  gap_read id low high =
      let within : id - split < gone = omega arith in
      let l = none_length gone in
      let short : id - split < length (none_of gone) = omega arith in
      ap (λ (xs : Places). place_at xs id) around_at
      ∙ (get_or-append_right front (none_of gone ++ back) split id None at low
      ∙ (get_or_append_left (none_of gone) back None (id - split) short
      ∙ get_or-replicate gone (id - split) None None within))

  back_read : (id : ℕ) → split + gone ≤ id
      → place_at (around_gone split gone (front ++ back)) id ≡ place_at (front ++ back) (id - gone)
  back_read id high =
      let past : split ≤ id = omega arith in
      let more : gone ≤ id - split = omega arith in
      let past_too : split ≤ id - gone = omega arith in
      let same : (id - split) - gone ≡ (id - gone) - split = omega arith in
      ap (λ (xs : Places). place_at xs id) around_at
      ∙ (get_or-append_right front (none_of gone ++ back) split id None at past
      ∙ (get_or-append_right (none_of gone) back gone (id - split) None (none_length gone) more
      ∙ (ap (place_at back) same ∙ sym (get_or-append_right front back split (id - gone) None at past_too))))

  front_set : (id : ℕ) (slot : Option Place) → id < split
      → around_gone split gone (set (front ++ back) id slot) ≡ set (around_gone split gone (front ++ back)) id slot
  front_set id slot low =
      let short : id < length front = omega arith in
      let kept : length (set front id slot) ≡ split = length-set front id slot ∙ at in
      ap (around_gone split gone) (set-append_left front back id slot short)
      ∙ (ap (λ (xs : Places). xs ++ (none_of gone ++ drop split (set front id slot ++ back)))
      (take_at (set front id slot) back split kept)
      ∙ (ap (λ (xs : Places). set front id slot ++ (none_of gone ++ xs)) (drop_at (set front id slot) back split kept)
      ∙ (sym (set-append_left front (none_of gone ++ back) id slot short)
      ∙ ap (λ (xs : Places). set xs id slot) (sym around_at))))

  back_length : length (around_gone split gone (front ++ back)) ≡ gone + length (front ++ back)
  back_length =
      let a = length-append front (none_of gone ++ back) in
      let b = length-append (none_of gone) back in
      let c = length-append front back in
      let n = none_length gone in
      ap (λ (xs : Places). length xs) around_at ∙ omega arith

back_set : (front back : Places) (split gone : ℕ) → length front ≡ split → (id : ℕ) (slot : Option Place)
    → split + gone ≤ id
    → around_gone split gone (set (front ++ back) (id - gone) slot)
    ≡ set (around_gone split gone (front ++ back)) id slot
back_set front back split gone at id slot high =
    let past : split ≤ id = omega arith in
    let more : gone ≤ id - split = omega arith in
    let past_too : split ≤ id - gone = omega arith in
    let same : (id - gone) - split ≡ (id - split) - gone = omega arith in
    ap (around_gone split gone) (set-append_right front back split (id - gone) slot at past_too)
    ∙ (around_at front (set back ((id - gone) - split) slot) split gone at
    ∙ (ap (λ (k : ℕ). front ++ (none_of gone ++ set back k slot)) same
    ∙ (ap (λ (xs : Places). front ++ xs)
    (sym (set-append_right (none_of gone) back gone (id - split) slot (none_length gone) more))
    ∙ (sym (set-append_right front (none_of gone ++ back) split id slot at past)
    ∙ ap (λ (xs : Places). set xs id slot) (sym (around_at front back split gone at))))))

back_push : (front back : Places) (split gone : ℕ) → length front ≡ split → (slot : Option Place)
    → around_gone split gone ((front ++ back) ++ slot ∷ []) ≡ around_gone split gone (front ++ back) ++ slot ∷ []
back_push front back split gone at slot =
    ap (around_gone split gone) (append_assoc front back (slot ∷ []))
    ∙ (around_at front (back ++ slot ∷ []) split gone at
    ∙ (ap (λ (xs : Places). front ++ xs) (sym (append_assoc (none_of gone) back (slot ∷ [])))
    ∙ (sym (append_assoc front (none_of gone ++ back) (slot ∷ []))
    ∙ ap (λ (xs : Places). xs ++ slot ∷ []) (sym (around_at front back split gone at)))))

back_taken : (front back : Places) (split gone : ℕ) → length front ≡ split → (count : ℕ) → split + gone ≤ count
    → around_gone split gone (take (count - gone) (front ++ back)) ≡ take count (around_gone split gone (front ++ back))
back_taken front back split gone at count more =
    let k : ℕ = (count - gone) - split in
    let n : length (none_of gone) ≡ gone = none_length gone in
    let few : count - gone ≡ length front + k = omega arith in
    let all : count ≡ length front + (length (none_of gone) + k) = omega arith in
    ap (around_gone split gone) (ap (λ (m : ℕ). take m (front ++ back)) few ∙ take-append-add front back k)
    ∙ (around_at front (take k back) split gone at
    ∙ (ap (λ (xs : Places). front ++ xs) (sym (take-append-add (none_of gone) back k))
    ∙ (sym (take-append-add front (none_of gone ++ back) (length (none_of gone) + k))
    ∙ (ap (λ (m : ℕ). take m (front ++ (none_of gone ++ back))) (sym all)
    ∙ ap (take count) (sym (around_at front back split gone at))))))

-- for all slots

module _ (split gone : ℕ) (slots : Places) (within : split ≤ length slots) where
  front_length : length (take split slots) ≡ split
  front_length = length-take-le split slots within

  all_slots : take split slots ++ drop split slots ≡ slots
  all_slots = take-append-drop split slots

  pub around_length : length (around_gone split gone slots) ≡ gone + length slots
  around_length =
      subst (λ xs. length (around_gone split gone xs) ≡ gone + length xs) all_slots
      (back_length (take split slots) (drop split slots) split gone front_length)

  pub front_kept : (id : ℕ) → id < split → place_at (around_gone split gone slots) id ≡ place_at slots id
  front_kept id low =
      subst (λ xs. place_at (around_gone split gone xs) id ≡ place_at xs id) all_slots
      (front_read (take split slots) (drop split slots) split gone front_length id low)

  pub gap_none : (id : ℕ) → split ≤ id → id < split + gone → place_at (around_gone split gone slots) id ≡ None
  gap_none id low high =
      subst (λ xs. place_at (around_gone split gone xs) id ≡ None) all_slots
      (gap_read (take split slots) (drop split slots) split gone front_length id low high)

  pub back_kept : (id : ℕ) → split + gone ≤ id → place_at (around_gone split gone slots) id ≡ place_at slots (id - gone)
  back_kept id high =
      subst (λ xs. place_at (around_gone split gone xs) id ≡ place_at xs (id - gone)) all_slots
      (back_read (take split slots) (drop split slots) split gone front_length id high)

  pub pushed : (slot : Option Place)
      → around_gone split gone (slots ++ slot ∷ []) ≡ around_gone split gone slots ++ slot ∷ []
  pushed slot =
      subst (λ xs. around_gone split gone (xs ++ slot ∷ []) ≡ around_gone split gone xs ++ slot ∷ []) all_slots
      (back_push (take split slots) (drop split slots) split gone front_length slot)

  -- some first ids
  pub taken_front : (count : ℕ) → count ≤ split → take count slots ≡ take count (around_gone split gone slots)
  taken_front count few =
      sym (take-append-le count (take split slots) (none_of gone ++ drop split slots)
      (let l = front_length in omega arith)
      ∙ take-take count split slots few)

  pub taken_gap : (count : ℕ) → split ≤ count → count ≤ split + gone
      → around_gone split (count - split) (take split slots) ≡ take count (around_gone split gone slots)
  taken_gap count some few =
      let k : ℕ = count - split in
      let l : length (take split slots) ≡ split = front_length in
      let n : length (none_of gone) ≡ gone = none_length gone in
      let all : length (take split slots) + k ≡ count = omega arith in
      let low : k ≤ gone = omega arith in
      let short : k ≤ length (none_of gone) = omega arith in
      ap (around_gone split k) (sym (append-nil (take split slots)))
      ∙ (around_at (take split slots) [] split k l
      ∙ (ap (λ (xs : Places). take split slots ++ xs)
      (append-nil (none_of k)
      ∙ sym (take-append-le k (none_of gone) (drop split slots) short ∙ take-replicate k gone None low))
      ∙ (sym (take-append-add (take split slots) (none_of gone ++ drop split slots) k)
      ∙ ap (λ (m : ℕ). take m (around_gone split gone slots)) all)))

  pub taken_back : (count : ℕ) → split + gone ≤ count
      → around_gone split gone (take (count - gone) slots) ≡ take count (around_gone split gone slots)
  taken_back count more =
      subst (λ xs. around_gone split gone (take (count - gone) xs) ≡ take count (around_gone split gone xs)) all_slots
      (back_taken (take split slots) (drop split slots) split gone front_length count more)

-- how many ids in front of one have no slot
abbrev pub Before : ℕ → ℕ → ℕ → ℕ → Type 0
Before split gone id before = (id < split → before ≡ 0) × (split ≤ id → before ≡ gone)

module _ (split gone id before : ℕ) (slots : Places) (within : split ≤ length slots) (is : Before split gone id before)
  where
    -- another slot of an id out of the gap
    out_set : (id < split) ⊎ (split + gone ≤ id) → (slot : Option Place)
        → around_gone split gone (set slots (id - before) slot) ≡ set (around_gone split gone slots) id slot
    out_set out slot =
        subst (λ xs. around_gone split gone (set xs (id - before) slot) ≡ set (around_gone split gone xs) id slot)
        (take-append-drop split slots)
        (⊎_elim
        (λ (low : id < split).
        let none : id - before ≡ id = let e = is.0 low in omega arith in
        ap (λ (k : ℕ). around_gone split gone (set (take split slots ++ drop split slots) k slot)) none
        ∙ front_set (take split slots) (drop split slots) split gone (length-take-le split slots within) id slot low)
        (λ (high : split + gone ≤ id).
        let all : id - before ≡ id - gone = let e = is.1 (omega arith) in omega arith in
        ap (λ (k : ℕ). around_gone split gone (set (take split slots ++ drop split slots) k slot)) all
        ∙ back_set (take split slots) (drop split slots) split gone (length-take-le split slots within) id slot high)
        out)

    out_kept : (id < split) ⊎ (split + gone ≤ id)
        → place_at (around_gone split gone slots) id ≡ place_at slots (id - before)
    out_kept =
        ⊎_elim
        (λ (low : id < split).
        let none : id ≡ id - before = let e = is.0 low in omega arith in
        front_kept split gone slots within id low ∙ ap (place_at slots) none)
        (λ (high : split + gone ≤ id).
        let all : id - gone ≡ id - before = let e = is.1 (omega arith) in omega arith in
        back_kept split gone slots within id high ∙ ap (place_at slots) all)

    out_before : (id < split) ⊎ (split + gone ≤ id) → before ≤ id
    out_before =
        ⊎_elim (λ (low : id < split). let e = is.0 low in omega arith)
        (λ (high : split + gone ≤ id). let e = is.1 (omega arith) in omega arith)

    -- the id of a live row is out of the gap
    module _ (live : is_some (place_at (around_gone split gone slots) id) ≡ true) where
      pub live_out : (id < split) ⊎ (split + gone ≤ id)
      live_out =
          elim (cases_lt id split) [
            | inl low ↦ inl low
            | inr past ↦
                elim (cases_lt id (split + gone)) [
                  | inl high ↦
                      absurd (true≢false (sym live ∙ ap is_some (gap_none split gone slots within id past high)))
                  | inr high ↦ inr high
                ]
          ]

      pub live_before : before ≤ id
      live_before = out_before live_out

      pub live_kept : place_at (around_gone split gone slots) id ≡ place_at slots (id - before)
      live_kept = out_kept live_out

      pub live_given : id - before < length slots
      live_given =
          let p = some_is (place_at (around_gone split gone slots) id) live in
          place_given slots (id - before) p.0 (sym live_kept ∙ p.1)

      pub live_set : (slot : Option Place)
          → around_gone split gone (set slots (id - before) slot) ≡ set (around_gone split gone slots) id slot
      live_set = out_set live_out

-- a gap that takes in what stands behind it
pub widened : (front back : Places) (split gone dead : ℕ) → length front ≡ split
    → around_gone split (gone + dead) (front ++ back) ≡ around_gone split gone (front ++ (none_of dead ++ back))
widened front back split gone dead at =
    around_at front back split (gone + dead) at
    ∙ (ap (λ (xs : Places). front ++ (xs ++ back)) (sym (replicate-append-replicate gone dead None))
    ∙ (ap (λ (xs : Places). front ++ xs) (append_assoc (none_of gone) (none_of dead) back)
    ∙ sym (around_at front (none_of dead ++ back) split gone at)))

-- a gap that begins elsewhere among ids of which none is live
pub shifted : (front back : Places) (start split gone dead : ℕ) → length front ≡ start → start + dead ≡ split
    → around_gone start gone (front ++ (none_of dead ++ back))
    ≡ around_gone split gone (front ++ (none_of dead ++ back))
shifted front back start split gone dead at behind =
    let l = length-append front (none_of dead) in
    let n = none_length dead in
    let far : length (front ++ none_of dead) ≡ split = omega arith in
    let sum : gone + dead ≡ dead + gone = omega arith in
    around_at front (none_of dead ++ back) start gone at
    ∙ (ap (λ (xs : Places). front ++ xs)
    (sym (append_assoc (none_of gone) (none_of dead) back)
    ∙ (ap (λ (xs : Places). xs ++ back)
    (replicate-append-replicate gone dead None
    ∙ (ap none_of sum ∙ sym (replicate-append-replicate dead gone None)))
    ∙ append_assoc (none_of dead) (none_of gone) back))
    ∙ (sym (append_assoc front (none_of dead) (none_of gone ++ back))
    ∙ (sym (around_at (front ++ none_of dead) back split gone far)
    ∙ ap (around_gone split gone) (append_assoc front (none_of dead) back))))

-- a gap that changes places with as many ids behind it, of which none is live
pub moved : (front between back : Places) (start split gone : ℕ) → length front ≡ start
    → start + (gone + length between) ≡ split
    → around_gone split gone (front ++ (none_of gone ++ (between ++ back)))
    ≡ around_gone start gone (front ++ (between ++ (none_of gone ++ back)))
moved front between back start split gone at behind =
    let a = length-append front (none_of gone ++ between) in
    let b = length-append (none_of gone) between in
    let n = none_length gone in
    let far : length (front ++ (none_of gone ++ between)) ≡ split = omega arith in
    ap (around_gone split gone)
    (ap (λ (xs : Places). front ++ xs) (sym (append_assoc (none_of gone) between back))
    ∙ sym (append_assoc front (none_of gone ++ between) back))
    ∙ (around_at (front ++ (none_of gone ++ between)) back split gone far
    ∙ (append_assoc front (none_of gone ++ between) (none_of gone ++ back)
    ∙ (ap (λ (xs : Places). front ++ xs) (append_assoc (none_of gone) between (none_of gone ++ back))
    ∙ sym (around_at front (between ++ (none_of gone ++ back)) start gone at))))

-- slots of which none is live
dead_front : (n : ℕ) (xs : Places) → n ≤ length xs → ((i : ℕ) → i < n → place_at xs i ≡ None) → take n xs ≡ none_of n
dead_front zero xs within none = refl
dead_front (suc n) [] within none = absurd (omega arith)
dead_front (suc n) (x ∷ xs) within none =
    ap (λ (y : Option Place). y ∷ take n xs) (none 0 (omega arith))
    ∙ ap (λ (ys : Places). None ∷ ys) (dead_front n xs (omega arith) (λ i h. none (suc i) (omega arith)))

pub dead_none : (slots : Places) (n : ℕ) → n ≤ length slots → AreDead slots n n
dead_none slots n within = record { in_order = omega arith; given = within; none = λ id h l. absurd (omega arith) }

pub dead_more : (slots : Places) (start at : ℕ) (slot : Option Place) → AreDead slots start at → at < length slots
    → slot ≡ get_or slots at slot → is_some slot ≡ false → AreDead slots start (at + 1)
dead_more slots start at slot dead within read off =
    record {
      in_order = let o = dead.in_order in omega arith;
      given = omega arith;
      none = λ id h l.
          elim (cases_lt id at) [
            | inl low ↦ dead.none id h low
            | inr high ↦
                let same : id ≡ at = omega arith in
                ap (place_at slots) same
                ∙ (sym (get_or_default slots at slot None within) ∙ (sym read ∙ none_there slot off))
          ];
    }
  where
    none_there : (slot : Option Place) → is_some slot ≡ false → slot ≡ None
    none_there None e = refl
    none_there (Some p) e = absurd (true≢false e)

pub dead_is : (slots : Places) (start end : ℕ) → AreDead slots start end
    → take (end - start) (drop start slots) ≡ none_of (end - start)
dead_is slots start end dead =
    let o = dead.in_order in
    let g = dead.given in
    dead_front (end - start) (drop start slots) (rw (length-drop start slots) (omega arith))
    (λ i h. get_or-drop start slots i None ∙ dead.none (start + i) (omega arith) (omega arith))

-- a pass goes on behind ids of which none is live
pub moving_across : (size to start end : ℕ) (places : Places) → AreMoving size places start to
    → AreDead places start end → AreMoving size places end to
moving_across size to start end places m dead = record {
  spread = m.spread;
  below = λ i p h e.
      elim (cases_lt i start) [
        | inl low ↦ m.below i p low e
        | inr high ↦ absurd (none_some (place_at places i) p (dead.none i high h) e)
      ];
  above = λ i p h e. m.above i p (let o = dead.in_order in omega arith) e;
  fits = m.fits;
}

-- parts of slots that change places
pub parts_swapped : (a b c d old part : Places) (start middle end : ℕ) → old ≡ a ++ (b ++ (c ++ d)) → length a ≡ start
    → start + length b ≡ middle → middle + length c ≡ end
    → part ≡ drop (middle - start) (mid_of start (end - start) old)
    ++ take (middle - start) (mid_of start (end - start) old)
    → put_mid start (end - start) old part ≡ a ++ (c ++ (b ++ d))
parts_swapped a b c d old part start middle end is first second third turned =
    let l = length-append b c in
    let k : length (b ++ c) ≡ end - start = omega arith in
    let n : length b ≡ middle - start = omega arith in
    let behind : drop start old ≡ (b ++ c) ++ d = ap (drop start) is ∙ (drop_at a (b ++ (c ++ d)) start first
    ∙ sym (append_assoc b c d)) in
    let both : mid_of start (end - start) old ≡ b ++ c = ap (take (end - start)) behind
    ∙ take_at (b ++ c) d (end - start) k in
    let part_is : part ≡ c ++ b = turned
    ∙ (ap (λ (xs : Places). drop (middle - start) xs ++ take (middle - start) xs) both
    ∙ (ap (λ (xs : Places). xs ++ take (middle - start) (b ++ c)) (drop_at b c (middle - start) n)
    ∙ ap (λ (xs : Places). c ++ xs) (take_at b c (middle - start) n))) in
    let front : take start old ≡ a = ap (take start) is ∙ take_at a (b ++ (c ++ d)) start first in
    let rest : drop (end - start) (drop start old) ≡ d = ap (drop (end - start)) behind
    ∙ drop_at (b ++ c) d (end - start) k in
    ap (λ (xs : Places). xs ++ (part ++ drop (end - start) (drop start old))) front
    ∙ (ap (λ (xs : Places). a ++ (xs ++ drop (end - start) (drop start old))) part_is
    ∙ (ap (λ (xs : Places). a ++ ((c ++ b) ++ xs)) rest
    ∙ ap (λ (xs : Places). a ++ xs) (append_assoc c b d)))

pub same_count : (a b c d : Places) → length (a ++ (c ++ (b ++ d))) ≡ length (a ++ (b ++ (c ++ d)))
same_count a b c d =
    let new = length-append a (c ++ (b ++ d)) in
    let old = length-append a (b ++ (c ++ d)) in
    let new_rest = length-append c (b ++ d) in
    let old_rest = length-append b (c ++ d) in
    let new_end = length-append b d in
    let old_end = length-append c d in
    omega arith

-- slots in front of a run without a live row, that run, and the others
dead_less : (slots : Places) (start n end : ℕ) → AreDead slots start end → start + n ≤ end
    → AreDead slots start (start + n)
dead_less slots start n end dead less =
    record {
      in_order = omega arith;
      given = let g = dead.given in omega arith;
      none = λ id h l. dead.none id h (omega arith);
    }

parted : (slots : Places) (start n end : ℕ) → AreDead slots start end → start + n ≤ end
    → slots ≡ take start slots ++ (none_of n ++ drop (start + n) slots)
parted slots start n end dead less =
    let same : (start + n) - start ≡ n = omega arith in
    let none : take n (drop start slots) ≡ none_of n =
    subst (λ k. take k (drop start slots) ≡ none_of k) same
    (dead_is slots start (start + n) (dead_less slots start n end dead less)) in
    sym (take-append-drop start slots)
    ∙ ap (λ (xs : Places). take start slots ++ xs)
    (sym (take-append-drop n (drop start slots))
    ∙ (ap (λ (xs : Places). xs ++ drop n (drop start slots)) none
    ∙ ap (λ (xs : Places). none_of n ++ xs) (drop-drop n start slots)))

-- the gap begins in front of where it did
pub begun : (slots : Places) (start split gone end : ℕ) → AreDead slots start end → start ≤ split → split ≤ end
    → around_gone start gone slots ≡ around_gone split gone slots
begun slots start split gone end dead before within =
    let n : ℕ = split - start in
    let g = dead.given in
    let first : length (take start slots) ≡ start = length-take-le start slots (omega arith) in
    let is : slots ≡ take start slots ++ (none_of n ++ drop (start + n) slots) =
    parted slots start n end dead (omega arith) in
    ap (around_gone start gone) is
    ∙ (shifted (take start slots) (drop (start + n) slots) start split gone n first (omega arith)
    ∙ ap (around_gone split gone) (sym is))

-- it goes to a run behind it
pub gone_back : (slots new : Places) (split start gone end : ℕ) → AreDead slots start end → split ≤ start
    → start + gone ≤ end → Swaps slots new split start (start + gone)
    → around_gone (start + gone) gone new ≡ around_gone split gone slots
gone_back slots new split start gone end dead behind room swap =
    let g = dead.given in
    let o = dead.in_order in
    let front : Places = take split slots in
    let between : Places = drop split (take start slots) in
    let back : Places = drop (start + gone) slots in
    let l : length (take start slots) ≡ start = length-take-le start slots (omega arith) in
    let first : length front ≡ split = length-take-le split slots (omega arith) in
    let m : length between ≡ length (take start slots) - split = length-drop split (take start slots) in
    let n : length (none_of gone) ≡ gone = none_length gone in
    let start_is : take start slots ≡ front ++ between = sym (take-append-drop split (take start slots))
    ∙ ap (λ (xs : Places). xs ++ between) (take-take split start slots behind) in
    let is : slots ≡ front ++ (between ++ (none_of gone ++ back)) = parted slots start gone end dead room
    ∙ (ap (λ (xs : Places). xs ++ (none_of gone ++ back)) start_is
    ∙ append_assoc front between (none_of gone ++ back)) in
    ap (around_gone (start + gone) gone)
    (swap front between (none_of gone) back is first (omega arith) (omega arith))
    ∙ (moved front between back split (start + gone) gone first (omega arith)
    ∙ ap (around_gone split gone) (sym is))

-- it goes to a run in front of it
pub gone_front : (slots new : Places) (split start gone end : ℕ) → AreDead slots start end → start + gone ≤ end
    → end ≤ split → split ≤ length slots → Swaps slots new start (start + gone) split
    → around_gone start gone new ≡ around_gone split gone slots
gone_front slots new split start gone end dead room before within swap =
    let g = dead.given in
    let far : ℕ = start + gone in
    let k : ℕ = split - far in
    let front : Places = take start slots in
    let between : Places = take k (drop far slots) in
    let back : Places = drop k (drop far slots) in
    let first : length front ≡ start = length-take-le start slots (omega arith) in
    let n : length (none_of gone) ≡ gone = none_length gone in
    let r : length (drop far slots) ≡ length slots - far = length-drop far slots in
    let short : k ≤ length (drop far slots) = omega arith in
    let m : length between ≡ k = length-take-le k (drop far slots) short in
    let is : slots ≡ front ++ (none_of gone ++ (between ++ back)) = parted slots start gone end dead room
    ∙ ap (λ (xs : Places). front ++ (none_of gone ++ xs)) (sym (take-append-drop k (drop far slots))) in
    ap (around_gone start gone) (swap front (none_of gone) between back is first (omega arith) (omega arith))
    ∙ (sym (moved front between back start split gone first (omega arith))
    ∙ ap (around_gone split gone) (sym is))

-- it takes in what stands right behind it
pub taken_in : (slots new left : Places) (split gone end : ℕ) → AreDead slots split end
    → Swaps slots new split end (length slots) → left ≡ take (length slots - (end - split)) new
    → around_gone split (gone + (end - split)) left ≡ around_gone split gone slots
taken_in slots new left split gone end dead swap cut =
    let g = dead.given in
    let o = dead.in_order in
    let n : ℕ = end - split in
    let front : Places = take split slots in
    let back : Places = drop (split + n) slots in
    let first : length front ≡ split = length-take-le split slots (omega arith) in
    let k : length (none_of n) ≡ n = none_length n in
    let m : length back ≡ length slots - (split + n) = length-drop (split + n) slots in
    let is : slots ≡ front ++ (none_of n ++ back) = parted slots split n end dead (omega arith) in
    let nil : slots ≡ front ++ (none_of n ++ (back ++ [])) = is
    ∙ ap (λ (xs : Places). front ++ (none_of n ++ xs)) (sym (append-nil back)) in
    let s = length-append front back in
    let all : length (front ++ back) ≡ length slots - n = omega arith in
    let left_is : left ≡ front ++ back = cut
    ∙ (ap (take (length slots - n))
    (swap front (none_of n) back [] nil first (omega arith) (omega arith)
    ∙ sym (append_assoc front back (none_of n ++ [])))
    ∙ take_at (front ++ back) (none_of n ++ []) (length slots - n) all) in
    ap (around_gone split (gone + n)) left_is
    ∙ (widened front back split gone n first ∙ ap (around_gone split gone) (sym is))

-- rows that are moved are as many, and as live, as before
pub places_kept : (old new : List Literal) (a b : Places) → KeepsParts old a new b → length b ≡ length a
places_kept old new a b kept =
    sym (length-map b (option_map (λ (p : Place). p.block)))
    ∙ (ap (λ (bs : List (Option (Option ℕ))). length bs) kept.blocks
    ∙ length-map a (option_map (λ (p : Place). p.block)))

pub dead_kept : (old new : List Literal) (a b : Places) (start end : ℕ) → KeepsParts old a new b → AreDead a start end
    → AreDead b start end
dead_kept old new a b start end kept dead =
    record {
      in_order = dead.in_order;
      given = let g = dead.given in let l = places_kept old new a b kept in omega arith;
      none = λ id h l. not_there (place_at b id)
          (sym (map_at (λ (p : Place). p.block) b id)
          ∙ (ap (λ (bs : List (Option (Option ℕ))). get_or bs id None) kept.blocks
          ∙ (map_at (λ (p : Place). p.block) a id ∙ ap (option_map (λ (p : Place). p.block)) (dead.none id h l))));
    }
  where
    not_there : (slot : Option Place) → option_map (λ (p : Place). p.block) slot ≡ None → slot ≡ None
    not_there None e = refl
    not_there (Some p) e = absurd (let g : Some p.block ≡ None = e in cc)
