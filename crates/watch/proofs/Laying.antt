-- The entries of variables, and the list of first rows that they stand for.
use Rattle.std.proofs.Common.{◌≡◌, ◌≢◌, ℕ, zero, suc, ◌+◌, ◌-◌, ◌*◌, ◌/◌, ◌%◌, ◌<◌, ◌≤◌, ◌==◌, cond, List, [], ◌∷◌, ◌++◌, length, get_or, set, replicate, Option, None, refl, sym, ap, ◌∙◌, ⊎_elim, arith}
use Rattle.std.proofs.lemmas.Bool.{cases_eq}
use Rattle.std.proofs.lemmas.Bool.Decides.{nat_tests}
use Rattle.std.proofs.lemmas.List.{append_assoc, ext_get_or, get_or_past, get_or-set_other, get_or-set_same, get_or_read, length-append, length-replicate, length-set}
use Rattle.watch.specs.Entries.{AreLaid, entry_at, heads_of, no_slot, slot_at, used}

pub length_heads : (entries : List (Option ℕ)) (slots : List ℕ) → length (heads_of entries slots) ≡ 4 * length slots
length_heads entries [] = refl
length_heads entries (slot ∷ slots) = let rest = length_heads entries slots in omega arith

-- the place of one of four lists of a variable
four : (P : ℕ → Type 0) → P 0 → P 1 → P 2 → P 3 → (k : ℕ) → k < 4 → P k
four P a b c d zero h = a
four P a b c d (suc zero) h = b
four P a b c d (suc (suc zero)) h = c
four P a b c d (suc (suc (suc zero))) h = d
four P a b c d (suc (suc (suc (suc k)))) h = absurd (omega arith)

read_four : (entries : List (Option ℕ)) (slot : ℕ) (slots : List ℕ) (k : ℕ) → k < 4
    → get_or (heads_of entries (slot ∷ slots)) k None ≡ entry_at entries (4 * slot + k)
read_four entries slot slots =
    four (λ k. get_or (heads_of entries (slot ∷ slots)) k None ≡ entry_at entries (4 * slot + k))
    (ap (entry_at entries) (let e : 4 * slot ≡ 4 * slot + 0 = omega arith in e)) refl refl refl

-- the first row of a list is the entry of the variable's slot
pub head_at : (entries : List (Option ℕ)) (slots : List ℕ) (i k : ℕ) → k < 4 → i < length slots
    → get_or (heads_of entries slots) (4 * i + k) None ≡ entry_at entries (4 * slot_at slots i + k)
head_at entries [] i k small within = absurd (omega arith)
head_at entries (slot ∷ slots) zero k small within =
    ap (λ n. get_or (heads_of entries (slot ∷ slots)) n None) (let e : 4 * 0 + k ≡ k = omega arith in e)
    ∙ read_four entries slot slots k small
head_at entries (slot ∷ slots) (suc i) k small within =
    ap (λ n. get_or (heads_of entries (slot ∷ slots)) n None)
    (let e : 4 * suc i + k ≡ suc (suc (suc (suc (4 * i + k)))) = omega arith in e)
    ∙ head_at entries slots i k small (omega arith)

pub head_of : (entries : List (Option ℕ)) (slots : List ℕ) (place : ℕ) → place < 4 * length slots
    → get_or (heads_of entries slots) place None ≡ entry_at entries (4 * slot_at slots (place / 4) + place % 4)
head_of entries slots place within =
    let split : 4 * (place / 4) + place % 4 ≡ place = omega arith in
    let small : place % 4 < 4 = omega arith in
    let var : place / 4 < length slots = omega arith in
    ap (λ n. get_or (heads_of entries slots) n None) (sym split)
    ∙ head_at entries slots (place / 4) (place % 4) small var

-- what is read at the slot of a variable
pub head_read : (entries : List (Option ℕ)) (slots : List ℕ) (place slot : ℕ) (first : Option ℕ)
    → place < 4 * length slots → slot ≡ get_or slots (place / 4) slot
    → first ≡ entry_at entries (4 * slot + place % 4) → first ≡ get_or (heads_of entries slots) place None
head_read entries slots place slot first within read is =
    let var : place / 4 < length slots = omega arith in
    is ∙ (ap (λ s. entry_at entries (4 * s + place % 4)) (get_or_read slots (place / 4) slot var read no_slot)
    ∙ sym (head_of entries slots place within))

-- where each list begins alike, all do
pub heads_same : (entries entries' : List (Option ℕ)) (slots slots' : List ℕ) → length slots ≡ length slots'
    → ((i k : ℕ) → k < 4 → i < length slots
    → entry_at entries (4 * slot_at slots i + k) ≡ entry_at entries' (4 * slot_at slots' i + k))
    → heads_of entries slots ≡ heads_of entries' slots'
heads_same entries entries' slots slots' size alike =
    let one = length_heads entries slots in
    let other = length_heads entries' slots' in
    ext_get_or None (heads_of entries slots) (heads_of entries' slots') (omega arith)
    (λ n below.
    let place : n < 4 * length slots = omega arith in
    let place' : n < 4 * length slots' = omega arith in
    let small : n % 4 < 4 = omega arith in
    let var : n / 4 < length slots = omega arith in
    head_of entries slots n place ∙ (alike (n / 4) (n % 4) small var ∙ sym (head_of entries' slots' n place')))

-- a slot behind the entries has none
pub past_none : (entries : List (Option ℕ)) (e : ℕ) → length entries ≤ e → entry_at entries e ≡ None
past_none entries e past = get_or_past entries e None past

-- more of what counts where nothing stands changes nothing
more_same : {X : Type 0} (d : X) (k i : ℕ) → get_or (replicate k d) i d ≡ d
more_same d zero i = refl
more_same d (suc k) zero = refl
more_same d (suc k) (suc i) = more_same d k i

read_more : {X : Type 0} (xs : List X) (d : X) (k i : ℕ) → get_or (xs ++ replicate k d) i d ≡ get_or xs i d
read_more [] d k i = more_same d k i
read_more (x ∷ xs) d k zero = refl
read_more (x ∷ xs) d k (suc i) = read_more xs d k i

pub entry_more : (entries : List (Option ℕ)) (k e : ℕ) → entry_at (entries ++ replicate k None) e ≡ entry_at entries e
entry_more entries k e = read_more entries None k e

pub slot_more : (slots : List ℕ) (k i : ℕ) → slot_at (slots ++ replicate k no_slot) i ≡ slot_at slots i
slot_more slots k i = read_more slots no_slot k i

-- how many slots are used
pub used_most : (slots : List ℕ) → used slots ≤ length slots
used_most [] = omega arith
used_most (slot ∷ slots) = let rest = used_most slots in grind (arith, nat_tests)

pub used_more : (slots : List ℕ) (k : ℕ) → used (slots ++ replicate k no_slot) ≡ used slots
used_more [] zero = refl
used_more [] (suc k) = let rest = used_more [] k in omega (arith, rest)
used_more (slot ∷ slots) k = ap (λ n. cond (slot == no_slot) 0 1 + n) (used_more slots k)

pub used_set : (slots : List ℕ) (i slot : ℕ) → i < length slots → slot_at slots i ≡ no_slot → slot ≢ no_slot
    → used (set slots i slot) ≡ used slots + 1
used_set [] i slot within none some = absurd (omega arith)
used_set (s ∷ slots) zero slot within none some = grind (arith, nat_tests)
used_set (s ∷ slots) (suc i) slot within none some =
    let rest = used_set slots i slot (omega arith) none some in
    omega (arith, rest)

-- there are entries of variables alone
pub few_entries : (slots : List ℕ) (entries : List (Option ℕ)) (capacity : ℕ) → AreLaid slots entries capacity
    → length entries ≤ 4194304
few_entries slots entries capacity laid = let most = used_most slots in omega (arith, laid.few, laid.counted)

-- a variable gets entries
module _ (slots : List ℕ) (entries : List (Option ℕ)) (capacity : ℕ) (laid : AreLaid slots entries capacity) (i e : ℕ)
    (here : i < length slots) (none : slot_at slots i ≡ no_slot) (last : 4 * e ≡ length entries) where
  few : 4 * e ≤ 4194304
  few = let most = few_entries slots entries capacity laid in omega arith

  some : e ≢ no_slot
  some = λ same. omega (arith, same, few)

  one : slot_at (set slots i e) i ≡ e
  one = get_or-set_same slots i e no_slot here

  other : (j : ℕ) → j ≢ i → slot_at (set slots i e) j ≡ slot_at slots j
  other j differs = get_or-set_other slots i j e no_slot differs

  pub given_one : slot_at (set slots i e) i ≢ no_slot
  given_one = λ same. some (sym one ∙ same)

  -- no other slot has the new entries
  fresh : (j : ℕ) → slot_at slots j ≢ e
  fresh j = λ same. let in_use = laid.within j (λ is. some (sym same ∙ is)) in omega (arith, same, last)

  pub given_fits : length entries + 4 ≤ capacity
  given_fits =
      let one_more = used_set slots i e here none some in
      let most = used_most (set slots i e) in
      omega (arith, length-set slots i e, laid.counted, laid.fits)

  pub given_laid : (entries' : List (Option ℕ)) (capacity' : ℕ) → entries' ≡ entries ++ replicate 4 None
      → capacity ≤ capacity' → AreLaid (set slots i e) entries' capacity'
  given_laid entries' capacity' is more =
      let size : length entries' ≡ length entries + 4 = ap length is ∙ length-append entries (replicate 4 None) in
      let one_more = used_set slots i e here none some in
      let same = length-set slots i e in record {
        few = omega (arith, laid.few);
        counted = omega (arith, laid.counted);
        fits = omega (arith, laid.fits);
        within = λ j used.
            ⊎_elim (λ (is : j ≡ i).
            let slot : slot_at (set slots i e) j ≡ e = ap (slot_at (set slots i e)) is ∙ one in
            omega arith)
            (λ differs.
            let slot = other j differs in
            let old = laid.within j (λ no. used (slot ∙ no)) in
            omega arith)
            (cases_eq j i);
        apart = λ j l used alike.
            ⊎_elim (λ (is : j ≡ i).
            ⊎_elim (λ (too : l ≡ i). is ∙ sym too)
            (λ differs.
            let slot : slot_at (set slots i e) j ≡ e = ap (slot_at (set slots i e)) is ∙ one in
            absurd (fresh l (sym (other l differs) ∙ (sym alike ∙ slot))))
            (cases_eq l i))
            (λ differs.
            ⊎_elim (λ (too : l ≡ i).
            let slot : slot_at (set slots i e) l ≡ e = ap (slot_at (set slots i e)) too ∙ one in
            absurd (fresh j (sym (other j differs) ∙ (alike ∙ slot))))
            (λ apart. laid.apart j l (λ no. used (other j differs ∙ no))
            (sym (other j differs) ∙ (alike ∙ other l apart)))
            (cases_eq l i))
            (cases_eq j i);
      }

  pub given_heads : (entries' : List (Option ℕ)) → entries' ≡ entries ++ replicate 4 None
      → heads_of entries' (set slots i e) ≡ heads_of entries slots
  given_heads entries' is =
      heads_same entries' entries (set slots i e) slots (length-set slots i e) (λ j k small within.
      ap (λ es. entry_at es (4 * slot_at (set slots i e) j + k)) is
      ∙ (entry_more entries 4 (4 * slot_at (set slots i e) j + k)
      ∙ ⊎_elim (λ same.
      let slot : slot_at (set slots i e) j ≡ e = ap (slot_at (set slots i e)) same ∙ one in
      let no : slot_at slots j ≡ 4294967295 = ap (slot_at slots) same ∙ none in
      past_none entries (4 * slot_at (set slots i e) j + k) (omega arith)
      ∙ sym (past_none entries (4 * slot_at slots j + k) (omega (arith, few))))
      (λ differs. ap (λ s. entry_at entries (4 * s + k)) (other j differs))
      (cases_eq j i)))

-- an entry is written
module _ (slots : List ℕ) (entries : List (Option ℕ)) (capacity : ℕ) (laid : AreLaid slots entries capacity) (place : ℕ)
    (first : Option ℕ) (here : place < 4 * length slots) (given : slot_at slots (place / 4) ≢ no_slot) where
  abbrev at : ℕ
  at = 4 * slot_at slots (place / 4) + place % 4

  small : place % 4 < 4
  small = omega arith

  pub entry_within : at < length entries
  entry_within = let within = laid.within (place / 4) given in omega (arith, small)

  pub entry_laid : AreLaid slots (set entries at first) capacity
  entry_laid =
      let size = length-set entries at first in record {
        few = laid.few;
        counted = size ∙ laid.counted;
        fits = laid.fits;
        within = λ i used. let old = laid.within i used in omega arith;
        apart = laid.apart;
      }

  pub entry_heads : heads_of (set entries at first) slots ≡ set (heads_of entries slots) place first
  entry_heads =
      let long = length_heads entries slots in
      let same = length-set (heads_of entries slots) place first in
      ext_get_or None (heads_of (set entries at first) slots) (set (heads_of entries slots) place first)
      (length_heads (set entries at first) slots ∙ sym (same ∙ long))
      (λ n below.
      let long' = length_heads (set entries at first) slots in
      let within : n < 4 * length slots = omega arith in
      head_of (set entries at first) slots n within
      ∙ ⊎_elim (λ (is : n ≡ place).
      ap (λ m. entry_at (set entries at first) (4 * slot_at slots (m / 4) + m % 4)) is
      ∙ (get_or-set_same entries at first None entry_within
      ∙ (sym (get_or-set_same (heads_of entries slots) place first None (omega arith))
      ∙ ap (λ m. get_or (set (heads_of entries slots) place first) m None) (sym is))))
      (λ (differs : n ≢ place).
      get_or-set_other entries at (4 * slot_at slots (n / 4) + n % 4) first None (elsewhere n differs)
      ∙ (sym (head_of entries slots n within)
      ∙ sym (get_or-set_other (heads_of entries slots) place n first None differs)))
      (cases_eq n place))
    where
      elsewhere : (n : ℕ) → n ≢ place → 4 * slot_at slots (n / 4) + n % 4 ≢ at
      elsewhere n differs = λ same.
          let one : n % 4 < 4 = omega arith in
          let slot : slot_at slots (place / 4) ≡ slot_at slots (n / 4) = omega (arith, small) in
          let var = laid.apart (place / 4) (n / 4) given slot in
          let rest : n % 4 ≡ place % 4 = omega arith in
          differs (omega arith)

-- more variables, none of which has entries
pub heads_more : (entries : List (Option ℕ)) (slots : List ℕ) (more : ℕ) → length entries ≤ 4194304
    → heads_of entries (slots ++ replicate more no_slot) ≡ heads_of entries slots ++ replicate (4 * more) None
heads_more entries [] zero few = refl
heads_more entries [] (suc more) few =
    let none = λ (k : ℕ) (h : k < 4). past_none entries (4 * 4294967295 + k) (omega (arith, few)) in
    none_four (past_none entries (4 * 4294967295) (omega (arith, few))) (none 1 (omega arith)) (none 2 (omega arith))
    (none 3 (omega arith)) (heads_more entries [] more few)
    ∙ ap (λ n. replicate n None) (let e : suc (suc (suc (suc (4 * more)))) ≡ 4 * suc more = omega arith in e)
  where
    none_four : {a b c d : Option ℕ} {xs ys : List (Option ℕ)} → a ≡ None → b ≡ None → c ≡ None → d ≡ None → xs ≡ ys
        → a ∷ b ∷ c ∷ d ∷ xs ≡ None ∷ None ∷ None ∷ None ∷ ys
    none_four a b c d e = cc
heads_more entries (slot ∷ slots) more few =
    ap (λ hs. entry_at entries (4 * slot) ∷ entry_at entries (4 * slot + 1) ∷ entry_at entries (4 * slot + 2)
    ∷ entry_at entries (4 * slot + 3) ∷ hs)
    (heads_more entries slots more few)

pub laid_more : (slots : List ℕ) (entries : List (Option ℕ)) (capacity capacity' more : ℕ)
    → AreLaid slots entries capacity → length slots + more ≤ 1048576 → 4 * (length slots + more) ≤ capacity'
    → AreLaid (slots ++ replicate more no_slot) entries capacity'
laid_more slots entries capacity capacity' more laid few room =
    let size = length-append slots (replicate more no_slot) in
    let added = length-replicate more no_slot in record {
      few = omega arith;
      counted = laid.counted ∙ ap (λ n. 4 * n) (sym (used_more slots more));
      fits = omega arith;
      within = λ i used. rw (slot_more slots more i) (laid.within i (λ no. used (slot_more slots more i ∙ no)));
      apart = λ i j used alike. laid.apart i j (λ no. used (slot_more slots more i ∙ no))
          (sym (slot_more slots more i) ∙ (alike ∙ slot_more slots more j));
    }

-- the lists of a family, with slots and entries that have room for more variables
module _ (low heads : List (Option ℕ)) (slots slots' : List ℕ) (entries entries' : List (Option ℕ)) (capacity vars : ℕ)
    (view : low ++ heads_of entries slots ≡ heads) (lows : length low ≡ 4) (laid : AreLaid slots entries capacity)
    (most : length heads ≤ 4 * vars + 4) (same_slots : slots' ≡ slots) (same_entries : entries' ≡ entries) where
  count : length heads ≡ 4 * length slots + 4
  count =
      let size = length_heads entries slots in
      let all = length-append low (heads_of entries slots) in
      let seen = ap length view in
      omega (arith, lows)

  pub grown_more : length slots' ≤ vars
  grown_more = let same = ap length same_slots in omega (arith, count, most)

  more : (wide : List ℕ) → wide ≡ slots' ++ replicate (vars - length slots') no_slot
      → wide ≡ slots ++ replicate (vars - length slots) no_slot
  more wide is = is ∙ ap (λ (s : List ℕ). s ++ replicate (vars - length s) no_slot) same_slots

  pub grown_laid : (wide : List ℕ) (capacity' : ℕ) → wide ≡ slots' ++ replicate (vars - length slots') no_slot
      → vars ≤ 1048576 → 4 * vars ≤ capacity' → AreLaid wide entries' capacity'
  grown_laid wide capacity' is few room =
      let within = grown_more in
      let same = ap length same_slots in
      let all : length slots + (vars - length slots) ≡ vars = omega arith in
      rw (more wide is, same_entries)
      (laid_more slots entries capacity capacity' (vars - length slots) laid (omega arith) (omega arith))

  pub grown_heads : (wide : List ℕ) → wide ≡ slots' ++ replicate (vars - length slots') no_slot
      → low ++ heads_of entries' wide ≡ heads ++ replicate (4 * vars + 4 - length heads) None
  grown_heads wide is =
      let size = count in
      let same = ap length same_slots in
      let rest : 4 * (vars - length slots) ≡ 4 * vars + 4 - length heads = omega arith in
      ap (λ (s : List ℕ). low ++ heads_of entries' s) (more wide is)
      ∙ (ap (λ (es : List (Option ℕ)). low ++ heads_of es (slots ++ replicate (vars - length slots) no_slot))
      same_entries
      ∙ (ap (λ (hs : List (Option ℕ)). low ++ hs) (heads_more entries slots (vars - length slots) (few_entries slots
      entries capacity laid))
      ∙ (sym (append_assoc low (heads_of entries slots) (replicate (4 * (vars - length slots)) None))
      ∙ (ap (λ (hs : List (Option ℕ)). hs ++ replicate (4 * (vars - length slots)) None) view
      ∙ ap (λ n. heads ++ replicate n None) rest))))
