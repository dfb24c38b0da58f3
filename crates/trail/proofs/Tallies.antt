-- The counts of scopes, and the scope of the last decision, stay right.
use Rattle.std.proofs.Common.{◌≡◌, ℕ, zero, suc, ◌+◌, ◌-◌, ◌<◌, ◌≤◌, Bool, cond, List, [], ◌∷◌, ◌++◌, length, take, set, get_or, Some, None, refl, sym, ap, ◌∙◌, ⊎_elim, arith, nat_eq}
use Rattle.std.specs.Prelude.{count_by, slice_get}
use Rattle.std.proofs.lemmas.Bool.{cases_eq, cases_lt, eq-eqb, ne_eqb}
use Rattle.std.proofs.lemmas.List.{length-map, length-set, map-append, get_or-set_same, get_or-set_other, get_or_past, take_all, take_more}
use Rattle.std.proofs.lemmas.List.Sums.{sum_by_push, count_by-le-length}
use Rattle.trail.specs.declared.entry.Entry.{Entry}
use Rattle.trail.specs.Table.{AreCounted, AreFloored, HavePlaces, IsTallied, entries_of, floor_after, floor_from, scopes_in}

-- the scope of the last decision

pub floor_at : (before : ℕ) (entries : List Entry) (e : Entry) (j : ℕ) → length entries ≡ suc j
    → slice_get entries j ≡ Some e → AreFloored before entries → e.floor ≡ floor_from before entries
floor_at before [] e j l g h = absurd (cc)
floor_at before (x ∷ []) e zero l g h = let same : x ≡ e = cc in ap (λ (y : Entry). y.floor) (sym same) ∙ h.0
floor_at before (x ∷ []) e (suc j) l g h = absurd (omega arith)
floor_at before (x ∷ y ∷ rest) e zero l g h = absurd (omega arith)
floor_at before (x ∷ y ∷ rest) e (suc j) l g h =
    floor_at x.floor (y ∷ rest) e j (omega arith) g h.1 ∙ ap (λ n. floor_from n (y ∷ rest)) h.0

pub last_floor_at : (entries : List Entry) (e : Entry) → slice_get entries (length entries - 1) ≡ Some e
    → AreFloored 1 entries → e.floor ≡ floor_from 1 entries
last_floor_at [] e g h = absurd (let n : None ≡ Some e = g in cc)
last_floor_at (x ∷ entries) e g h =
    let last : length (x ∷ entries) - 1 ≡ length entries = omega arith in
    floor_at 1 (x ∷ entries) e (length entries) refl (ap (slice_get (x ∷ entries)) (sym last) ∙ g) h

floored_more : (before : ℕ) (entries : List Entry) (e : Entry) → AreFloored before entries → e.floor ≡ floor_after
    (floor_from before entries) e → AreFloored before (entries ++ e ∷ [])
floored_more before [] e h l = (l, tt)
floored_more before (x ∷ entries) e h l =
    let first : x.floor ≡ floor_after before x = h.0 in
    (first, floored_more x.floor entries e h.1 (l ∙ ap (λ n. floor_after (floor_from n entries) e) (sym first)))

floored_less : (before : ℕ) (entries : List Entry) (e : Entry) → AreFloored before (entries ++ e ∷ [])
    → AreFloored before entries
floored_less before [] e h = tt
floored_less before (x ∷ entries) e h = (h.0, floored_less x.floor entries e h.1)

-- counts

-- one, where a scope is the one that is counted
one_if : ℕ → ℕ → ℕ
one_if s i = cond (nat_eq s i) 1 0

count_push : (entries : List Entry) (e : Entry) (i : ℕ) → count_by (λ s. nat_eq s i) (scopes_in (entries ++ e ∷ [])) ≡
    count_by (λ s. nat_eq s i) (scopes_in entries) + cond (nat_eq e.scope i) 1 0
count_push entries e i =
    ap (count_by (λ s. nat_eq s i)) (map-append (λ (x : Entry). x.scope) entries (e ∷ []))
    ∙ sum_by_push (λ s. cond (nat_eq s i) 1 0) (scopes_in entries) e.scope

-- a count is at most the number of entries
pub count_few : (entries : List Entry) (tallies : List ℕ) (i : ℕ) → AreCounted entries tallies
    → get_or tallies i 0 ≤ length entries
count_few entries tallies i tallied =
    ⊎_elim
    (λ (below : i < length tallies).
    let is : get_or tallies i 0 ≡ count_by (λ s. nat_eq s i) (scopes_in entries) = tallied i below in
    let most : count_by (λ s. nat_eq s i) (scopes_in entries) ≤ length (scopes_in entries) = count_by-le-length
    (λ s. nat_eq s i) (scopes_in entries) in
    let long : length (scopes_in entries) ≡ length entries = length-map entries (λ (x : Entry). x.scope) in
    omega arith)
    (λ (past : length tallies ≤ i). let none : get_or tallies i 0 ≡ 0 = get_or_past tallies i 0 past in omega arith)
    (cases_lt i (length tallies))

pub tallied_more : (all entries : List Entry) (e : Entry) (tallies : List ℕ) → all ≡ entries ++ e ∷ []
    → IsTallied entries tallies → e.floor ≡ floor_after (floor_from 1 entries) e
    → IsTallied all (set tallies e.scope (get_or tallies e.scope 0 + 1))
tallied_more all entries e tallies parts before floor =
    let long = length-set tallies e.scope (get_or tallies e.scope 0 + 1) in
    rw parts (record {
      tallied = λ i below.
          let within : i < length tallies = omega arith in
          let old : get_or tallies i 0 ≡ count_by (λ s. nat_eq s i) (scopes_in entries) = before.tallied i within in
          ⊎_elim
          (λ (same : e.scope ≡ i).
          let one : cond {A = ℕ} (nat_eq e.scope i) 1 0 ≡ 1 = rw (eq-eqb e.scope i same) refl in
          let new : get_or (set tallies e.scope (get_or tallies e.scope 0 + 1)) i 0 ≡ get_or tallies i 0 + 1 =
          rw same (get_or-set_same tallies i (get_or tallies i 0 + 1) 0 within) in
          (omega (arith, one, new, old) ∙ sym (count_push entries e i)))
          (λ differs.
          let none : cond {A = ℕ} (nat_eq e.scope i) 1 0 ≡ 0 = rw (ne_eqb e.scope i differs) refl in
          let new : get_or (set tallies e.scope (get_or tallies e.scope 0 + 1)) i 0 ≡ get_or tallies i 0 =
          get_or-set_other tallies e.scope i (get_or tallies e.scope 0 + 1) 0 (λ k. differs (sym k)) in
          (omega (arith, none, new, old) ∙ sym (count_push entries e i)))
          (cases_eq e.scope i);
      floored = floored_more 1 entries e before.floored floor;
    })

pub tallied_less : (all entries : List Entry) (e : Entry) (tallies : List ℕ) → all ≡ entries ++ e ∷ []
    → IsTallied all tallies → (e.scope < length tallies → 1 ≤ get_or tallies e.scope 0) × IsTallied entries
    (set tallies e.scope (get_or tallies e.scope 0 - 1))
tallied_less all entries e tallies parts whole =
    let before : IsTallied (entries ++ e ∷ []) tallies = rw parts at whole in
    let long = length-set tallies e.scope (get_or tallies e.scope 0 - 1) in (
      λ within.
          let old : get_or tallies e.scope 0 ≡ count_by (λ s. nat_eq s e.scope) (scopes_in (entries ++ e ∷ [])) =
          before.tallied e.scope within in
          let one : cond {A = ℕ} (nat_eq e.scope e.scope) 1 0 ≡ 1 = rw (eq-eqb e.scope e.scope refl) refl in
          let push = count_push entries e e.scope in
          omega (arith, one, old, push),
      record {
        tallied = λ i below.
            let within : i < length tallies = omega arith in
            let old : get_or tallies i 0 ≡ count_by (λ s. nat_eq s i) (scopes_in entries) + cond (nat_eq e.scope i) 1
            0 = before.tallied i within ∙ count_push entries e i in
            ⊎_elim
            (λ (same : e.scope ≡ i).
            let one : cond {A = ℕ} (nat_eq e.scope i) 1 0 ≡ 1 = rw (eq-eqb e.scope i same) refl in
            let new : get_or (set tallies e.scope (get_or tallies e.scope 0 - 1)) i 0 ≡ get_or tallies i 0 - 1 =
            rw same (get_or-set_same tallies i (get_or tallies i 0 - 1) 0 within) in
            omega (arith, one, new, old))
            (λ differs.
            let none : cond {A = ℕ} (nat_eq e.scope i) 1 0 ≡ 0 = rw (ne_eqb e.scope i differs) refl in
            let new : get_or (set tallies e.scope (get_or tallies e.scope 0 - 1)) i 0 ≡ get_or tallies i 0 =
            get_or-set_other tallies e.scope i (get_or tallies e.scope 0 - 1) 0 (λ k. differs (sym k)) in
            omega (arith, none, new, old))
            (cases_eq e.scope i);
        floored = floored_less 1 entries e before.floored;
      },
    )

-- the counts while those of more scopes are made: the old ones are right, the new ones for the first entries
pub record AreCountedFrom (entries : List Entry) (old n : ℕ) (tallies : List ℕ) (k : ℕ) : Type 0 where
  pub long : length tallies ≡ n
  pub before : (i : ℕ) → i < old → i < length tallies → get_or tallies i 0 ≡ entries_of entries i
  pub after : (i : ℕ) → old ≤ i → i < length tallies → get_or tallies i 0 ≡ entries_of (take k entries) i

pub counted_first : (entries : List Entry) (old more : List ℕ) (n : ℕ) → AreCounted entries old → length old ≤ n
    → length more ≡ n → ((i : ℕ) → i < length old → get_or more i 0 ≡ get_or old i 0)
    → ((i : ℕ) → length old ≤ i → i < n → get_or more i 0 ≡ 0) → AreCountedFrom entries (length old) n more 0
counted_first entries old more n counted grows long same none = record {
  long = long;
  before = λ i low below. same i low ∙ counted i low;
  after = λ i high below. none i high (omega arith);
}

count_next : (entries : List Entry) (k : ℕ) (e : Entry) (i : ℕ) → k < length entries → e ≡ get_or entries k e
    → entries_of (take (k + 1) entries) i ≡ entries_of (take k entries) i + cond (nat_eq e.scope i) 1 0
count_next entries k e i below is = ap (λ (es : List Entry). entries_of es i)
    (take_more entries k e below ∙ ap (λ (x : Entry). take k entries ++ x ∷ []) (sym is))
    ∙ count_push (take k entries) e i

-- the next entry is of an old scope
pub counted_passed : (entries : List Entry) (old n : ℕ) (tallies : List ℕ) (k : ℕ) (e : Entry)
    → AreCountedFrom entries old n tallies k → k < length entries → e ≡ get_or entries k e → e.scope < old
    → AreCountedFrom entries old n tallies (k + 1)
counted_passed entries old n tallies k e h below is low = record {
  long = h.long;
  before = h.before;
  after = λ i high within.
      let none : cond {A = ℕ} (nat_eq e.scope i) 1 0 ≡ 0 = rw (ne_eqb e.scope i (λ same. (omega arith))) refl in
      let next = count_next entries k e i below is in
      let now = h.after i high within in
      omega (arith, none, next, now);
}

-- or of a new one
pub counted_one : (entries : List Entry) (old n : ℕ) (tallies : List ℕ) (k : ℕ) (e : Entry)
    → AreCountedFrom entries old n tallies k → k < length entries → e ≡ get_or entries k e → old ≤ e.scope
    → AreCountedFrom entries old n (set tallies e.scope (get_or tallies e.scope 0 + 1)) (k + 1)
counted_one entries old n tallies k e h below is new =
    let long = length-set tallies e.scope (get_or tallies e.scope 0 + 1) in
    record {
      long = long ∙ h.long;
      before = λ i low within. get_or-set_other tallies e.scope i (get_or tallies e.scope 0 + 1) 0
          (λ same. (omega arith)) ∙ h.before i low (omega arith);
      after = λ i high within.
          let there : i < length tallies = omega arith in
          let next = count_next entries k e i below is in
          let now = h.after i high there in
          ⊎_elim
          (λ (same : e.scope ≡ i).
          let one : cond {A = ℕ} (nat_eq e.scope i) 1 0 ≡ 1 = rw (eq-eqb e.scope i same) refl in
          let more : get_or (set tallies e.scope (get_or tallies e.scope 0 + 1)) i 0 ≡ get_or tallies i 0 + 1 =
          rw same (get_or-set_same tallies i (get_or tallies i 0 + 1) 0 there) in
          omega (arith, one, next, now, more))
          (λ differs.
          let none : cond {A = ℕ} (nat_eq e.scope i) 1 0 ≡ 0 = rw (ne_eqb e.scope i differs) refl in
          let other : get_or (set tallies e.scope (get_or tallies e.scope 0 + 1)) i 0 ≡ get_or tallies i 0 =
          get_or-set_other tallies e.scope i (get_or tallies e.scope 0 + 1) 0 (λ same. differs (sym same)) in
          omega (arith, none, next, now, other))
          (cases_eq e.scope i);
    }

-- a count is at most the number of entries so far
pub counted_few : (entries : List Entry) (old n : ℕ) (tallies : List ℕ) (k i : ℕ) → AreCountedFrom entries old n tallies
    k → old ≤ i → get_or tallies i 0 ≤ length entries
counted_few entries old n tallies k i h high =
    ⊎_elim
    (λ (below : i < length tallies).
    let is = h.after i high below in
    let most : entries_of (take k entries) i ≤ length (scopes_in (take k entries)) = count_by-le-length
    (λ s. nat_eq s i) (scopes_in (take k entries)) in
    let long : length (scopes_in (take k entries)) ≡ length (take k entries) = length-map (take k entries)
    (λ (x : Entry). x.scope) in
    let short : length (take k entries) ≤ length entries = length-take-most k entries in
    omega arith)
    (λ (past : length tallies ≤ i). let none : get_or tallies i 0 ≡ 0 = get_or_past tallies i 0 past in omega arith)
    (cases_lt i (length tallies))
  where
    length-take-most : (m : ℕ) (es : List Entry) → length (take m es) ≤ length es
    length-take-most zero es = omega arith
    length-take-most (suc m) [] = omega arith
    length-take-most (suc m) (x ∷ es) = let later = length-take-most m es in omega arith

pub counted_all : (entries : List Entry) (old n : ℕ) (tallies : List ℕ) (k : ℕ) → AreCountedFrom entries old n tallies k
    → length entries ≤ k → AreCounted entries tallies
counted_all entries old n tallies k h end i within =
    ⊎_elim
    (λ (low : i < old). h.before i low within)
    (λ (high : old ≤ i). h.after i high within ∙ ap (λ (es : List Entry). entries_of es i) (take_all k entries end))
    (cases_lt i old)

-- tables of the same lengths
pub places_same : (room more : ℕ) (tallies wider : List ℕ) (finished known : List Bool) → more ≡ room
    → length wider ≡ length tallies → length known ≡ length finished → HavePlaces room tallies finished
    → HavePlaces more wider known
places_same room more tallies wider finished known same alike equal h =
    let t = h.tallies_long in
    let f = h.finished_long in
    record { tallies_long = omega arith; finished_long = omega arith }
