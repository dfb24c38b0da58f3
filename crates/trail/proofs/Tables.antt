-- The table of a trail stays one.
use Rattle.std.proofs.Common.{◌≡◌, ℕ, zero, suc, ◌+◌, ◌-◌, ◌<◌, ◌≤◌, Bool, true, cond, List, [], ◌∷◌, ◌++◌, length, take, set, get_or, All, Option, Some, None, is_some, refl, sym, ap, ◌∙◌, ⊎_elim, arith, nat_eq}
use Rattle.std.specs.Prelude.{slice_get, count_by}
use Rattle.std.specs.Option.{option_map}
use Rattle.std.proofs.lemmas.Bool.{cond_both, cases_Bool, cases_eq, cases_lt, eq-eqb, false≢true}
use Rattle.std.proofs.lemmas.List.{length_push, length-map, length-set, length-take-le, map-append, get_or-set_same, get_or-set_other, get_or_past}
use Rattle.std.proofs.lemmas.List.Sums.{sum_by-set, count_by-le-length}
use Rattle.std.proofs.Math.Seq.{take-length, take-suc}
use Rattle.calculus.specs.Search.{Placed, Trail, cut_trail, cause_on, is_decision, last_level, last_level_from, literals_on, level_after, level_from_start, place_on, value_on}
use Rattle.calculus.proofs.Trails.{value_here, value_past, place_here, place_past, cause_here, cause_past, level_here, level_past}
use Rattle.trail.specs.declared.entry.Entry.{Entry}
use Rattle.trail.specs.declared.entry.Spot.{Spot}
use Rattle.trail.specs.Causes.{cause_of}
use Rattle.trail.specs.Table.{placed_of, trail_of, AreLeveled, spot_at, spot_on, IsTable}
use Rattle.calculus.proofs.Cutting.{cut_all}
use Rattle.trail.proofs.Cutting.{cut_more}
use Rattle.trail.proofs.Placing.{spot_other, spot_last, spot_none, IsOnce, once_more, once_less, last_new}

-- levels

-- the level of the last entry is that of the trail
pub last_at : (before : ℕ) (entries : List Entry) (e : Entry) (j : ℕ) → length entries ≡ suc j
    → slice_get entries j ≡ Some e → AreLeveled before entries → e.level ≡ last_level_from before (trail_of entries)
last_at before [] e j l g h = absurd (cc)
last_at before (x ∷ []) e zero l g h = let same : x ≡ e = cc in ap (λ (y : Entry). y.level) (sym same) ∙ h.0
last_at before (x ∷ []) e (suc j) l g h = absurd (omega arith)
last_at before (x ∷ y ∷ rest) e zero l g h = absurd (omega arith)
last_at before (x ∷ y ∷ rest) e (suc j) l g h =
    last_at x.level (y ∷ rest) e j (omega arith) g h.1 ∙ ap (λ n. last_level_from n (trail_of (y ∷ rest))) h.0

pub last_level_at : (entries : List Entry) (e : Entry) → slice_get entries (length entries - 1) ≡ Some e
    → AreLeveled 0 entries → e.level ≡ last_level (trail_of entries)
last_level_at [] e g h = absurd (let n : None ≡ Some e = g in cc)
last_level_at (x ∷ entries) e g h =
    let last : length (x ∷ entries) - 1 ≡ length entries = omega arith in
    last_at 0 (x ∷ entries) e (length entries) refl (ap (slice_get (x ∷ entries)) (sym last) ∙ g) h

pub leveled_more : (before : ℕ) (entries : List Entry) (e : Entry) → AreLeveled before entries → e.level ≡ level_after
    (last_level_from before (trail_of entries)) (placed_of e) → AreLeveled before (entries ++ e ∷ [])
leveled_more before [] e h l = (l, tt)
leveled_more before (x ∷ entries) e h l =
    let first : x.level ≡ level_after before (placed_of x) = h.0 in (
      first,
      leveled_more x.level entries e h.1
          (l ∙ ap (λ n. level_after (last_level_from n (trail_of entries)) (placed_of e)) (sym first)),
    )

pub leveled_less : (before : ℕ) (entries : List Entry) (e : Entry) → AreLeveled before (entries ++ e ∷ [])
    → AreLeveled before entries
leveled_less before [] e h = tt
leveled_less before (x ∷ entries) e h = (h.0, leveled_less x.level entries e h.1)

-- an option that a constant was put into
pub map_some : (o : Option Bool) (n m : ℕ) → Some n ≡ option_map (λ b. m) o → (n ≡ m) × (is_some o ≡ true)
map_some None n m e = absurd (cc)
map_some (Some b) n m e = let same : n ≡ m = cc in (same, refl)

pub some_map : (o : Option Bool) (n m : ℕ) → is_some o ≡ true → n ≡ m → Some n ≡ option_map (λ b. m) o
some_map None n m h e = absurd (false≢true h)
some_map (Some b) n m h e = ap Some e

pub none_map : (o : Option Bool) (m : ℕ) → None ≡ option_map (λ b. m) o → o ≡ None
none_map None m e = refl
none_map (Some b) m e = absurd (cc)

-- what is read at the place of a variable

-- the entry of an assigned variable
pub record IsEntryOf (before : ℕ) (entries : List Entry) (x : ℕ) (e : Entry) : Type 0 where
  pub level : e.level ≡ level_from_start before (trail_of entries) x
  pub cause : cause_on (trail_of entries) x ≡ Some (cause_of e.why)

pub entry_at : (before : ℕ) (entries : List Entry) (x : ℕ) (d : Entry) → AreLeveled before entries
    → is_some (value_on (trail_of entries) x) ≡ true → IsEntryOf before entries x
    (get_or entries (place_on (trail_of entries) x) d)
entry_at before [] x d h known = absurd (false≢true known)
entry_at before (e ∷ entries) x d h known =
    let p = placed_of e in
    let rest = trail_of entries in
    ⊎_elim
    (λ t.
    let place : get_or (e ∷ entries) (place_on (p ∷ rest) x) d ≡ e = ap (λ n. get_or (e ∷ entries) n d)
    (place_here p rest x t) in
    record {
      level = ap (λ (y : Entry). y.level) place ∙ (h.0 ∙ sym (level_here p rest x before t));
      cause = cause_here p rest x t ∙ sym (ap (λ (y : Entry). Some (cause_of y.why)) place);
    })
    (λ f.
    let place : get_or (e ∷ entries) (place_on (p ∷ rest) x) d ≡ get_or entries (place_on rest x) d =
    ap (λ n. get_or (e ∷ entries) n d) (place_past p rest x f) in
    let later = entry_at e.level entries x d h.1 (ap is_some (sym (value_past p rest x f)) ∙ known) in
    record {
      level = ap (λ (y : Entry). y.level) place
          ∙ (later.level ∙ (ap (λ n. level_from_start n rest x) h.0 ∙ sym (level_past p rest x before f)));
      cause = cause_past p rest x f ∙ (later.cause ∙ sym (ap (λ (y : Entry). Some (cause_of y.why)) place));
    })
    (cases_Bool (nat_eq p.literal.variable x))

pub place_within : (entries : List Entry) (x : ℕ) → is_some (value_on (trail_of entries) x) ≡ true
    → place_on (trail_of entries) x < length entries
place_within [] x known = absurd (false≢true known)
place_within (e ∷ entries) x known =
    let p = placed_of e in
    let rest = trail_of entries in
    ⊎_elim (λ t. let place = place_here p rest x t in omega arith)
    (λ f. let place = place_past p rest x f in let later = place_within entries x
    (ap is_some (sym (value_past p rest x f)) ∙ known) in omega arith)
    (cases_Bool (nat_eq p.literal.variable x))

pub cause_none : (trail : Trail) (x : ℕ) → value_on trail x ≡ None → cause_on trail x ≡ None
cause_none [] x e = refl
cause_none (p ∷ trail) x e =
    ⊎_elim (λ t. absurd (let g : Some p.literal.positive ≡ None = sym (value_here p trail x t) ∙ e in cc))
    (λ f. cause_past p trail x f ∙ cause_none trail x (sym (value_past p trail x f) ∙ e))
    (cases_Bool (nat_eq p.literal.variable x))

-- levels are few
pub level_few : (before : ℕ) (trail : Trail) → last_level_from before trail ≤ before + length trail
level_few before [] = omega arith
level_few before (p ∷ trail) =
    let now = level_after before p in
    let one : now ≤ suc before = cond_both (is_decision p.cause) (suc before) before (λ n. n ≤ suc before)
    (λ t. omega arith) (λ f. omega arith) in
    let later : last_level_from now trail ≤ now + length trail = level_few now trail in
    omega arith

-- the table

spot_set_same : (spots : List (Option Spot)) (i : ℕ) (o : Option Spot) → i < length spots → spot_at (set spots i o)
    (suc i) ≡ o
spot_set_same spots i o h = get_or-set_same spots i o None h

spot_set_other : (spots : List (Option Spot)) (i x : ℕ) (o : Option Spot) → (suc i ≡ x → ⊥)
    → spot_at (set spots i o) x ≡ spot_at spots x
spot_set_other spots i zero o differs = refl
spot_set_other spots i (suc j) o differs = get_or-set_other spots i j o None (λ e. differs (ap suc (sym e)))

-- one more spot, or one fewer
count_more : (spots : List (Option Spot)) (i : ℕ) (s : Spot) → i < length spots → spot_at spots (suc i) ≡ None
    → count_by is_some (set spots i (Some s)) ≡ count_by is_some spots + 1
count_more spots i s h e =
    let none : cond {A = ℕ} (is_some (get_or spots i None)) 1 0 ≡ 0 = rw e refl in
    omega (arith, none, sum_by-set (λ (o : Option Spot). cond {A = ℕ} (is_some o) 1 0) spots i (Some s) None h)

count_less : (spots : List (Option Spot)) (i : ℕ) (s : Spot) → i < length spots → spot_at spots (suc i) ≡ Some s
    → count_by is_some (set spots i None) + 1 ≡ count_by is_some spots
count_less spots i s h e =
    let one : cond {A = ℕ} (is_some (get_or spots i None)) 1 0 ≡ 1 = rw e refl in
    omega (arith, one, sum_by-set (λ (o : Option Spot). cond {A = ℕ} (is_some o) 1 0) spots i None None h)

-- a spot that is there is within the table
pub spot_within : (spots : List (Option Spot)) (i : ℕ) (s : Spot) → spot_at spots (suc i) ≡ Some s → i < length spots
spot_within spots i s e =
    ⊎_elim (λ below. below) (λ above. absurd (let g : None ≡ Some s = sym (get_or_past spots i None above) ∙ e in cc))
    (cases_lt i (length spots))

trail_more : (entries : List Entry) (e : Entry) → trail_of (entries ++ e ∷ []) ≡ trail_of entries ++ placed_of e ∷ []
trail_more entries e = map-append placed_of entries (e ∷ [])

pub table_more : (entries : List Entry) (e : Entry) (spots : List (Option Spot)) (capacity larger i : ℕ) (s : Spot)
    → IsTable entries spots capacity → capacity ≤ larger → e.lit.variable ≡ suc i → i < length spots
    → value_on (trail_of entries) e.lit.variable ≡ None → e.level ≡ level_after (last_level (trail_of entries))
    (placed_of e) → s ≡ record { value = e.lit.positive; place = length entries } → IsTable (entries ++ e ∷ [])
    (set spots i (Some s)) larger
table_more entries e spots capacity larger i s table grows is within fresh level spot =
    let trail = trail_of entries in
    let p = placed_of e in
    let more = trail_more entries e in
    let long : length trail ≡ length entries = length-map entries placed_of in
    let long_spots = length-set spots i (Some s) in
    let pushed = length_push entries e in
    let filled = table.filled in
    let room = table.room in
    let free : spot_at spots (suc i) ≡ None = ap (spot_at spots) (sym is)
    ∙ (table.found e.lit.variable ∙ spot_none trail e.lit.variable fresh) in
    let count = count_more spots i s within free in
    record {
      found = λ x. ⊎_elim
          (λ (same : suc i ≡ x).
          ap (spot_at (set spots i (Some s))) (sym same)
          ∙ (spot_set_same spots i (Some s) within
          ∙ (ap Some (spot ∙ at_end (sym long))
          ∙ (sym (spot_last trail p fresh)
          ∙ (ap (spot_on (trail ++ p ∷ [])) (is ∙ same) ∙ ap (λ t. spot_on t x) (sym more))))))
          (λ differs.
          spot_set_other spots i x (Some s) differs
          ∙ (table.found x ∙ (sym (spot_other trail p x (λ k. differs (sym is ∙ k))) ∙ ap (λ t. spot_on t x)
          (sym more))))
          (cases_eq (suc i) x);
      once = rw more (once_more trail p fresh table.once);
      leveled = leveled_more 0 entries e table.leveled level;
      filled = omega arith;
      room = omega arith;
    }
  where
    at_end : {m n : ℕ} → m ≡ n → ◌≡◌ {A = Spot} (record { value = e.lit.positive; place = m })
        (record { value = e.lit.positive; place = n })
    at_end h = λ j. record { value = e.lit.positive; place = h j }

pub table_less : (entries : List Entry) (e : Entry) (spots : List (Option Spot)) (capacity i : ℕ)
    → IsTable (entries ++ e ∷ []) spots capacity → e.lit.variable ≡ suc i → (i < length spots)
    × IsTable entries (set spots i None) capacity
table_less entries e spots capacity i table is =
    let trail = trail_of entries in
    let p = placed_of e in
    let more = trail_more entries e in
    let once : IsOnce (trail ++ p ∷ []) = rw (← more) table.once in
    let fresh = last_new trail p once in
    let spot : spot_at spots (suc i) ≡ Some (record { value = e.lit.positive; place = length trail }) =
    ap (spot_at spots) (sym is)
    ∙ (table.found e.lit.variable ∙ (ap (λ t. spot_on t e.lit.variable) more ∙ spot_last trail p fresh)) in
    let within = spot_within spots i (record { value = e.lit.positive; place = length trail }) spot in
    let long_spots = length-set spots i None in
    let pushed = length_push entries e in
    let filled = table.filled in
    let room = table.room in
    let count = count_less spots i (record { value = e.lit.positive; place = length trail }) within spot in (
      within,
      record {
        found = λ x. ⊎_elim
            (λ (same : suc i ≡ x).
            ap (spot_at (set spots i None)) (sym same)
            ∙ (spot_set_same spots i None within
            ∙ (sym (spot_none trail e.lit.variable fresh) ∙ ap (spot_on trail) (is ∙ same))))
            (λ differs.
            spot_set_other spots i x None differs
            ∙ (table.found x ∙ (ap (λ t. spot_on t x) more ∙ spot_other trail p x (λ k. differs (sym is ∙ k)))))
            (cases_eq (suc i) x);
        once = once_less trail p once;
        leveled = leveled_less 0 entries e table.leveled;
        filled = omega arith;
        room = omega arith;
      },
    )

-- the same, of a list of entries that is known by an equation
pub table_popped : (all entries : List Entry) (e : Entry) (spots : List (Option Spot)) (capacity same i : ℕ)
    → all ≡ entries ++ e ∷ [] → same ≡ capacity → IsTable all spots capacity → e.lit.variable ≡ suc i
    → (i < length spots) × IsTable entries (set spots i None) same
table_popped all entries e spots capacity same i parts equal table is =
    let whole : IsTable (entries ++ e ∷ []) spots capacity = rw parts at table in
    rw equal (table_less entries e spots capacity i whole is)

pub table_pushed : (all entries : List Entry) (e : Entry) (spots : List (Option Spot)) (capacity larger i : ℕ)
    (s : Spot) → all ≡ entries ++ e ∷ [] → IsTable entries spots capacity → capacity ≤ larger → e.lit.variable ≡ suc i
    → i < length spots → value_on (trail_of entries) e.lit.variable ≡ None → e.level ≡ level_after
    (last_level (trail_of entries)) (placed_of e) → s ≡ record { value = e.lit.positive; place = length entries }
    → IsTable all (set spots i (Some s)) larger
table_pushed all entries e spots capacity larger i s parts table grows is within fresh level spot =
    rw parts (table_more entries e spots capacity larger i s table grows is within fresh level spot)

-- there is room for one more
pub spots_left : (entries : List Entry) (spots : List (Option Spot)) (capacity i : ℕ) → IsTable entries spots capacity
    → i < length spots → spot_at spots (suc i) ≡ None → length entries < length spots
spots_left entries spots capacity i table within free =
    let filled = table.filled in
    let d : Spot = record { value = true; place = 0 } in
    let count = count_more spots i d within free in
    let most : count_by is_some (set spots i (Some d)) ≤ length (set spots i (Some d)) = count_by-le-length is_some
    (set spots i (Some d)) in
    let long = length-set spots i (Some d) in
    omega arith

pub room_left : (entries : List Entry) (spots : List (Option Spot)) (capacity i : ℕ) → IsTable entries spots capacity
    → i < length spots → spot_at spots (suc i) ≡ None → length entries < capacity
room_left entries spots capacity i table within free =
    let left = spots_left entries spots capacity i table within free in
    omega (arith, table.room)

-- the literal at a place
pub literal_at : (entries : List Entry) (k : ℕ) (e : Entry) → k < length entries → e ≡ get_or entries k e
    → slice_get (literals_on (trail_of entries)) k ≡ Some e.lit
literal_at [] k e h at = absurd (omega arith)
literal_at (x ∷ entries) zero e h at = ap (λ (y : Entry). Some y.lit) (sym at)
literal_at (x ∷ entries) (suc k) e h at = literal_at entries k e (omega arith) at

pub placed_at : (entries : List Entry) (k : ℕ) (e : Entry) → k < length entries → e ≡ get_or entries k e
    → slice_get (trail_of entries) k ≡ Some (placed_of e)
placed_at [] k e h at = absurd (omega arith)
placed_at (x ∷ entries) zero e h at = ap (λ (y : Entry). Some (placed_of y)) (sym at)
placed_at (x ∷ entries) (suc k) e h at = placed_at entries k e (omega arith) at

-- the level at a place is that of the trail up to it
level_at_place : (before : ℕ) (entries : List Entry) (j : ℕ) (d : Entry) → AreLeveled before entries
    → j < length entries → (get_or entries j d).level ≡ last_level_from before (trail_of (take (suc j) entries))
level_at_place before [] j d h below = absurd (omega arith)
level_at_place before (e ∷ entries) zero d h below = h.0
level_at_place before (e ∷ entries) (suc j) d h below =
    level_at_place e.level entries j d h.1 (omega arith) ∙ ap (λ n. last_level_from n (trail_of (take (suc j) entries)))
    h.0

-- the length of a cut, from the end
pub record IsCutLength (level : ℕ) (entries : List Entry) (len : ℕ) : Type 0 where
  pub within : len ≤ length entries
  pub same : length (cut_trail level (trail_of (take len entries))) ≡ length (cut_trail level (trail_of entries))

pub cut_length_first : (level : ℕ) (entries : List Entry) → IsCutLength level entries (length entries)
cut_length_first level entries = record {
  within = omega arith;
  same = ap (λ t. length (cut_trail level (trail_of t))) (take-length entries);
}

pub cut_length_less : (level : ℕ) (entries : List Entry) (len j : ℕ) (e : Entry) → IsCutLength level entries len
    → AreLeveled 0 entries → len ≡ suc j → e ≡ get_or entries j e → level < e.level → IsCutLength level entries j
cut_length_less level entries len j e before leveled next is high =
    let within = before.within in
    let below : j < length entries = omega arith in
    let all : take len entries ≡ take j entries ++ e ∷ [] = ap (λ n. take n entries) next
    ∙ (take-suc entries j e below ∙ ap (λ x. take j entries ++ x ∷ []) (sym is)) in
    let parts : trail_of (take len entries) ≡ trail_of (take j entries) ++ placed_of e ∷ [] = ap trail_of all
    ∙ map-append placed_of (take j entries) (e ∷ []) in
    let top : e.level ≡ last_level (trail_of (take j entries) ++ placed_of e ∷ []) = ap (λ (x : Entry). x.level) is
    ∙ (level_at_place 0 entries j e leveled below ∙ (ap (λ n. last_level (trail_of (take n entries))) (sym next)
    ∙ ap last_level parts)) in
    let above : level < last_level (trail_of (take j entries) ++ placed_of e ∷ []) = rw (← top) high in
    let cut : cut_trail level (trail_of (take len entries)) ≡ cut_trail level (trail_of (take j entries)) =
    ap (cut_trail level) parts ∙ cut_more 0 level (trail_of (take j entries)) (placed_of e) above in
    record { within = omega arith; same = sym (ap length cut) ∙ before.same }

pub cut_length_found : (level : ℕ) (entries : List Entry) (len j : ℕ) (e : Entry) → IsCutLength level entries len
    → AreLeveled 0 entries → len ≡ suc j → e ≡ get_or entries j e → e.level ≤ level
    → len ≡ length (cut_trail level (trail_of entries))
cut_length_found level entries len j e before leveled next is low =
    let within = before.within in
    let below : j < length entries = omega arith in
    let top : e.level ≡ last_level (trail_of (take len entries)) = ap (λ (x : Entry). x.level) is
    ∙ (level_at_place 0 entries j e leveled below ∙ ap (λ n. last_level (trail_of (take n entries))) (sym next)) in
    let under : last_level (trail_of (take len entries)) ≤ level = rw (← top) low in
    let whole : length (cut_trail level (trail_of (take len entries))) ≡ length (trail_of (take len entries)) =
    ap length (cut_all 0 level (trail_of (take len entries)) under) in
    let long : length (trail_of (take len entries)) ≡ length (take len entries) = length-map (take len entries)
    placed_of in
    let taken : length (take len entries) ≡ len = length-take-le len entries within in
    sym (sym before.same ∙ (whole ∙ (long ∙ taken)))

pub cut_length_none : (level : ℕ) (entries : List Entry) (len : ℕ) → IsCutLength level entries len → len ≤ 0
    → len ≡ length (cut_trail level (trail_of entries))
cut_length_none level entries len before low =
    let none : len ≡ 0 = omega arith in
    let empty : length (cut_trail level (trail_of (take len entries))) ≡ 0 =
    ap (λ n. length (cut_trail level (trail_of (take n entries)))) none in
    none ∙ (sym empty ∙ before.same)

-- each placed variable has a value
value_some : (trail : Trail) (k : ℕ) (d : Placed) → k < length trail
    → is_some (value_on trail (get_or trail k d).literal.variable) ≡ true
value_some [] k d below = absurd (omega arith)
value_some (p ∷ rest) zero d below =
    ap is_some (value_here p rest p.literal.variable (eq-eqb p.literal.variable p.literal.variable refl))
value_some (p ∷ rest) (suc k) d below =
    let x = (get_or rest k d).literal.variable in
    ⊎_elim (λ t. ap is_some (value_here p rest x t)) (λ f. ap is_some (value_past p rest x f) ∙ value_some rest k d
    (omega arith)) (cases_Bool (nat_eq p.literal.variable x))

-- there is room for what is on a table
pub table_room : (entries : List Entry) (spots : List (Option Spot)) (capacity : ℕ) → IsTable entries spots capacity
    → (length (trail_of entries) ≤ length spots) × All (λ (p : Placed). p.literal.variable ≤ length spots)
    (trail_of entries)
table_room entries spots capacity table =
    let filled = table.filled in
    let most : count_by is_some spots ≤ length spots = count_by-le-length is_some spots in
    let long : length (trail_of entries) ≡ length entries = length-map entries placed_of in (
      omega arith,
      λ k d below. within (get_or (trail_of entries) k d).literal.variable
          (value_on (trail_of entries) (get_or (trail_of entries) k d).literal.variable) refl
          (value_some (trail_of entries) k d below),
    )
  where
    spotted : (x : ℕ) (s : Spot) → spot_at spots x ≡ Some s → x ≤ length spots
    spotted zero s e = omega arith
    spotted (suc i) s e = let h : i < length spots = spot_within spots i s e in omega arith

    within : (x : ℕ) (o : Option Bool) → value_on (trail_of entries) x ≡ o → is_some o ≡ true → x ≤ length spots
    within x None e t = absurd (false≢true t)
    within x (Some b) e t = spotted x (record { value = b; place = place_on (trail_of entries) x })
        (table.found x ∙ ap (option_map (λ c. record { value = c; place = place_on (trail_of entries) x })) e)
