-- Groups by number, in a list that ascends by it.
use Rattle.std.proofs.Common.{◌≡◌, ℕ, zero, suc, ◌-◌, ◌<◌, ◌≤◌, Bool, true, false, List, [], ◌∷◌, ◌++◌, length, map, take, drop, set, get_or, Option, Some, None, Result, Ok, Err, IfOk, IfErr, refl, sym, ap, ap₂, ◌∙◌, subst, arith}
use Rattle.std.specs.Prelude.{◌==◌, nat_lt, option_map, if◌then◌else◌, slice_get}
use Rattle.std.specs.List.{AllByRecursion}
use Rattle.std.specs.List.Sorted.{IsBinarySearchResult, IsSearchInRange}
use Rattle.std.specs.Ordering.{nat_cmp, ordering_index}
use Rattle.std.proofs.lemmas.Bool.{cond-true, cond-false, eq-eqb, eqb-true, ne_eqb, lt-ltb, le-ltb}
use Rattle.std.proofs.lemmas.Bool.Decides.{nat_tests}
use Rattle.std.proofs.lemmas.Cmp.{ranked}
use Rattle.std.proofs.lemmas.Option.{slice_get-get_or}
use Rattle.calculus.specs.Rows.{Row}
use Rattle.frames.specs.Groups.{AreRising, Group, group_at, grown, marked, new_group, with_clause_at, with_group}
use Rattle.frames.specs.Places.{IsGapFor, IsGroupAt, joined, shortened, shrunk}
use Rattle.frames.proofs.Starts.{all_but_last}

pub all_get : {X : Type 0} (P : X → Type 0) (xs : List X) (i : ℕ) (x : X) → AllByRecursion P xs
    → slice_get xs i ≡ Some x → P x
all_get P [] i x all e = absurd (let f : None ≡ Some x = e in cc)
all_get P (y ∷ ys) zero x all e = subst P (let f : Some y ≡ Some x = e in (let g : y ≡ x = cc in g)) all.0
all_get P (y ∷ ys) (suc i) x all e = all_get P ys i x all.1 e

-- the group of a number

pub at_place : (gs : List Group) (n i : ℕ) (g : Group) → AreRising gs → slice_get gs i ≡ Some g → g.number ≡ n
    → group_at gs n ≡ Some g
at_place [] n i g rising e is = absurd (let f : None ≡ Some g = e in cc)
at_place (h ∷ gs) n zero g rising e is =
    let f : Some h ≡ Some g = e in
    let same : h ≡ g = cc in
    cond-true (h.number == n) (Some h) (group_at gs n)
    (eq-eqb h.number n (ap (λ (k : Group). k.number) same ∙ is)) ∙ e
at_place (h ∷ gs) n (suc i) g rising e is =
    let less : h.number < g.number = all_get (λ (k : Group). h.number < k.number) gs i g rising.0 e in
    cond-false (h.number == n) (Some h) (group_at gs n) (ne_eqb h.number n (λ f. omega (arith, less, is, f)))
    ∙ at_place gs n i g rising.1 e is

-- none of them has this number
abbrev pub AreOthers : ℕ → List Group → Type 0
AreOthers n gs = AllByRecursion (λ (g : Group). g.number ≡ n → ⊥) gs

above_others : (n : ℕ) (gs : List Group) → AllByRecursion (λ (g : Group). n < g.number) gs → AreOthers n gs
above_others n [] all = tt
above_others n (g ∷ gs) all =
    let high : n < g.number = all.0 in
    (λ e. omega (arith, high, e), above_others n gs all.1)

pub gap_others : (gs : List Group) (n i : ℕ) → AllByRecursion (λ (g : Group). g.number < n) (take i gs)
    → AllByRecursion (λ (g : Group). n < g.number) (drop i gs) → AreOthers n gs
gap_others [] n i before behind = tt
gap_others (g ∷ gs) n zero before behind = above_others n (g ∷ gs) behind
gap_others (g ∷ gs) n (suc i) before behind =
    let low : g.number < n = before.0 in
    (λ e. omega (arith, low, e), gap_others gs n i before.1 behind)

pub none_at : (gs : List Group) (n : ℕ) → AreOthers n gs → group_at gs n ≡ None
none_at [] n all = refl
none_at (g ∷ gs) n all =
    cond-false (g.number == n) (Some g) (group_at gs n) (ne_eqb g.number n all.0) ∙ none_at gs n all.1

-- a group that is put in

passed : (h : Group) (gs : List Group) (n : ℕ) → h.number < n → with_group n (h ∷ gs) ≡ h ∷ with_group n gs
passed h gs n less =
    cond-false (nat_lt n h.number) (new_group n ∷ h ∷ gs) (if h.number == n then h ∷ gs else h ∷ with_group n gs)
    (le-ltb n h.number (omega (arith, less)))
    ∙ cond-false (h.number == n) (h ∷ gs) (h ∷ with_group n gs) (ne_eqb h.number n (λ e. omega (arith, less, e)))

pub group_there : (gs : List Group) (n i : ℕ) (g : Group) → AreRising gs → slice_get gs i ≡ Some g → g.number ≡ n
    → with_group n gs ≡ gs
group_there [] n i g rising e is = absurd (let f : None ≡ Some g = e in cc)
group_there (h ∷ gs) n zero g rising e is =
    let f : Some h ≡ Some g = e in
    let same : h ≡ g = cc in
    let here : h.number ≡ n = ap (λ (k : Group). k.number) same ∙ is in
    cond-false (nat_lt n h.number) (new_group n ∷ h ∷ gs) (if h.number == n then h ∷ gs else h ∷ with_group n gs)
    (le-ltb n h.number (omega (arith, here)))
    ∙ cond-true (h.number == n) (h ∷ gs) (h ∷ with_group n gs) (eq-eqb h.number n here)
group_there (h ∷ gs) n (suc i) g rising e is =
    let less : h.number < g.number = all_get (λ (k : Group). h.number < k.number) gs i g rising.0 e in
    passed h gs n (omega (arith, less, is)) ∙ ap (λ (t : List Group). h ∷ t) (group_there gs n i g rising.1 e is)

pub group_new : (gs : List Group) (n i : ℕ) → AllByRecursion (λ (g : Group). g.number < n) (take i gs)
    → AllByRecursion (λ (g : Group). n < g.number) (drop i gs)
    → with_group n gs ≡ take i gs ++ new_group n ∷ drop i gs
group_new [] n zero before behind = refl
group_new [] n (suc i) before behind = refl
group_new (g ∷ gs) n zero before behind =
    cond-true (nat_lt n g.number) (new_group n ∷ g ∷ gs) (if g.number == n then g ∷ gs else g ∷ with_group n gs)
    (lt-ltb n g.number behind.0)
group_new (g ∷ gs) n (suc i) before behind =
    passed g gs n before.0 ∙ ap (λ (t : List Group). g ∷ t) (group_new gs n i before.1 behind)

pub new_place : (gs : List Group) (g : Group) (i : ℕ) → i ≤ length gs
    → slice_get (take i gs ++ g ∷ drop i gs) i ≡ Some g
new_place [] g zero low = refl
new_place [] g (suc i) low = absurd (omega (arith, low))
new_place (h ∷ gs) g zero low = refl
new_place (h ∷ gs) g (suc i) low = new_place gs g i (omega (arith, low))

all_above : (n m : ℕ) (gs : List Group) → n < m → AllByRecursion (λ (h : Group). m < h.number) gs
    → AllByRecursion (λ (h : Group). n < h.number) gs
all_above n m [] less all = tt
all_above n m (g ∷ gs) less all =
    let high : m < g.number = all.0 in
    (omega (arith, less, high), all_above n m gs less all.1)

all_inserted : (P : Group → Type 0) (gs : List Group) (g : Group) (i : ℕ) → P g → AllByRecursion P gs
    → AllByRecursion P (take i gs ++ g ∷ drop i gs)
all_inserted P [] g zero p all = (p, tt)
all_inserted P [] g (suc i) p all = (p, tt)
all_inserted P (h ∷ gs) g zero p all = (p, all)
all_inserted P (h ∷ gs) g (suc i) p all = (all.0, all_inserted P gs g i p all.1)

pub rising_inserted : (gs : List Group) (n i : ℕ) → AreRising gs
    → AllByRecursion (λ (g : Group). g.number < n) (take i gs)
    → AllByRecursion (λ (g : Group). n < g.number) (drop i gs) → AreRising (take i gs ++ new_group n ∷ drop i gs)
rising_inserted [] n zero rising before behind = (tt, tt)
rising_inserted [] n (suc i) rising before behind = (tt, tt)
rising_inserted (g ∷ gs) n zero rising before behind = (behind, rising)
rising_inserted (g ∷ gs) n (suc i) rising before behind = (
  all_inserted (λ (h : Group). g.number < h.number) gs (new_group n) i before.0 rising.0,
  rising_inserted gs n i rising.1 before.1 behind,
)

-- changes of the group of a number alone, which leave the numbers

abbrev pub KeepsNumbers : (Group → Group) → Type 0
KeepsNumbers f = (g : Group) → (f g).number ≡ g.number

abbrev pub KeepsOthers : ℕ → (Group → Group) → Type 0
KeepsOthers n f = (g : Group) → (g.number ≡ n → ⊥) → f g ≡ g

if_number : (b : Bool) (g h : Group) → g.number ≡ h.number → (if b then g else h).number ≡ h.number
if_number true g h e = e
if_number false g h e = refl

pub marked_numbers : (active : Bool) (n : ℕ) → KeepsNumbers (marked active n)
marked_numbers active n g = if_number (g.number == n) (record g { active = active }) g refl

pub marked_others : (active : Bool) (n : ℕ) → KeepsOthers n (marked active n)
marked_others active n g apart = cond-false (g.number == n) (record g { active = active }) g (ne_eqb g.number n apart)

pub marked_one : (active : Bool) (n : ℕ) (g : Group) → g.number ≡ n → marked active n g ≡ record g { active = active }
marked_one active n g is = cond-true (g.number == n) (record g { active = active }) g (eq-eqb g.number n is)

pub grown_numbers : (row : Row) (n : ℕ) → KeepsNumbers (grown row n)
grown_numbers row n g = if_number (g.number == n) (record g { clauses = g.clauses ++ row ∷ [] }) g refl

pub grown_others : (row : Row) (n : ℕ) → KeepsOthers n (grown row n)
grown_others row n g apart =
    cond-false (g.number == n) (record g { clauses = g.clauses ++ row ∷ [] }) g (ne_eqb g.number n apart)

pub grown_one : (row : Row) (n : ℕ) (g : Group) → g.number ≡ n
    → grown row n g ≡ record g { clauses = g.clauses ++ row ∷ [] }
grown_one row n g is =
    cond-true (g.number == n) (record g { clauses = g.clauses ++ row ∷ [] }) g (eq-eqb g.number n is)

abbrev pub front_of : Group → Group
front_of g = record g { clauses = take (length g.clauses - 1) g.clauses }

pub shrunk_numbers : (n : ℕ) → KeepsNumbers (shrunk n)
shrunk_numbers n g = if_number (g.number == n) (front_of g) g refl

pub shrunk_others : (n : ℕ) → KeepsOthers n (shrunk n)
shrunk_others n g apart = cond-false (g.number == n) (front_of g) g (ne_eqb g.number n apart)

pub shrunk_one : (n : ℕ) (g : Group) → g.number ≡ n → shrunk n g ≡ front_of g
shrunk_one n g is = cond-true (g.number == n) (front_of g) g (eq-eqb g.number n is)

pub others_stay : (f : Group → Group) (n : ℕ) → KeepsOthers n f → (gs : List Group) → AreOthers n gs → map f gs ≡ gs
others_stay f n keeps [] all = refl
others_stay f n keeps (g ∷ gs) all =
    ap₂ (λ (x : Group) (xs : List Group). x ∷ xs) (keeps g all.0) (others_stay f n keeps gs all.1)

-- those behind the group of a number
above_stay : (f : Group → Group) (n m : ℕ) → KeepsOthers n f → m ≡ n → (gs : List Group)
    → AllByRecursion (λ (g : Group). m < g.number) gs → map f gs ≡ gs
above_stay f n m keeps is gs all =
    others_stay f n keeps gs (above_others n gs (subst (λ k. AllByRecursion (λ (g : Group). k < g.number) gs) is all))

pub changed_at : (f : Group → Group) (n : ℕ) → KeepsOthers n f → (gs : List Group) (i : ℕ) (g h : Group) → AreRising gs
    → slice_get gs i ≡ Some g → g.number ≡ n → f g ≡ h → set gs i h ≡ map f gs
changed_at f n keeps [] i g h rising e is to = absurd (let c : None ≡ Some g = e in cc)
changed_at f n keeps (k ∷ gs) zero g h rising e is to =
    let c : Some k ≡ Some g = e in
    let same : k ≡ g = cc in
    ap₂ (λ (x : Group) (xs : List Group). x ∷ xs) (sym to ∙ ap f (sym same))
    (sym (above_stay f n k.number keeps (ap (λ (x : Group). x.number) same ∙ is) gs rising.0))
changed_at f n keeps (k ∷ gs) (suc i) g h rising e is to =
    let less : k.number < g.number = all_get (λ (x : Group). k.number < x.number) gs i g rising.0 e in
    ap₂ (λ (x : Group) (xs : List Group). x ∷ xs) (sym (keeps k (λ c. absurd (omega (arith, less, is, c)))))
    (changed_at f n keeps gs i g h rising.1 e is to)

-- and the way back
pub changed_back : (f : Group → Group) (n : ℕ) → KeepsOthers n f → (gs : List Group) (i : ℕ) (g h : Group)
    → AreRising gs → slice_get gs i ≡ Some g → g.number ≡ n → f h ≡ g → map f (set gs i h) ≡ gs
changed_back f n keeps [] i g h rising e is to = absurd (let c : None ≡ Some g = e in cc)
changed_back f n keeps (k ∷ gs) zero g h rising e is to =
    let c : Some k ≡ Some g = e in
    let same : k ≡ g = cc in
    ap₂ (λ (x : Group) (xs : List Group). x ∷ xs) (to ∙ sym same)
    (above_stay f n k.number keeps (ap (λ (x : Group). x.number) same ∙ is) gs rising.0)
changed_back f n keeps (k ∷ gs) (suc i) g h rising e is to =
    let less : k.number < g.number = all_get (λ (x : Group). k.number < x.number) gs i g rising.0 e in
    ap₂ (λ (x : Group) (xs : List Group). x ∷ xs) (keeps k (λ c. absurd (omega (arith, less, is, c))))
    (changed_back f n keeps gs i g h rising.1 e is to)

above_kept : (f : Group → Group) → KeepsNumbers f → (gs : List Group) (n m : ℕ) → n ≡ m
    → AllByRecursion (λ (h : Group). m < h.number) gs → AllByRecursion (λ (h : Group). n < h.number) (map f gs)
above_kept f keeps [] n m is all = tt
above_kept f keeps (g ∷ gs) n m is all =
    let high : m < g.number = all.0 in
    let same : (f g).number ≡ g.number = keeps g in
    (omega (arith, is, high, same), above_kept f keeps gs n m is all.1)

pub rising_kept : (f : Group → Group) → KeepsNumbers f → (gs : List Group) → AreRising gs → AreRising (map f gs)
rising_kept f keeps [] rising = tt
rising_kept f keeps (g ∷ gs) rising =
    (above_kept f keeps gs (f g).number g.number (keeps g) rising.0, rising_kept f keeps gs rising.1)

pub number_kept : (f : Group → Group) → KeepsNumbers f → (gs : List Group) (i : ℕ)
    → option_map (λ (g : Group). g.number) (slice_get (map f gs) i)
    ≡ option_map (λ (g : Group). g.number) (slice_get gs i)
number_kept f keeps [] i = refl
number_kept f keeps (g ∷ gs) zero = ap Some (keeps g)
number_kept f keeps (g ∷ gs) (suc i) = number_kept f keeps gs i

-- a clause that is put in and taken out again

group_back : (row : Row) (n : ℕ) (g : Group) → shrunk n (grown row n g) ≡ g
group_back row n g = by (g.number == n) refl
  where
    by : (b : Bool) → (g.number == n) ≡ b → shrunk n (grown row n g) ≡ g
    by true e =
        let is : g.number ≡ n = eqb-true g.number n e in
        ap (shrunk n) (grown_one row n g is)
        ∙ shrunk_one n (record g { clauses = g.clauses ++ row ∷ [] }) is
        ∙ ap (λ (rows : List Row). record g { clauses = rows }) (all_but_last g.clauses row)
    by false e =
        let apart : g.number ≡ n → ⊥ = λ f. absurd (let d : true ≡ false = sym (eq-eqb g.number n f) ∙ e in cc) in
        ap (shrunk n) (grown_others row n g apart) ∙ shrunk_others n g apart

groups_back : (row : Row) (n : ℕ) (gs : List Group) → map (shrunk n) (with_clause_at row n gs) ≡ gs
groups_back row n [] = refl
groups_back row n (g ∷ gs) =
    ap₂ (λ (x : Group) (xs : List Group). x ∷ xs) (group_back row n g) (groups_back row n gs)

pub joined_back : (current : Option ℕ) (row : Row) (gs : List Group) → shortened current (joined current row gs) ≡ gs
joined_back None row gs = refl
joined_back (Some n) row gs = groups_back row n gs

-- what a search by number finds

all_at_least : (gs : List Group) (n i : ℕ) (d : Group) → AllByRecursion (λ (g : Group). n < g.number) gs
    → i < length gs → n < (get_or gs i d).number
all_at_least [] n i d all low = absurd (omega (arith, low))
all_at_least (g ∷ gs) n zero d all low = all.0
all_at_least (g ∷ gs) n (suc i) d all low = all_at_least gs n i d all.1 (omega (arith, low))

rises : (gs : List Group) (i j : ℕ) (d : Group) → AreRising gs → i ≤ j → j < length gs
    → (get_or gs i d).number ≤ (get_or gs j d).number
rises [] i j d rising le low = absurd (omega (arith, low))
rises (g ∷ gs) zero zero d rising le low = omega arith
rises (g ∷ gs) zero (suc j) d rising le low =
    let less : g.number < (get_or gs j d).number = all_at_least gs g.number j d rising.0 (omega (arith, low)) in
    omega (arith, less)
rises (g ∷ gs) (suc i) zero d rising le low = absurd (omega (arith, le))
rises (g ∷ gs) (suc i) (suc j) d rising le low = rises gs i j d rising.1 (omega (arith, le)) (omega (arith, low))

compared : (a b n : ℕ) → a ≤ b → ordering_index (nat_cmp a n) ≤ ordering_index (nat_cmp b n)
compared a b n le = grind (arith, nat_tests, le)

all_taken_at : (P : Group → Type 0) (gs : List Group) (i : ℕ)
    → ((k : ℕ) (d : Group) → k < i → k < length gs → P (get_or gs k d)) → AllByRecursion P (take i gs)
all_taken_at P gs zero h = tt
all_taken_at P [] (suc i) h = tt
all_taken_at P (g ∷ gs) (suc i) h = (
  h 0 g (omega arith) (omega arith),
  all_taken_at P gs i (λ k d low within. h (suc k) d (omega (arith, low)) (omega (arith, within))),
)

all_left_at : (P : Group → Type 0) (gs : List Group) (i : ℕ)
    → ((k : ℕ) (d : Group) → i ≤ k → k < length gs → P (get_or gs k d)) → AllByRecursion P (drop i gs)
all_left_at P [] zero h = tt
all_left_at P [] (suc i) h = tt
all_left_at P (g ∷ gs) zero h = (
  h 0 g (omega arith) (omega arith),
  all_left_at P gs zero (λ k d low within. h (suc k) d (omega arith) (omega (arith, within))),
)
all_left_at P (g ∷ gs) (suc i) h =
    all_left_at P gs i (λ k d low within. h (suc k) d (omega (arith, low)) (omega (arith, within)))

pub searched : (gs : List Group) (n : ℕ) (r : Result ℕ ℕ) → AreRising gs → IsSearchInRange r (length gs)
    → IsBinarySearchResult (λ (g : Group). nat_cmp g.number n) gs r
    → IfOk r (IsGroupAt gs n) × IfErr r (IsGapFor gs n)
searched gs n (Ok at) rising within equal = (
  record {
    group = get_or gs at (new_group 0);
    there = slice_get-get_or gs at (new_group 0) within;
    numbered = ranked _ n _ (sym (equal (new_group 0)));
  },
  tt,
)
searched gs n (Err at) rising within parted =
    let parts = parted (λ i j d le low. compared _ _ n (rises gs i j d rising le low)) in (
      tt,
      record {
        within = within;
        before = all_taken_at (λ (g : Group). g.number < n) gs at
            (λ k d low inside. ranked _ n _ (sym (parts.0 k d (omega arith) low)));
        behind = all_left_at (λ (g : Group). n < g.number) gs at
            (λ k d low inside. ranked _ n _ (sym (parts.1 k d low inside)));
      },
    )
