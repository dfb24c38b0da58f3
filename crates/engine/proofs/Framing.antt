-- The open clauses of a search by their tags, and those of the formula: frames by number, and groups behind them.
use Rattle.std.proofs.Common.{◌≡◌, ◌≤◌, ◌<◌, ◌⊎◌, inl, inr, ⊎_elim, ℕ, zero, suc, ◌+◌, ◌-◌, Bool, cond, true, false, not, List, [], ◌∷◌, ◌++◌, map, length, take, Option, Some, None, arith, refl, sym, ap, ap₂, ◌∙◌, subst}
use Rattle.std.specs.Prelude.{Contains, filter, ◌==◌, ◌||◌, nat_le, nat_lt, if◌then◌else◌, option_map, unwrap_or}
use Rattle.std.specs.List.{AllByRecursion}
use Rattle.std.proofs.lemmas.Bool.{cond-false, cond-true, eq-eqb, eqb-true, ne_eqb}
use Rattle.std.proofs.lemmas.Bool.Decides.{nat_tests}
use Rattle.std.proofs.lemmas.List.{append-nil, map-append}
use Rattle.std.proofs.lemmas.List.Elements.{Contains-append_cases, Contains-append_left, Contains-append_right, filter-append}
use Rattle.calculus.specs.Rows.{Row}
use Rattle.calculus.proofs.Lists.{all_behind, all_front, contains_head, contains_map, contains_map_of, contains_nil, contains_tail, filter_at, filter_from, filter_same}
use Rattle.calculus.specs.Derivations.{IsDerivation}
use Rattle.derive.specs.State.{OpenClause, State, clauses_of, open_clauses as clauses_in_search, steps_of}
use Rattle.derive.proofs.Legality.{served}
use Rattle.frames.specs.Commands.{max_pushed, with_row_at}
use Rattle.frames.specs.Groups.{AreRising, Group, active_in, active_of, clauses_at, group_at, grouped_in, grown, is_active, marked, new_group, with_clause_at, with_group, with_mark}
use Rattle.frames.specs.State.{Frame, OpenFormula, clauses_in, depth, open_clauses, popped, pushed, with_leaving, with_row}
use Rattle.frames.proofs.Grouping.{KeepsNumbers, KeepsOthers, grown_numbers, grown_others, marked_numbers, marked_others, rising_kept}
use Rattle.search.specs.Changing.{AddsClause, AddsClauses}
use Rattle.search.specs.Moves.{IsMatrix}
use Rattle.search.specs.State.{SearchState}
use Rattle.engine.specs.Kept.{AreTied, active_rows, frame_rows, group_tag, tagged_rows, under}

pub apart : (a b : ℕ) → (a == b) ≡ false → a ≡ b → ⊥
apart a b e same = let f : (a == b) ≡ true = eq-eqb a b same in let g = e in absurd (cc)

-- The clauses of a search.

abbrev row_in : OpenClause → Row
row_in c = c.row

abbrev has_tag : ℕ → OpenClause → Bool
has_tag tag c = c.frame == tag

pub under_append : (tag : ℕ) (xs ys : List OpenClause) → under tag (xs ++ ys) ≡ under tag xs ++ under tag ys
under_append tag xs ys = ap (map row_in) (filter-append (has_tag tag) xs ys)
    ∙ map-append row_in (filter (has_tag tag) xs) (filter (has_tag tag) ys)

-- clauses of one tag are all under it, and none is under another
pub under_own : (tag : ℕ) (cs : List OpenClause) → ((c : OpenClause) → Contains cs c → c.frame ≡ tag)
    → under tag cs ≡ map row_in cs
under_own tag [] own = refl
under_own tag (c ∷ cs) own =
    ap (map row_in) (cond-true (c.frame == tag) (c ∷ filter (has_tag tag) cs) (filter (has_tag tag) cs)
    (eq-eqb c.frame tag (own c (contains_head c cs))))
    ∙ ap (λ rs. c.row ∷ rs) (under_own tag cs (λ d i. own d (contains_tail c cs d i)))

pub under_other : (tag other : ℕ) (cs : List OpenClause) → ((c : OpenClause) → Contains cs c → c.frame ≡ other)
    → (other == tag) ≡ false → under tag cs ≡ []
under_other tag other [] own apart = refl
under_other tag other (c ∷ cs) own apart =
    ap (map row_in) (cond-false (c.frame == tag) (c ∷ filter (has_tag tag) cs) (filter (has_tag tag) cs)
    (ap (λ n. n == tag) (own c (contains_head c cs)) ∙ apart))
    ∙ under_other tag other cs (λ d i. own d (contains_tail c cs d i)) apart

-- those that are left without one tag, and without the rows that a test tells, of which no other has one
abbrev pub is_left : ℕ → (Row → Bool) → OpenClause → Bool
is_left top test c = not (c.frame == top || test c.row)

pub under_top : (tag : ℕ) (test : Row → Bool) (cs : List OpenClause) → under tag (filter (is_left tag test) cs) ≡ []
under_top tag test [] = refl
under_top tag test (c ∷ cs) = by (c.frame == tag) (test c.row) refl (under_top tag test cs)
  where
    rest : List OpenClause
    rest = filter (is_left tag test) cs

    by : (b t : Bool) → (c.frame == tag) ≡ b → under tag rest ≡ []
        → under tag (cond (not (b || t)) (c ∷ rest) rest) ≡ []
    by true t e none = none
    by false true e none = none
    by false false e none = ap (map row_in) (cond-false (c.frame == tag) (c ∷ filter (has_tag tag) rest)
        (filter (has_tag tag) rest) e) ∙ none

pub under_left : (tag top : ℕ) (test : Row → Bool) (cs : List OpenClause) → (tag == top) ≡ false
    → AllByRecursion (λ (row : Row). test row ≡ false) (under tag cs) → under tag (filter (is_left top test) cs) ≡ under
    tag cs
under_left tag top test [] apart all = refl
under_left tag top test (c ∷ cs) apart all = by (c.frame == tag) (c.frame == top) (test c.row) refl refl refl
    (under_left tag top test cs apart) all
  where
    rest : List OpenClause
    rest = filter (is_left top test) cs

    by : (b o t : Bool) → (c.frame == tag) ≡ b → (c.frame == top) ≡ o → test c.row ≡ t
        → (AllByRecursion (λ (row : Row). test row ≡ false) (under tag cs) → under tag rest ≡ under tag cs)
        → AllByRecursion (λ (row : Row). test row ≡ false)
        (map row_in (cond b (c ∷ filter (has_tag tag) cs) (filter (has_tag tag) cs)))
        → under tag (cond (not (o || t)) (c ∷ rest) rest) ≡ map row_in
        (cond b (c ∷ filter (has_tag tag) cs) (filter (has_tag tag) cs))
    by true true t at top_at told later is = absurd
        (let same : tag ≡ top = sym (eqb-true c.frame tag at) ∙ eqb-true c.frame top top_at in
        let e : (tag == top) ≡ true = eq-eqb tag top same in let f = apart in cc)
    by true false true at apart_at told later is = absurd (let no = is.0 in let f = told in cc)
    by true false false at apart_at told later is =
        ap (map row_in) (cond-true (c.frame == tag) (c ∷ filter (has_tag tag) rest) (filter (has_tag tag) rest) at)
        ∙ ap (λ rs. c.row ∷ rs) (later is.1)
    by false true t at top_at told later is = later is
    by false false true at apart_at told later is = later is
    by false false false at apart_at told later is =
        ap (map row_in) (cond-false (c.frame == tag) (c ∷ filter (has_tag tag) rest) (filter (has_tag tag) rest) at)
        ∙ later is

-- what is under a tag is open
pub under_open : (tag : ℕ) (cs : List OpenClause) (row : Row) → Contains (under tag cs) row
    → Contains (map row_in cs) row
under_open tag cs row i =
    let at : (c : OpenClause) × Contains (filter (has_tag tag) cs) c × (c.row ≡ row) = contains_map row_in
    (filter (has_tag tag) cs) row i in
    subst (λ (r : Row). Contains (map row_in cs) r) at.2
    (contains_map_of row_in cs at.0 (filter_at (has_tag tag) cs at.0 at.1).0)

-- and what is open is under some tag
pub open_under : (cs : List OpenClause) (row : Row) → Contains (map row_in cs) row → (tag : ℕ)
    × Contains (under tag cs) row
open_under cs row i =
    let at : (c : OpenClause) × Contains cs c × (c.row ≡ row) = contains_map row_in cs row i in (
      at.0.frame,
      subst (λ (r : Row). Contains (under at.0.frame cs) r) at.2
          (contains_map_of row_in (filter (has_tag at.0.frame) cs) at.0
          (filter_from (has_tag at.0.frame) cs at.0 at.1 (eq-eqb at.0.frame at.0.frame refl))),
    )

-- Frames by number.

pub rows_pushed : (frames : List Frame) (n : ℕ) → frame_rows (pushed frames) n ≡ frame_rows frames n
rows_pushed [] zero = refl
rows_pushed [] (suc n) = refl
rows_pushed (f ∷ frames) zero = refl
rows_pushed (f ∷ frames) (suc n) = rows_pushed frames n

pub rows_top : (row : Row) (frames : List Frame) (n : ℕ) → 1 ≤ length frames → n ≡ depth frames
    → frame_rows (with_row row frames) n ≡ frame_rows frames n ++ row ∷ []
rows_top row [] n some is = absurd (omega (arith, some))
rows_top row (f ∷ []) zero some is = refl
rows_top row (f ∷ []) (suc n) some is = absurd (omega (arith, is))
rows_top row (f ∷ g ∷ rest) zero some is = absurd (omega (arith, is))
rows_top row (f ∷ g ∷ rest) (suc n) some is =
    let more : 1 ≤ length (g ∷ rest) = omega arith in
    let at : n ≡ depth (g ∷ rest) = omega (arith, is) in
    rows_top row (g ∷ rest) n more at

pub rows_below : (row : Row) (frames : List Frame) (n : ℕ) → (n ≡ depth frames → ⊥)
    → frame_rows (with_row row frames) n ≡ frame_rows frames n
rows_below row [] n apart = refl
rows_below row (f ∷ []) zero apart = absurd (apart refl)
rows_below row (f ∷ []) (suc n) apart = refl
rows_below row (f ∷ g ∷ rest) zero apart = refl
rows_below row (f ∷ g ∷ rest) (suc n) apart = rows_below row (g ∷ rest) n (λ e. apart (omega (arith, e)))

pub some_with_row : (row : Row) (frames : List Frame) → length (with_row row frames) ≡ length frames
some_with_row row [] = refl
some_with_row row (f ∷ []) = refl
some_with_row row (f ∷ g ∷ rest) = ap suc (some_with_row row (g ∷ rest))

taken_top : (frames : List Frame) (count n : ℕ) → count ≤ n → frame_rows (take count frames) n ≡ []
taken_top [] zero n low = refl
taken_top [] (suc count) n low = refl
taken_top (f ∷ frames) zero n low = refl
taken_top (f ∷ frames) (suc count) zero low = absurd (omega (arith, low))
taken_top (f ∷ frames) (suc count) (suc n) low = taken_top frames count n (omega (arith, low))

taken_below : (frames : List Frame) (count n : ℕ) → n < count → frame_rows (take count frames) n ≡ frame_rows frames n
taken_below [] zero n low = absurd (omega (arith, low))
taken_below [] (suc count) n low = refl
taken_below (f ∷ frames) zero n low = absurd (omega (arith, low))
taken_below (f ∷ frames) (suc count) zero low = refl
taken_below (f ∷ frames) (suc count) (suc n) low = taken_below frames count n (omega (arith, low))

none_behind : (frames : List Frame) (n : ℕ) → length frames ≤ n → frame_rows frames n ≡ []
none_behind [] n low = refl
none_behind (f ∷ frames) zero low = absurd (omega (arith, low))
none_behind (f ∷ frames) (suc n) low = none_behind frames n (omega (arith, low))

pub rows_gone : (frames : List Frame) (n : ℕ) → n ≡ depth frames → frame_rows (popped frames) n ≡ []
rows_gone frames n is = taken_top frames (length frames - 1) n (omega (arith, is))

at_or_behind : (n a c : ℕ) → a ≤ n → c ≡ a + 1 → (n ≡ a) ⊎ (c ≤ n)
at_or_behind n a c low next = split (n == a) refl
  where
    split : (b : Bool) → (n == a) ≡ b → (n ≡ a) ⊎ (c ≤ n)
    split true e = inl (eqb-true n a e)
    split false e = inr (grind (arith, nat_tests))

pub rows_stay : (frames : List Frame) (n : ℕ) → 1 ≤ length frames → (n ≡ depth frames → ⊥)
    → frame_rows (popped frames) n ≡ frame_rows frames n
rows_stay frames n some far = by (nat_lt n (length frames - 1)) refl
  where
    by : (b : Bool) → nat_lt n (length frames - 1) ≡ b → frame_rows (popped frames) n ≡ frame_rows frames n
    by true e = taken_below frames (length frames - 1) n (grind (arith, nat_tests))
    by false e =
        let high : length frames - 1 ≤ n = grind (arith, nat_tests) in
        let behind : length frames ≤ n = ⊎_elim (λ (x : n ≡ length frames - 1). absurd (far x)) (λ x. x)
        (at_or_behind n (length frames - 1) (length frames) high (omega (arith, some))) in
        taken_top frames (length frames - 1) n high ∙ sym (none_behind frames n behind)

pub rows_leaving : (v : ℕ) (frames : List Frame) (n : ℕ) → frame_rows (with_leaving v frames) n ≡ frame_rows frames n
rows_leaving v [] n = refl
rows_leaving v (f ∷ []) zero = refl
rows_leaving v (f ∷ []) (suc n) = refl
rows_leaving v (f ∷ g ∷ rest) zero = refl
rows_leaving v (f ∷ g ∷ rest) (suc n) = rows_leaving v (g ∷ rest) n

pub some_with_leaving : (v : ℕ) (frames : List Frame) → length (with_leaving v frames) ≡ length frames
some_with_leaving v [] = refl
some_with_leaving v (f ∷ []) = refl
some_with_leaving v (f ∷ g ∷ rest) = ap suc (some_with_leaving v (g ∷ rest))

frame_in : (frames : List Frame) (n : ℕ) (row : Row) → Contains (frame_rows frames n) row → Contains (clauses_in frames)
    row
frame_in [] n row i = absurd (contains_nil row i)
frame_in (f ∷ frames) zero row i = Contains-append_left f.clauses (clauses_in frames) row i
frame_in (f ∷ frames) (suc n) row i = Contains-append_right f.clauses (clauses_in frames) row (frame_in frames n row i)

frame_from : (frames : List Frame) (row : Row) → Contains (clauses_in frames) row
    → (n : ℕ) × (n < length frames) × Contains (frame_rows frames n) row
frame_from [] row i = absurd (contains_nil row i)
frame_from (f ∷ frames) row i = ⊎_elim (λ j. (0, omega arith, j))
    (λ j. let at : (n : ℕ) × (n < length frames) × Contains (frame_rows frames n) row = frame_from frames row j in
    let low = at.1 in (suc at.0, omega (arith, low), at.2))
    (Contains-append_cases f.clauses (clauses_in frames) row i)

-- Groups by number.

abbrev turned : ℕ → Option Group → List Row
turned n None = []
turned n (Some g) = active_of g

active_by : (gs : List Group) (n : ℕ) → active_rows gs n ≡ turned n (group_at gs n)
active_by gs n = by (group_at gs n)
  where
    by : (o : Option Group) → (if unwrap_or (option_map (λ (g : Group). g.active) o) false
        then unwrap_or (option_map (λ (g : Group). g.clauses) o) [] else []) ≡ turned n o
    by None = refl
    by (Some g) = refl

-- none of these groups has the number
abbrev AreAbove : ℕ → List Group → Type 0
AreAbove n gs = AllByRecursion (λ (g : Group). n < g.number) gs

none_above : (gs : List Group) (n : ℕ) → AreAbove n gs → group_at gs n ≡ None
none_above [] n above = refl
none_above (g ∷ gs) n above =
    let low = above.0 in
    cond-false (g.number == n) (Some g) (group_at gs n) (ne_eqb g.number n (λ e. omega (arith, low, e)))
    ∙ none_above gs n above.1

above_more : (gs : List Group) (m n : ℕ) → m < n → AreAbove n gs → AreAbove m gs
above_more [] m n low above = tt
above_more (g ∷ gs) m n low above = (let high = above.0 in omega (arith, low, high), above_more gs m n low above.1)

-- a new group has no clause
opened_at : (n : ℕ) (gs : List Group) (m : ℕ) → AreRising gs → turned m (group_at (with_group n gs) m) ≡ turned m
    (group_at gs m)
opened_at n [] m rising = by (n == m)
  where
    by : (b : Bool) → turned m (if b then Some (new_group n) else None) ≡ []
    by true = refl
    by false = refl
opened_at n (g ∷ gs) m rising = by (nat_lt n g.number) (g.number == n) refl (opened_at n gs m rising.1)
  where
    first : (b : Bool) → (n == m) ≡ b → nat_lt n g.number ≡ true
        → turned m (if b then Some (new_group n) else group_at (g ∷ gs) m) ≡ turned m (group_at (g ∷ gs) m)
    first false e low = refl
    first true e low =
        let same : n ≡ m = eqb-true n m e in
        let below : n < g.number = grind (arith, nat_tests) in
        sym (ap (turned m) (ap (group_at (g ∷ gs)) (sym same)
        ∙ none_above (g ∷ gs) n (below, above_more gs n g.number below rising.0)))

    later : (b : Bool) → turned m (group_at (with_group n gs) m) ≡ turned m (group_at gs m)
        → turned m (if b then Some g else group_at (with_group n gs) m) ≡ turned m (if b then Some g else group_at gs m)
    later true rest = refl
    later false rest = rest

    by : (l b : Bool) → nat_lt n g.number ≡ l → turned m (group_at (with_group n gs) m) ≡ turned m (group_at gs m)
        → turned m (group_at (if l then new_group n ∷ g ∷ gs else if b then g ∷ gs else g ∷ with_group n gs) m)
        ≡ turned m (group_at (g ∷ gs) m)
    by true b low rest = first (n == m) refl low
    by false true high rest = refl
    by false false high rest = later (g.number == m) rest

pub active_opened : (n : ℕ) (gs : List Group) (m : ℕ) → AreRising gs → active_rows (with_group n gs) m ≡ active_rows gs
    m
active_opened n gs m rising = active_by (with_group n gs) m ∙ opened_at n gs m rising ∙ sym (active_by gs m)

-- a change of one group that keeps numbers
mapped_at : (f : Group → Group) → KeepsNumbers f → (gs : List Group) (m : ℕ)
    → group_at (map f gs) m ≡ option_map f (group_at gs m)
mapped_at f keeps [] m = refl
mapped_at f keeps (g ∷ gs) m =
    ap (λ k. if k == m then Some (f g) else group_at (map f gs) m) (keeps g) ∙ by (g.number == m)
    (mapped_at f keeps gs m)
  where
    by : (b : Bool) → group_at (map f gs) m ≡ option_map f (group_at gs m)
        → (if b then Some (f g) else group_at (map f gs) m) ≡ option_map f (if b then Some g else group_at gs m)
    by true rest = refl
    by false rest = rest

numbered_at : (gs : List Group) (m : ℕ) (g : Group) → group_at gs m ≡ Some g → g.number ≡ m
numbered_at [] m g e = absurd (cc)
numbered_at (h ∷ gs) m g e = by (h.number == m) refl (numbered_at gs m g) e
  where
    by : (b : Bool) → (h.number == m) ≡ b → (group_at gs m ≡ Some g → g.number ≡ m)
        → (if b then Some h else group_at gs m) ≡ Some g → g.number ≡ m
    by true at rest is = let same : h ≡ g = cc in ap (λ (x : Group). x.number) (sym same) ∙ eqb-true h.number m at
    by false at rest is = rest is

-- another group stays
stays_other : (f : Group → Group) (n m : ℕ) → KeepsNumbers f → KeepsOthers n f → (gs : List Group) → (m ≡ n → ⊥)
    → active_rows (map f gs) m ≡ active_rows gs m
stays_other f n m keeps others gs far =
    active_by (map f gs) m ∙ ap (turned m) (mapped_at f keeps gs m ∙ by (group_at gs m) refl) ∙ sym (active_by gs m)
  where
    by : (o : Option Group) → group_at gs m ≡ o → option_map f o ≡ o
    by None e = refl
    by (Some g) e = ap Some (others g (λ x. far (sym (numbered_at gs m g e) ∙ x)))

pub marked_apart : (active : Bool) (n m : ℕ) (gs : List Group) → (m ≡ n → ⊥)
    → active_rows (with_mark active n gs) m ≡ active_rows gs m
marked_apart active n m gs far = stays_other (marked active n) n m (marked_numbers active n) (marked_others active n) gs
    far

pub grown_apart : (row : Row) (n m : ℕ) (gs : List Group) → (m ≡ n → ⊥)
    → active_rows (with_clause_at row n gs) m ≡ active_rows gs m
grown_apart row n m gs far = stays_other (grown row n) n m (grown_numbers row n) (grown_others row n) gs far

-- a group that gets a clause is active as it was
pub activity_kept : (row : Row) (n : ℕ) (gs : List Group) (m : ℕ) → is_active (with_clause_at row n gs) m ≡ is_active gs
    m
activity_kept row n gs m =
    ap (λ (o : Option Group). unwrap_or (option_map (λ (g : Group). g.active) o) false)
    (mapped_at (grown row n) (grown_numbers row n) gs m) ∙ by (group_at gs m)
  where
    own : (g : Group) (b : Bool) → (if b then record g { clauses = g.clauses ++ row ∷ [] } else g).active ≡ g.active
    own g true = refl
    own g false = refl

    by : (o : Option Group) → unwrap_or (option_map (λ (g : Group). g.active) (option_map (grown row n) o)) false
        ≡ unwrap_or (option_map (λ (g : Group). g.active) o) false
    by None = refl
    by (Some g) = own g (g.number == n)

-- a group that is made inactive has no open clause, and one that is made active all of its clauses
pub marked_off : (n : ℕ) (gs : List Group) → active_rows (with_mark false n gs) n ≡ []
marked_off n gs = active_by (with_mark false n gs) n
    ∙ ap (turned n) (mapped_at (marked false n) (marked_numbers false n) gs n) ∙ by (group_at gs n) refl
  where
    by : (o : Option Group) → group_at gs n ≡ o → turned n (option_map (marked false n) o) ≡ []
    by None e = refl
    by (Some g) e = ap active_of
        (cond-true (g.number == n) (record g { active = false }) g (eq-eqb g.number n (numbered_at gs n g e)))

pub marked_on : (n : ℕ) (gs : List Group) → active_rows (with_mark true n gs) n ≡ clauses_at gs n
marked_on n gs = active_by (with_mark true n gs) n
    ∙ ap (turned n) (mapped_at (marked true n) (marked_numbers true n) gs n) ∙ by (group_at gs n) refl
  where
    by : (o : Option Group) → group_at gs n ≡ o
        → turned n (option_map (marked true n) o) ≡ unwrap_or (option_map (λ (g : Group). g.clauses) o) []
    by None e = refl
    by (Some g) e = ap active_of
        (cond-true (g.number == n) (record g { active = true }) g (eq-eqb g.number n (numbered_at gs n g e)))

-- and one more clause is open where its group is active
pub grown_on : (row : Row) (n : ℕ) (gs : List Group) → is_active gs n ≡ true
    → active_rows (with_clause_at row n gs) n ≡ active_rows gs n ++ row ∷ []
grown_on row n gs on =
    active_by (with_clause_at row n gs) n ∙ ap (turned n) (mapped_at (grown row n) (grown_numbers row n) gs n)
    ∙ by (group_at gs n) refl on
    ∙ ap (λ rs. rs ++ row ∷ []) (sym (active_by gs n))
  where
    by : (o : Option Group) → group_at gs n ≡ o → unwrap_or (option_map (λ (g : Group). g.active) o) false ≡ true
        → turned n (option_map (grown row n) o) ≡ turned n o ++ row ∷ []
    by None e is = absurd (cc)
    by (Some g) e is =
        ap active_of (cond-true (g.number == n) (record g { clauses = g.clauses ++ row ∷ [] }) g
        (eq-eqb g.number n (numbered_at gs n g e)))
        ∙ cond-true g.active (g.clauses ++ row ∷ []) [] is
        ∙ sym (ap (λ rs. rs ++ row ∷ []) (cond-true g.active g.clauses [] is))

pub grown_off : (row : Row) (n : ℕ) (gs : List Group) → is_active gs n ≡ false
    → active_rows (with_clause_at row n gs) n ≡ active_rows gs n
grown_off row n gs off =
    active_by (with_clause_at row n gs) n ∙ ap (turned n) (mapped_at (grown row n) (grown_numbers row n) gs n)
    ∙ by (group_at gs n) refl off
    ∙ sym (active_by gs n)
  where
    by : (o : Option Group) → group_at gs n ≡ o → unwrap_or (option_map (λ (g : Group). g.active) o) false ≡ false
        → turned n (option_map (grown row n) o) ≡ turned n o
    by None e is = refl
    by (Some g) e is =
        ap active_of (cond-true (g.number == n) (record g { clauses = g.clauses ++ row ∷ [] }) g
        (eq-eqb g.number n (numbered_at gs n g e)))
        ∙ cond-false g.active (g.clauses ++ row ∷ []) [] is
        ∙ sym (cond-false g.active g.clauses [] is)

-- nothing changes where a group is as asked already
pub marked_same : (active : Bool) (n : ℕ) (gs : List Group) (m : ℕ) → is_active gs n ≡ active
    → active_rows (with_mark active n gs) m ≡ active_rows gs m
marked_same active n gs m as_is =
    active_by (with_mark active n gs) m ∙ ap (turned m) (mapped_at (marked active n) (marked_numbers active n) gs m
    ∙ at (m == n) refl)
    ∙ sym (active_by gs m)
  where
    own : (o : Option Group) → group_at gs n ≡ o → unwrap_or (option_map (λ (g : Group). g.active) o) false ≡ active
        → option_map (marked active n) o ≡ o
    own None e is = refl
    own (Some g) e is =
        ap Some (cond-true (g.number == n) (record g { active = active }) g (eq-eqb g.number n (numbered_at gs n g e))
        ∙ ap (λ b. record g { active = b }) (sym is))

    other : (o : Option Group) → group_at gs m ≡ o → (m ≡ n → ⊥) → option_map (marked active n) o ≡ o
    other None e far = refl
    other (Some g) e far = ap Some (marked_others active n g (λ x. far (sym (numbered_at gs m g e) ∙ x)))

    at : (b : Bool) → (m == n) ≡ b → option_map (marked active n) (group_at gs m) ≡ group_at gs m
    at true e = subst (λ k. option_map (marked active n) (group_at gs k) ≡ group_at gs k) (sym (eqb-true m n e))
        (own (group_at gs n) refl as_is)
    at false e = other (group_at gs m) refl
        (λ same. absurd (let f : (m == n) ≡ true = eq-eqb m n same in let g = e in cc))

turned_in : (gs : List Group) (n : ℕ) (row : Row) → Contains (turned n (group_at gs n)) row
    → Contains (active_in gs) row
turned_in [] n row i = i
turned_in (g ∷ gs) n row i = by (g.number == n) (turned_in gs n row) i
  where
    by : (b : Bool) → (Contains (turned n (group_at gs n)) row → Contains (active_in gs) row)
        → Contains (turned n (if b then Some g else group_at gs n)) row → Contains (active_in (g ∷ gs)) row
    by true rest j = Contains-append_left (active_of g) (active_in gs) row j
    by false rest j = Contains-append_right (active_of g) (active_in gs) row (rest j)

active_in_rows : (gs : List Group) (n : ℕ) (row : Row) → Contains (active_rows gs n) row → Contains (active_in gs) row
active_in_rows gs n row i = turned_in gs n row (subst (λ rs. Contains rs row) (active_by gs n) i)

some_turned : (gs : List Group) (n : ℕ) (row : Row) → Contains (turned n (group_at gs n)) row
    → (g : Group) × (group_at gs n ≡ Some g)
some_turned gs n row i = by (group_at gs n) refl i
  where
    by : (o : Option Group) → group_at gs n ≡ o → Contains (turned n o) row → (g : Group) × (group_at gs n ≡ Some g)
    by None e j = absurd (contains_nil row j)
    by (Some g) e j = (g, e)

turned_from : (gs : List Group) (row : Row) → AreRising gs → Contains (active_in gs) row
    → (n : ℕ) × Contains (turned n (group_at gs n)) row
turned_from [] row rising i = absurd (contains_nil row i)
turned_from (g ∷ gs) row rising i = ⊎_elim own (λ j. later (turned_from gs row rising.1 j))
    (Contains-append_cases (active_of g) (active_in gs) row i)
  where
    own : Contains (active_of g) row → (n : ℕ) × Contains (turned n (group_at (g ∷ gs) n)) row
    own j = (
      g.number,
      subst (λ (o : Option Group). Contains (turned g.number o) row)
          (sym (cond-true (g.number == g.number) (Some g) (group_at gs g.number) (eq-eqb g.number g.number refl))) j,
    )

    by : (n : ℕ) (b : Bool) → (g.number == n) ≡ b → (h : Group) → group_at gs n ≡ Some h
        → Contains (turned n (group_at gs n)) row → Contains (turned n (if b then Some g else group_at gs n)) row
    by n false e h there j = j
    by n true e h there j = absurd (
        let above : AreAbove n gs = subst (λ k. AreAbove k gs) (eqb-true g.number n e) rising.0 in
        let none : group_at gs n ≡ None = none_above gs n above in
        let f : Some h ≡ None = sym there ∙ none in cc)

    later : ((n : ℕ) × Contains (turned n (group_at gs n)) row) → (n : ℕ) × Contains (turned n (group_at (g ∷ gs) n))
        row
    later r = let there = some_turned gs r.0 row r.1 in (r.0, by r.0 (g.number == r.0) refl there.0 there.1 r.1)

active_from : (gs : List Group) (row : Row) → AreRising gs → Contains (active_in gs) row
    → (n : ℕ) × Contains (active_rows gs n) row
active_from gs row rising i =
    let at : (n : ℕ) × Contains (turned n (group_at gs n)) row = turned_from gs row rising i in
    (at.0, subst (λ rs. Contains rs row) (sym (active_by gs at.0)) at.1)

-- Frames and groups under their tags.

pub under_frames : (f : OpenFormula) (tag : ℕ) → tag ≤ max_pushed → tagged_rows f tag ≡ frame_rows f.frames tag
under_frames f tag low = cond-true (nat_le tag max_pushed) (frame_rows f.frames tag)
    (active_rows f.groups (tag - (max_pushed + 1))) (grind (arith, nat_tests))

pub under_groups : (f : OpenFormula) (n : ℕ) → tagged_rows f (group_tag n) ≡ active_rows f.groups n
under_groups f n = cond-false (nat_le (group_tag n) max_pushed) (frame_rows f.frames (group_tag n))
    (active_rows f.groups (group_tag n - (max_pushed + 1))) (grind (arith, nat_tests))
    ∙ ap (active_rows f.groups) (omega arith)

-- each tag is that of a frame or of a group
pub which_tag : (P : ℕ → Type 0) → ((tag : ℕ) → tag ≤ max_pushed → P tag) → ((n : ℕ) → P (group_tag n)) → (tag : ℕ)
    → P tag
which_tag P frame group tag = by (nat_le tag max_pushed) refl
  where
    by : (b : Bool) → nat_le tag max_pushed ≡ b → P tag
    by true e = frame tag (grind (arith, nat_tests))
    by false e =
        let high : max_pushed + 1 ≤ tag = grind (arith, nat_tests) in
        let same : group_tag (tag - (max_pushed + 1)) ≡ tag = omega (arith, high) in
        subst P same (group (tag - (max_pushed + 1)))

-- the open clauses of a search that are those of the formula under each tag are the formula's
pub is_matrix : (d : State) (f : OpenFormula) → AreRising f.groups → depth f.frames ≤ max_pushed
    → ((tag : ℕ) → under tag (clauses_of d) ≡ tagged_rows f tag) → IsMatrix d (open_clauses f)
is_matrix d f rising few same = record { there = there; none_else = none_else }
  where
    in_formula : (tag : ℕ) (row : Row) → Contains (tagged_rows f tag) row → Contains (open_clauses f) row
    in_formula tag row = which_tag (λ t. Contains (tagged_rows f t) row → Contains (open_clauses f) row)
        (λ t low i. Contains-append_left (clauses_in f.frames) (active_in f.groups) row
        (frame_in f.frames t row (subst (λ rs. Contains rs row) (under_frames f t low) i)))
        (λ n i. Contains-append_right (clauses_in f.frames) (active_in f.groups) row
        (active_in_rows f.groups n row (subst (λ rs. Contains rs row) (under_groups f n) i)))
        tag

    there : (row : Row) → Contains (clauses_in_search d) row → Contains (open_clauses f) row
    there row i =
        let at : (tag : ℕ) × Contains (under tag (clauses_of d)) row = open_under (clauses_of d) row i in
        in_formula at.0 row (subst (λ rs. Contains rs row) (same at.0) at.1)

    in_search : (tag : ℕ) (row : Row) → Contains (tagged_rows f tag) row → Contains (clauses_in_search d) row
    in_search tag row i = under_open tag (clauses_of d) row (subst (λ rs. Contains rs row) (sym (same tag)) i)

    none_else : (row : Row) → Contains (open_clauses f) row → Contains (clauses_in_search d) row
    none_else row i = ⊎_elim
        (λ j. let at : (n : ℕ) × (n < length f.frames) × Contains (frame_rows f.frames n) row =
        frame_from f.frames row j in
        let low : at.0 ≤ max_pushed = (let below = at.1 in let top = few in omega (arith, below, top)) in
        in_search at.0 row (subst (λ rs. Contains rs row) (sym (under_frames f at.0 low)) at.2))
        (λ j. let at : (n : ℕ) × Contains (active_rows f.groups n) row = active_from f.groups row rising j in
        in_search (group_tag at.0) row (subst (λ rs. Contains rs row) (sym (under_groups f at.0)) at.1))
        (Contains-append_cases (clauses_in f.frames) (active_in f.groups) row i)

pub tied_matrix : (f : OpenFormula) (s : SearchState) → AreTied f s → IsMatrix s.derivation (open_clauses f)
tied_matrix f s tied = is_matrix s.derivation f tied.rising tied.few tied.clauses

-- the steps of a search that is tied to a formula are legal for its clauses
pub tied_legal : (f : OpenFormula) (s : SearchState) → AreTied f s
    → IsDerivation f.scopes (open_clauses f) (steps_of s.derivation)
tied_legal f s tied =
    let matrix = tied_matrix f s tied in
    served f.scopes s.derivation (open_clauses f) matrix.there matrix.none_else tied.resting.intact.legal

-- What stays tied.

above_opened : (m n : ℕ) (gs : List Group) → m < n → AreAbove m gs → AreAbove m (with_group n gs)
above_opened m n [] low all = (low, tt)
above_opened m n (h ∷ hs) low all = by (nat_lt n h.number) (h.number == n) (above_opened m n hs low all.1)
  where
    by : (l b : Bool) → AreAbove m (with_group n hs)
        → AreAbove m (if l then new_group n ∷ h ∷ hs else if b then h ∷ hs else h ∷ with_group n hs)
    by true b rest = (low, all)
    by false true rest = all
    by false false rest = (all.0, rest)

pub rising_opened : (n : ℕ) (gs : List Group) → AreRising gs → AreRising (with_group n gs)
rising_opened n [] rising = (tt, tt)
rising_opened n (g ∷ gs) rising = by (nat_lt n g.number) (g.number == n) refl refl (rising_opened n gs rising.1)
  where
    by : (l b : Bool) → nat_lt n g.number ≡ l → (g.number == n) ≡ b → AreRising (with_group n gs)
        → AreRising (if l then new_group n ∷ g ∷ gs else if b then g ∷ gs else g ∷ with_group n gs)
    by true b low e rest =
        let below : n < g.number = grind (arith, nat_tests) in
        ((below, above_more gs n g.number below rising.0), rising)
    by false true high e rest = rising
    by false false high e rest =
        let below : g.number < n = grind (arith, nat_tests) in (above_opened g.number n gs below rising.0, rest)

pub rising_marked : (active : Bool) (n : ℕ) (gs : List Group) → AreRising gs → AreRising (with_mark active n gs)
rising_marked active n gs rising = rising_kept (marked active n) (marked_numbers active n) gs rising

pub rising_grown : (row : Row) (n : ℕ) (gs : List Group) → AreRising gs → AreRising (with_clause_at row n gs)
rising_grown row n gs rising = rising_kept (grown row n) (grown_numbers row n) gs rising

-- Other frames or groups under a tag.

pub other_frames : (f : OpenFormula) (frames : List Frame) (tag : ℕ) → frame_rows frames tag ≡ frame_rows f.frames tag
    → tagged_rows (record f { frames = frames }) tag ≡ tagged_rows f tag
other_frames f frames tag same =
    ap (λ rs. if nat_le tag max_pushed then rs else active_rows f.groups (tag - (max_pushed + 1))) same

pub other_groups : (f : OpenFormula) (groups : List Group) (tag : ℕ)
    → ((n : ℕ) → active_rows groups n ≡ active_rows f.groups n)
    → tagged_rows (record f { groups = groups }) tag ≡ tagged_rows f tag
other_groups f groups tag same =
    ap (λ rs. if nat_le tag max_pushed then frame_rows f.frames tag else rs) (same (tag - (max_pushed + 1)))

pub grown_none : (row : Row) (n m : ℕ) (gs : List Group) → is_active gs n ≡ false
    → active_rows (with_clause_at row n gs) m ≡ active_rows gs m
grown_none row n m gs off = by (m == n) refl
  where
    by : (b : Bool) → (m == n) ≡ b → active_rows (with_clause_at row n gs) m ≡ active_rows gs m
    by true e = subst (λ k. active_rows (with_clause_at row n gs) k ≡ active_rows gs k) (sym (eqb-true m n e))
        (grown_off row n gs off)
    by false e = grown_apart row n m gs (apart m n e)

-- a property of all clauses of frames and groups
all_in_frame : (P : Row → Type 0) (frames : List Frame) (n : ℕ) → AllByRecursion P (clauses_in frames)
    → AllByRecursion P (frame_rows frames n)
all_in_frame P [] n all = tt
all_in_frame P (f ∷ frames) zero all = all_front P f.clauses (clauses_in frames) all
all_in_frame P (f ∷ frames) (suc n) all = all_in_frame P frames n (all_behind P f.clauses (clauses_in frames) all)

all_turned : (P : Row → Type 0) (gs : List Group) (n : ℕ) → AllByRecursion P (grouped_in gs)
    → AllByRecursion P (turned n (group_at gs n))
all_turned P [] n all = tt
all_turned P (g ∷ gs) n all = by (g.number == n) (all_turned P gs n (all_behind P g.clauses (grouped_in gs) all))
  where
    own : (b : Bool) → AllByRecursion P (if b then g.clauses else [])
    own true = all_front P g.clauses (grouped_in gs) all
    own false = tt

    by : (b : Bool) → AllByRecursion P (turned n (group_at gs n)) → AllByRecursion P
        (turned n (if b then Some g else group_at gs n))
    by true rest = own g.active
    by false rest = rest

all_in_group : (P : Row → Type 0) (gs : List Group) (n : ℕ) → AllByRecursion P (grouped_in gs)
    → AllByRecursion P (active_rows gs n)
all_in_group P gs n all = subst (AllByRecursion P) (sym (active_by gs n)) (all_turned P gs n all)

pub all_tagged : (P : Row → Type 0) (f : OpenFormula) (tag : ℕ) → AllByRecursion P (clauses_in f.frames)
    → AllByRecursion P (grouped_in f.groups) → AllByRecursion P (tagged_rows f tag)
all_tagged P f tag frames groups = by (nat_le tag max_pushed)
  where
    by : (b : Bool) → AllByRecursion P (if b then frame_rows f.frames tag else active_rows f.groups
        (tag - (max_pushed + 1)))
    by true = all_in_frame P f.frames tag frames
    by false = all_in_group P f.groups (tag - (max_pushed + 1)) groups

-- One more clause.

pub under_added : (tag at : ℕ) (row : Row) (old new : List OpenClause) → AddsClause tag row old new
    → under at new ≡ (if tag == at then under at old ++ row ∷ [] else under at old)
under_added tag at row old new adds =
    ap (under at) adds.clauses ∙ under_append at old (one ∷ []) ∙ by (tag == at)
  where
    one : OpenClause
    one = record { id = adds.id; frame = tag; row = row }

    by : (b : Bool) → under at old ++ map row_in (cond b (one ∷ []) []) ≡
        (if b then under at old ++ row ∷ [] else under at old)
    by true = refl
    by false = append-nil (under at old)

pub tagged_with_row : (f : OpenFormula) (row : Row) → 1 ≤ length f.frames → depth f.frames ≤ max_pushed → (tag : ℕ)
    → tagged_rows (with_row_at None row f) tag ≡
    (if depth f.frames == tag then tagged_rows f tag ++ row ∷ [] else tagged_rows f tag)
tagged_with_row f row some few tag = by (depth f.frames == tag) refl
  where
    by : (b : Bool) → (depth f.frames == tag) ≡ b
        → tagged_rows (with_row_at None row f) tag ≡ (if b then tagged_rows f tag ++ row ∷ [] else tagged_rows f tag)
    by true e =
        let same : tag ≡ depth f.frames = sym (eqb-true (depth f.frames) tag e) in
        let low : tag ≤ max_pushed = omega (arith, same, few) in
        under_frames (with_row_at None row f) tag low ∙ rows_top row f.frames tag some same
        ∙ ap (λ rs. rs ++ row ∷ []) (sym (under_frames f tag low))
    by false e = other_frames f (with_row row f.frames) tag
        (rows_below row f.frames tag (λ x. apart (depth f.frames) tag e (sym x)))

pub tagged_grown : (f : OpenFormula) (n : ℕ) (row : Row) → is_active f.groups n ≡ true → (tag : ℕ)
    → tagged_rows (with_row_at (Some n) row f) tag ≡
    (if group_tag n == tag then tagged_rows f tag ++ row ∷ [] else tagged_rows f tag)
tagged_grown f n row on = which_tag
    (λ tag. tagged_rows (with_row_at (Some n) row f) tag ≡
    (if group_tag n == tag then tagged_rows f tag ++ row ∷ [] else tagged_rows f tag))
    (λ tag low. under_frames (with_row_at (Some n) row f) tag low ∙ sym (under_frames f tag low)
    ∙ sym (cond-false (group_tag n == tag) (tagged_rows f tag ++ row ∷ []) (tagged_rows f tag)
    (grind (arith, nat_tests))))
    (λ m. by m (group_tag n == group_tag m) refl)
  where
    by : (m : ℕ) (b : Bool) → (group_tag n == group_tag m) ≡ b → tagged_rows (with_row_at (Some n) row f) (group_tag m)
        ≡ (if b then tagged_rows f (group_tag m) ++ row ∷ [] else tagged_rows f (group_tag m))
    by m true e =
        let tags : group_tag n ≡ group_tag m = eqb-true (group_tag n) (group_tag m) e in
        let same : n ≡ m = omega (arith, tags) in
        under_groups (with_row_at (Some n) row f) m
        ∙ subst (λ k. active_rows (with_clause_at row n f.groups) k ≡ active_rows f.groups k ++ row ∷ []) same
        (grown_on row n f.groups on)
        ∙ ap (λ rs. rs ++ row ∷ []) (sym (under_groups f m))
    by m false e =
        under_groups (with_row_at (Some n) row f) m
        ∙ grown_apart row n m f.groups (λ x. apart (group_tag n) (group_tag m) e (ap group_tag (sym x)))
        ∙ sym (under_groups f m)

-- A group goes, or comes.

left_without : (top : ℕ) (cs : List OpenClause)
    → filter (λ (c : OpenClause). not (c.frame == top)) cs ≡ filter (is_left top (λ row. false)) cs
left_without top cs = filter_same (λ (c : OpenClause). not (c.frame == top)) (is_left top (λ row. false)) cs
    (λ c i. by (c.frame == top))
  where
    by : (b : Bool) → not b ≡ not (b || false)
    by true = refl
    by false = refl

none_told : (rows : List Row) → AllByRecursion (λ (row : Row). false ≡ false) rows
none_told [] = tt
none_told (row ∷ rows) = (refl, none_told rows)

pub dropped_marked : (f : OpenFormula) (n : ℕ) (cs : List OpenClause) → ((tag : ℕ) → under tag cs ≡ tagged_rows f tag)
    → (tag : ℕ)
    → under tag (filter (λ (c : OpenClause). not (c.frame == group_tag n)) cs) ≡ tagged_rows
    (record f { groups = with_mark false n f.groups }) tag
dropped_marked f n cs same tag = ap (under tag) (left_without (group_tag n) cs) ∙ which_tag
    (λ t. under t (filter (is_left (group_tag n) (λ row. false)) cs) ≡ tagged_rows
    (record f { groups = with_mark false n f.groups }) t)
    (λ t low. left t (grind (arith, nat_tests)) ∙ under_frames f t low
    ∙ sym (under_frames (record f { groups = with_mark false n f.groups }) t low))
    (λ m. by m (group_tag m == group_tag n) refl)
    tag
  where
    left : (t : ℕ) → (t == group_tag n) ≡ false → under t (filter (is_left (group_tag n) (λ row. false)) cs) ≡
        tagged_rows f t
    left t e = under_left t (group_tag n) (λ row. false) cs e (none_told (under t cs)) ∙ same t

    by : (m : ℕ) (b : Bool) → (group_tag m == group_tag n) ≡ b
        → under (group_tag m) (filter (is_left (group_tag n) (λ row. false)) cs) ≡ tagged_rows
        (record f { groups = with_mark false n f.groups }) (group_tag m)
    by m true e =
        let tags : group_tag m ≡ group_tag n = eqb-true (group_tag m) (group_tag n) e in
        let numbers : n ≡ m = omega (arith, tags) in
        ap (λ top. under (group_tag m) (filter (is_left top (λ row. false)) cs)) (sym tags)
        ∙ under_top (group_tag m) (λ row. false) cs
        ∙ sym (under_groups (record f { groups = with_mark false n f.groups }) m
        ∙ subst (λ k. active_rows (with_mark false n f.groups) k ≡ []) numbers (marked_off n f.groups))
    by m false e =
        left (group_tag m) e ∙ under_groups f m
        ∙ sym (marked_apart false n m f.groups (λ x. apart (group_tag m) (group_tag n) e (ap group_tag x)))
        ∙ sym (under_groups (record f { groups = with_mark false n f.groups }) m)

pub put_marked : (f : OpenFormula) (n : ℕ) (old new : List OpenClause) → ((tag : ℕ) → under tag old ≡ tagged_rows f tag)
    → is_active f.groups n ≡ false → AddsClauses (group_tag n) (clauses_at f.groups n) old new → (tag : ℕ)
    → under tag new ≡ tagged_rows (record f { groups = with_mark true n f.groups }) tag
put_marked f n old new same off adds tag = ap (under tag) adds.clauses ∙ under_append tag old adds.added ∙ which_tag
    (λ t. under t old ++ under t adds.added ≡ tagged_rows (record f { groups = with_mark true n f.groups }) t)
    (λ t low. others t (grind (arith, nat_tests)) ∙ under_frames f t low
    ∙ sym (under_frames (record f { groups = with_mark true n f.groups }) t low))
    (λ m. by m (group_tag n == group_tag m) refl)
    tag
  where
    others : (t : ℕ) → (group_tag n == t) ≡ false → under t old ++ under t adds.added ≡ tagged_rows f t
    others t e = ap (λ rs. under t old ++ rs) (under_other t (group_tag n) adds.added adds.of_frame e)
        ∙ append-nil (under t old) ∙ same t

    was_none : under (group_tag n) old ≡ []
    was_none = same (group_tag n) ∙ under_groups f n ∙ cond-false (is_active f.groups n) (clauses_at f.groups n) [] off

    by : (m : ℕ) (b : Bool) → (group_tag n == group_tag m) ≡ b
        → under (group_tag m) old ++ under (group_tag m) adds.added ≡ tagged_rows
        (record f { groups = with_mark true n f.groups }) (group_tag m)
    by m true e =
        let tags : group_tag n ≡ group_tag m = eqb-true (group_tag n) (group_tag m) e in
        let numbers : n ≡ m = omega (arith, tags) in
        subst (λ k. under (group_tag k) old ++ under (group_tag k) adds.added ≡ tagged_rows
        (record f { groups = with_mark true n f.groups }) (group_tag k)) numbers
        (ap₂ (λ (a b : List Row). a ++ b) was_none (under_own (group_tag n) adds.added adds.of_frame ∙ adds.has_rows)
        ∙ sym (under_groups (record f { groups = with_mark true n f.groups }) n ∙ marked_on n f.groups))
    by m false e =
        others (group_tag m) e ∙ under_groups f m
        ∙ sym (marked_apart true n m f.groups (λ x. apart (group_tag n) (group_tag m) e (ap group_tag (sym x))))
        ∙ sym (under_groups (record f { groups = with_mark true n f.groups }) m)
