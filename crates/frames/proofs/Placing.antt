-- The list of groups, and the place of the open one, after each command.
use Rattle.std.proofs.Common.{◌≡◌, ℕ, zero, suc, ◌+◌, ◌-◌, ◌<◌, Bool, true, false, List, [], ◌∷◌, ◌++◌, length, map, take, drop, set, get_or, Option, Some, None, Result, Ok, Err, IfOk, IfErr, is_some, refl, sym, ap, ap₂, ◌∙◌, subst, arith, append_assoc}
use Rattle.std.specs.Prelude.{IfNone, IfSome, MatchOption, option_map, slice_get, unwrap_or}
use Rattle.std.specs.Result.{result_ok}
use Rattle.std.proofs.lemmas.List.{append-nil}
use Rattle.std.proofs.lemmas.Option.{get_or_from_slice_get, slice_get_read, slice_get_within, slice_get-get_or}
use Rattle.calculus.specs.Rows.{Row}
use Rattle.frames.specs.Groups.{AreRising, Group, active_in, active_of, clauses_at, group_at, grown, is_group, marked, new_group, with_clause_at, with_group, with_mark}
use Rattle.frames.specs.Places.{AreGroups, AreInOrder, GroupsState, IsGapFor, IsGroupAt, IsPlace, number_at, shrunk, with_joined, without_last}
use Rattle.frames.proofs.Grouping.{at_place, changed_at, changed_back, front_of, gap_others, group_new, group_there, grown_numbers, grown_one, grown_others, marked_one, marked_others, new_place, none_at, number_kept, others_stay, rising_inserted, rising_kept, shrunk_numbers, shrunk_one, shrunk_others}
use Rattle.frames.proofs.Starts.{all_but_last}

abbrev pub state : List Group → Option ℕ → GroupsState
state gs place = record { groups = gs; current = number_at gs place }

-- the open group

pub placed_low : (gs : List Group) (place : Option ℕ) (i : ℕ) → place ≡ Some i → IsPlace gs place → i < length gs
placed_low gs place i e at = subst (IsPlace gs) e at

pub open_is : (gs : List Group) (place : Option ℕ) → IsPlace gs place → is_some place ≡ is_some (number_at gs place)
open_is gs None at = refl
open_is gs (Some i) at =
    ap (λ (o : Option Group). is_some (option_map (λ (g : Group). g.number) o))
    (sym (slice_get-get_or gs i (new_group 0) at))

pub number_here : (gs : List Group) (place : Option ℕ) (i n : ℕ) (g : Group) → place ≡ Some i
    → slice_get gs i ≡ Some g → n ≡ g.number → Some n ≡ number_at gs place
number_here gs place i n g e there is =
    ap Some is ∙ ap (option_map (λ (h : Group). h.number)) (sym there) ∙ ap (number_at gs) (sym e)

pub in_order : (gs : List Group) (place : Option ℕ) → AreGroups gs place → AreInOrder (state gs place)
in_order gs place are = record { rising = are.rising; there = λ n e. by place are.placed n e }
  where
    by : (p : Option ℕ) → IsPlace gs p → (n : ℕ) → number_at gs p ≡ Some n → is_group gs n ≡ true
    by None at n e = absurd (let f : None ≡ Some n = e in cc)
    by (Some i) at n e =
        let g : Group = get_or gs i (new_group 0) in
        let there : slice_get gs i ≡ Some (get_or gs i (new_group 0)) = slice_get-get_or gs i (new_group 0) at in
        let same : Some (get_or gs i (new_group 0)).number ≡ Some n =
        ap (option_map (λ (h : Group). h.number)) (sym there) ∙ e in
        let is : (get_or gs i (new_group 0)).number ≡ n = cc in
        ap is_some (at_place gs n i (get_or gs i (new_group 0)) are.rising there is)

-- the group of a number

module _ (gs : List Group) (n i : ℕ) (rising : AreRising gs) (at : IsGroupAt gs n i) where
  pub at_low : i < length gs
  at_low = slice_get_within gs i at.group at.there

  pub found_is : (x : Group) → x ≡ get_or gs i x → Some x ≡ group_at gs n
  found_is x e =
      ap Some (e ∙ get_or_from_slice_get gs i at.group x at.there)
      ∙ sym (at_place gs n i at.group rising at.there at.numbered)

  pub opened_there : state gs (Some i) ≡ record { groups = with_group n gs; current = Some n }
  opened_there =
      ap₂ (λ (hs : List Group) (c : Option ℕ). record { groups = hs; current = c })
      (sym (group_there gs n i at.group rising at.there at.numbered))
      (ap (option_map (λ (h : Group). h.number)) at.there ∙ ap Some at.numbered)

  pub marked_is : (b : Bool) (x y : Group) → x ≡ get_or gs i x → y ≡ record x { active = b }
      → set gs i y ≡ with_mark b n gs
  marked_is b x y e to =
      let same : x ≡ at.group = e ∙ get_or_from_slice_get gs i at.group x at.there in
      changed_at (marked b n) n (marked_others b n) gs i at.group y rising at.there at.numbered
      (marked_one b n at.group at.numbered ∙ ap (λ (g : Group). record g { active = b }) (sym same) ∙ sym to)

module _ (gs : List Group) (n i : ℕ) (gap : IsGapFor gs n i) where
  pub absent_is : None ≡ group_at gs n
  absent_is = sym (none_at gs n (gap_others gs n i gap.before gap.behind))

  pub unmarked_is : (b : Bool) → gs ≡ with_mark b n gs
  unmarked_is b = sym (others_stay (marked b n) n (marked_others b n) gs (gap_others gs n i gap.before gap.behind))

  pub opened_new : state (take i gs ++ new_group n ∷ drop i gs) (Some i)
      ≡ record { groups = with_group n gs; current = Some n }
  opened_new =
      ap₂ (λ (hs : List Group) (c : Option ℕ). record { groups = hs; current = c })
      (sym (group_new gs n i gap.before gap.behind))
      (ap (option_map (λ (h : Group). h.number)) (new_place gs (new_group n) i gap.within))

  pub groups_new : AreRising gs → AreGroups (take i gs ++ new_group n ∷ drop i gs) (Some i)
  groups_new rising = record {
    rising = rising_inserted gs n i rising gap.before gap.behind;
    placed = slice_get_within (take i gs ++ new_group n ∷ drop i gs) i (new_group n)
        (new_place gs (new_group n) i gap.within);
  }

-- the place of the group of a number, if there is one
pub place_is : (gs : List Group) (n : ℕ) (r : Result ℕ ℕ) (o : Option ℕ) → o ≡ result_ok r → IfOk r (IsGroupAt gs n)
    → IfErr r (IsGapFor gs n) → MatchOption o (is_group gs n ≡ false) (IsGroupAt gs n)
place_is gs n (Ok i) o e found absent =
    subst (λ (p : Option ℕ). MatchOption p (is_group gs n ≡ false) (IsGroupAt gs n)) (sym e) found
place_is gs n (Err i) o e found absent =
    subst (λ (p : Option ℕ). MatchOption p (is_group gs n ≡ false) (IsGroupAt gs n)) (sym e)
    (ap is_some (none_at gs n (gap_others gs n i absent.before absent.behind)))

-- changes that leave the numbers

place_kept : (f : Group → Group) → ((g : Group) → (f g).number ≡ g.number) → (gs : List Group) (place : Option ℕ)
    → number_at (map f gs) place ≡ number_at gs place
place_kept f keeps gs None = refl
place_kept f keeps gs (Some i) = number_kept f keeps gs i

low_kept : (f : Group → Group) (gs : List Group) (i : ℕ) → i < length gs → i < length (map f gs)
low_kept f [] i low = low
low_kept f (g ∷ gs) zero low = omega arith
low_kept f (g ∷ gs) (suc i) low =
    let rest : i < length (map f gs) = low_kept f gs i (omega (arith, low)) in
    omega (arith, rest)

is_place_kept : (f : Group → Group) (gs : List Group) (place : Option ℕ) → IsPlace gs place → IsPlace (map f gs) place
is_place_kept f gs None at = tt
is_place_kept f gs (Some i) at = low_kept f gs i at

pub groups_kept : (f : Group → Group) → ((g : Group) → (f g).number ≡ g.number) → (gs hs : List Group)
    (place : Option ℕ) → hs ≡ map f gs → AreGroups gs place → AreGroups hs place
groups_kept f keeps gs hs place e are = rw e (record {
  rising = rising_kept f keeps gs are.rising;
  placed = is_place_kept f gs place are.placed;
})

pub state_kept : (f : Group → Group) → ((g : Group) → (f g).number ≡ g.number) → (gs hs : List Group)
    (place : Option ℕ) → hs ≡ map f gs
    → state hs place ≡ record { groups = map f gs; current = number_at gs place }
state_kept f keeps gs hs place e =
    ap (λ (xs : List Group). state xs place) e
    ∙ ap (λ (c : Option ℕ). record { groups = map f gs; current = c }) (place_kept f keeps gs place)

pub same_set : (gs : List Group) (i : ℕ) (x : Group) → i < length gs → x ≡ get_or gs i x → set gs i x ≡ gs
same_set [] i x low e = refl
same_set (g ∷ gs) zero x low e = ap (λ (y : Group). y ∷ gs) e
same_set (g ∷ gs) (suc i) x low e = ap (λ (xs : List Group). g ∷ xs) (same_set gs i x (omega (arith, low)) e)

-- the last of a list
last_at : (xs : List Row) (k : ℕ) (row : Row) → k + 1 ≡ length xs → slice_get xs k ≡ Some row
    → xs ≡ take k xs ++ row ∷ []
last_at [] k row n e = absurd (omega (arith, n))
last_at (x ∷ []) zero row n e = let same : x ≡ row = cc in ap (λ (r : Row). r ∷ []) same
last_at (x ∷ []) (suc k) row n e = absurd (omega (arith, n))
last_at (x ∷ y ∷ xs) zero row n e = absurd (omega (arith, n))
last_at (x ∷ y ∷ xs) (suc k) row n e =
    ap (λ (rows : List Row). x ∷ rows) (last_at (y ∷ xs) k row (omega (arith, n)) e)

last_split : (xs : List Row) (row : Row) → slice_get xs (length xs - 1) ≡ Some row
    → xs ≡ take (length xs - 1) xs ++ row ∷ []
last_split [] row e = absurd (let f : None ≡ Some row = e in cc)
last_split (x ∷ xs) row e = last_at (x ∷ xs) (length (x ∷ xs) - 1) row (omega arith) e

some_at : (xs : List Row) (k : ℕ) → k < length xs → slice_get xs k ≡ None → ⊥
some_at [] k low e = absurd (omega (arith, low))
some_at (x ∷ xs) zero low e = absurd (let f : Some x ≡ None = e in cc)
some_at (x ∷ xs) (suc k) low e = some_at xs k (omega (arith, low)) e

last_none : (xs : List Row) → slice_get xs (length xs - 1) ≡ None → xs ≡ []
last_none [] e = refl
last_none (x ∷ xs) e = absurd (some_at (x ∷ xs) (length (x ∷ xs) - 1) (omega arith) e)

-- the open group, at its place
module _ (gs : List Group) (place : Option ℕ) (i : ℕ) (x : Group) (is_open : place ≡ Some i) (are : AreGroups gs place)
    (read : x ≡ get_or gs i x) where
  pub low : i < length gs
  low = placed_low gs place i is_open are.placed

  there : slice_get gs i ≡ Some x
  there = slice_get_read gs (length gs) i x refl low read

  pub current_is : number_at gs place ≡ Some x.number
  current_is = sym (number_here gs place i x.number x is_open there refl)

  pub grown_is : (row : Row) (y : Group) → y ≡ record x { clauses = x.clauses ++ row ∷ [] }
      → set gs i y ≡ with_clause_at row x.number gs
  grown_is row y to =
      changed_at (grown row x.number) x.number (grown_others row x.number) gs i x y are.rising there refl
      (grown_one row x.number x refl ∙ sym to)

  pub put_groups : (row : Row) (y : Group) → y ≡ record x { clauses = x.clauses ++ row ∷ [] }
      → AreGroups (set gs i y) place
  put_groups row y to = groups_kept (grown row x.number) (grown_numbers row x.number) gs (set gs i y) place
      (grown_is row y to) are

  pub put_is : (row : Row) (y : Group) → y ≡ record x { clauses = x.clauses ++ row ∷ [] }
      → state (set gs i y) place ≡ with_joined row (state gs place)
  put_is row y to =
      state_kept (grown row x.number) (grown_numbers row x.number) gs (set gs i y) place (grown_is row y to)
      ∙ by (number_at gs place) current_is
    where
      by : (c : Option ℕ) → c ≡ Some x.number
          → record { groups = with_clause_at row x.number gs; current = c }
          ≡ with_joined row (record { groups = gs; current = c })
      by None e = absurd (let f : None ≡ Some x.number = e in cc)
      by (Some m) e =
          let is : x.number ≡ m = cc in
          ap (λ (k : ℕ). record { groups = with_clause_at row k gs; current = Some m }) is

  pub unput_is : (y : Group) → y ≡ x → set gs i y ≡ gs
  unput_is y e = ap (set gs i) e ∙ same_set gs i x low read

  -- what is left of it, after its last clause, if it has one
  pub shrunk_is : (o : Option Row) (y : Group)
      → IfSome o (λ row. x ≡ record y { clauses = y.clauses ++ row ∷ [] })
      → IfNone o ((x.clauses ≡ []) × (y ≡ x)) → shrunk x.number x ≡ y
  shrunk_is None y some none =
      shrunk_one x.number x refl
      ∙ ap (λ (rows : List Row). record x { clauses = rows }) (short x.clauses none.0 ∙ sym none.0)
      ∙ sym none.1
    where
      short : (rows : List Row) → rows ≡ [] → take (length rows - 1) rows ≡ []
      short [] e = refl
      short (r ∷ rs) e = absurd (let f : r ∷ rs ≡ [] = e in cc)
  shrunk_is (Some row) y some none =
      shrunk_one x.number x refl ∙ ap front_of some
      ∙ ap (λ (rows : List Row). record y { clauses = rows }) (all_but_last y.clauses row)

  pub left_is : (o : Option Row) (y : Group)
      → IfSome o (λ row. x ≡ record y { clauses = y.clauses ++ row ∷ [] })
      → IfNone o ((x.clauses ≡ []) × (y ≡ x)) → set gs i y ≡ map (shrunk x.number) gs
  left_is o y some none =
      changed_at (shrunk x.number) x.number (shrunk_others x.number) gs i x y are.rising there refl
      (shrunk_is o y some none)

  pub left_groups : (o : Option Row) (y : Group)
      → IfSome o (λ row. x ≡ record y { clauses = y.clauses ++ row ∷ [] })
      → IfNone o ((x.clauses ≡ []) × (y ≡ x)) → AreGroups (set gs i y) place
  left_groups o y some none = groups_kept (shrunk x.number) (shrunk_numbers x.number) gs (set gs i y) place
      (left_is o y some none) are

  pub last_is : (o : Option Row) (y : Group)
      → IfSome o (λ row. x ≡ record y { clauses = y.clauses ++ row ∷ [] })
      → IfNone o ((x.clauses ≡ []) × (y ≡ x)) → state (set gs i y) place ≡ without_last (state gs place)
  last_is o y some none =
      state_kept (shrunk x.number) (shrunk_numbers x.number) gs (set gs i y) place (left_is o y some none)
      ∙ by (number_at gs place) current_is
    where
      by : (c : Option ℕ) → c ≡ Some x.number
          → record { groups = map (shrunk x.number) gs; current = c }
          ≡ without_last (record { groups = gs; current = c })
      by None e = absurd (let f : None ≡ Some x.number = e in cc)
      by (Some m) e =
          let is : x.number ≡ m = cc in
          ap (λ (k : ℕ). record { groups = map (shrunk k) gs; current = Some m }) is

  pub joined_with_last : (o : Option Row) (y : Group)
      → IfSome o (λ row. x ≡ record y { clauses = y.clauses ++ row ∷ [] })
      → IfNone o ((x.clauses ≡ []) × (y ≡ x))
      → IfSome o (λ row. state gs place ≡ with_joined row (state (set gs i y) place))
  joined_with_last None y some none = tt
  joined_with_last (Some row) y some none =
      let number : y.number ≡ x.number = ap (λ (g : Group). g.number) (sym some) in
      let back : map (grown row x.number) (set gs i y) ≡ gs =
      changed_back (grown row x.number) x.number (grown_others row x.number) gs i x y are.rising there refl
      (grown_one row x.number y number ∙ sym some) in
      let same : number_at (set gs i y) place ≡ number_at gs place =
      ap (λ (s : GroupsState). s.current) (last_is (Some row) y some none) in
      by (number_at gs place) (number_at (set gs i y) place) current_is same back
    where
      by : (c d : Option ℕ) → c ≡ Some x.number → d ≡ c → map (grown row x.number) (set gs i y) ≡ gs
          → record { groups = gs; current = c } ≡ with_joined row (record { groups = set gs i y; current = d })
      by None d e f back = absurd (let g : None ≡ Some x.number = e in cc)
      by (Some m) None e f back = absurd (let g : None ≡ Some m = f in cc)
      by (Some m) (Some k) e f back =
          let one : x.number ≡ k = cc in
          let two : Some k ≡ Some m = f in
          ap₂ (λ (hs : List Group) (c : Option ℕ). record { groups = hs; current = c })
          (sym back ∙ ap (λ (j : ℕ). map (grown row j) (set gs i y)) one) (sym two)

  pub none_left : (o : Option Row) (y : Group) → IfNone o ((x.clauses ≡ []) × (y ≡ x)) → (n : ℕ)
      → number_at gs place ≡ Some n → o ≡ None → clauses_at gs n ≡ []
  none_left None y none n e f =
      let is : x.number ≡ n = let g : Some x.number ≡ Some n = sym current_is ∙ e in cc in
      ap (λ (p : Option Group). unwrap_or (option_map (λ (g : Group). g.clauses) p) [])
      (at_place gs n i x are.rising there is) ∙ none.0
  none_left (Some row) y none n e f = absurd (let g : Some row ≡ None = f in cc)

  -- its last clause, if it has one

  front_is : (row : Row) → slice_get x.clauses (length x.clauses - 1) ≡ Some row
      → x ≡ record (front_of x) { clauses = (front_of x).clauses ++ row ∷ [] }
  front_is row e = ap (λ (rows : List Row). record x { clauses = rows }) (last_split x.clauses row e)

  pub newest_is : (o : Option Row) → o ≡ slice_get x.clauses (length x.clauses - 1)
      → IfSome o (λ row. state gs place ≡ with_joined row (without_last (state gs place)))
  newest_is None e = tt
  newest_is (Some row) e =
      let split = front_is row (sym e) in
      joined_with_last (Some row) (front_of x) split tt
      ∙ ap (with_joined row) (last_is (Some row) (front_of x) split tt)

  pub newest_none : (o : Option Row) → o ≡ slice_get x.clauses (length x.clauses - 1) → (n : ℕ)
      → number_at gs place ≡ Some n → o ≡ None → clauses_at gs n ≡ []
  newest_none None e n at none = none_left None x (last_none x.clauses (sym e), refl) n at refl
  newest_none (Some row) e n at none = absurd (let f : Some row ≡ None = none in cc)

-- clauses of active groups, one group after the other
pub active_more : (gs : List Group) (k : ℕ) (g : Group) → slice_get gs k ≡ Some g
    → active_in (take (suc k) gs) ≡ active_in (take k gs) ++ active_of g
active_more [] k g e = absurd (let f : None ≡ Some g = e in cc)
active_more (h ∷ gs) zero g e =
    let f : Some h ≡ Some g = e in
    let same : h ≡ g = cc in
    append-nil (active_of h) ∙ ap active_of same
active_more (h ∷ gs) (suc k) g e =
    ap (λ (rows : List Row). active_of h ++ rows) (active_more gs k g e)
    ∙ sym (append_assoc (active_of h) (active_in (take k gs)) (active_of g))
