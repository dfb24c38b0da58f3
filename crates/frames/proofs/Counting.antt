-- How many clauses and literals groups have, and what holds of all their clauses.
use Rattle.std.proofs.Common.{◌≡◌, ℕ, zero, suc, ◌+◌, ◌-◌, ◌<◌, Bool, true, false, List, [], ◌∷◌, ◌++◌, length, map, take, Option, Some, None, refl, sym, ap, ap₂, ◌∙◌, subst, arith, length-append}
use Rattle.std.specs.Prelude.{◌==◌, nat_lt, unwrap_or, option_map, if◌then◌else◌, slice_get}
use Rattle.std.specs.List.{AllByRecursion, flat_map}
use Rattle.std.proofs.lemmas.Bool.{eq-eqb, eqb-true}
use Rattle.std.proofs.lemmas.List.{append-nil}
use Rattle.std.proofs.lemmas.Grind.{flat_map-append}
use Rattle.calculus.specs.Rows.{Row}
use Rattle.calculus.proofs.Lists.{all_append, all_behind, all_front, all_more, all_taken}
use Rattle.frames.specs.Groups.{AreRising, Group, active_in, clauses_at, group_at, grouped_in, grown, inactive_in, new_group, with_clause_at, with_group, with_mark}
use Rattle.frames.specs.Places.{joined, shortened, shrunk}
use Rattle.frames.specs.State.{literals_in}
use Rattle.frames.proofs.Grouping.{AreOthers, grown_one, grown_others}

pub literals_append : (xs ys : List Row) → literals_in (xs ++ ys) ≡ literals_in xs + literals_in ys
literals_append xs ys =
    ap length (flat_map-append (λ (row : Row). row) xs ys)
    ∙ length-append (flat_map (λ (row : Row). row) xs) (flat_map (λ (row : Row). row) ys)

-- marks and new groups change no clause

marked_clauses : (b active : Bool) (g : Group) → (if b then record g { active = active } else g).clauses ≡ g.clauses
marked_clauses true active g = refl
marked_clauses false active g = refl

pub grouped_marked : (active : Bool) (n : ℕ) (gs : List Group) → grouped_in (with_mark active n gs) ≡ grouped_in gs
grouped_marked active n [] = refl
grouped_marked active n (g ∷ gs) =
    ap₂ (λ (x y : List Row). x ++ y) (marked_clauses (g.number == n) active g) (grouped_marked active n gs)

pub grouped_new : (n : ℕ) (gs : List Group) → grouped_in (with_group n gs) ≡ grouped_in gs
grouped_new n [] = refl
grouped_new n (g ∷ gs) = by (nat_lt n g.number) (g.number == n) (grouped_new n gs)
  where
    by : (b c : Bool) → grouped_in (with_group n gs) ≡ grouped_in gs
        → grouped_in (if b then new_group n ∷ g ∷ gs else if c then g ∷ gs else g ∷ with_group n gs)
        ≡ grouped_in (g ∷ gs)
    by true c rest = refl
    by false true rest = refl
    by false false rest = ap (λ (rows : List Row). g.clauses ++ rows) rest

-- what holds of all clauses of groups

module _ (P : Row → Type 0) where
  grown_all : (b : Bool) (row : Row) (g : Group) → AllByRecursion P g.clauses → P row
      → AllByRecursion P (if b then record g { clauses = g.clauses ++ row ∷ [] } else g).clauses
  grown_all true row g all p = all_more P g.clauses row all p
  grown_all false row g all p = all

  pub all_grown : (row : Row) (n : ℕ) (gs : List Group) → AllByRecursion P (grouped_in gs) → P row
      → AllByRecursion P (grouped_in (with_clause_at row n gs))
  all_grown row n [] all p = tt
  all_grown row n (g ∷ gs) all p =
      all_append P (grown row n g).clauses (grouped_in (with_clause_at row n gs))
      (grown_all (g.number == n) row g (all_front P g.clauses (grouped_in gs) all) p)
      (all_grown row n gs (all_behind P g.clauses (grouped_in gs) all) p)

  pub all_joined : (current : Option ℕ) (row : Row) (gs : List Group) → AllByRecursion P (grouped_in gs) → P row
      → AllByRecursion P (grouped_in (joined current row gs))
  all_joined None row gs all p = all
  all_joined (Some n) row gs all p = all_grown row n gs all p

  shrunk_all : (b : Bool) (g : Group) → AllByRecursion P g.clauses
      → AllByRecursion P (if b then record g { clauses = take (length g.clauses - 1) g.clauses } else g).clauses
  shrunk_all true g all = all_taken P (length g.clauses - 1) g.clauses all
  shrunk_all false g all = all

  all_shrunk : (n : ℕ) (gs : List Group) → AllByRecursion P (grouped_in gs)
      → AllByRecursion P (grouped_in (map (shrunk n) gs))
  all_shrunk n [] all = tt
  all_shrunk n (g ∷ gs) all =
      all_append P (shrunk n g).clauses (grouped_in (map (shrunk n) gs))
      (shrunk_all (g.number == n) g (all_front P g.clauses (grouped_in gs) all))
      (all_shrunk n gs (all_behind P g.clauses (grouped_in gs) all))

  pub all_shortened : (current : Option ℕ) (gs : List Group) → AllByRecursion P (grouped_in gs)
      → AllByRecursion P (grouped_in (shortened current gs))
  all_shortened None gs all = all
  all_shortened (Some n) gs all = all_shrunk n gs all

  active_all : (b : Bool) (rows rest : List Row) → AllByRecursion P rows → AllByRecursion P rest
      → AllByRecursion P ((if b then rows else []) ++ rest)
  active_all true rows rest all more = all_append P rows rest all more
  active_all false rows rest all more = more

  pub all_active : (gs : List Group) → AllByRecursion P (grouped_in gs) → AllByRecursion P (active_in gs)
  all_active [] all = tt
  all_active (g ∷ gs) all = active_all g.active g.clauses (active_in gs) (all_front P g.clauses (grouped_in gs) all)
      (all_active gs (all_behind P g.clauses (grouped_in gs) all))

  one_all : (b : Bool) (g : Group) (o : Option Group) → AllByRecursion P g.clauses
      → AllByRecursion P (unwrap_or (option_map (λ (h : Group). h.clauses) o) [])
      → AllByRecursion P (unwrap_or (option_map (λ (h : Group). h.clauses) (if b then Some g else o)) [])
  one_all true g o all rest = all
  one_all false g o all rest = rest

  pub all_at : (gs : List Group) (n : ℕ) → AllByRecursion P (grouped_in gs) → AllByRecursion P (clauses_at gs n)
  all_at [] n all = tt
  all_at (g ∷ gs) n all = one_all (g.number == n) g (group_at gs n) (all_front P g.clauses (grouped_in gs) all)
      (all_at gs n (all_behind P g.clauses (grouped_in gs) all))

  pub all_place : (gs : List Group) (i : ℕ) (g : Group) → AllByRecursion P (grouped_in gs) → slice_get gs i ≡ Some g
      → AllByRecursion P g.clauses
  all_place [] i g all e = absurd (let f : None ≡ Some g = e in cc)
  all_place (h ∷ gs) zero g all e =
      let f : Some h ≡ Some g = e in
      let same : h ≡ g = cc in
      subst (λ (k : Group). AllByRecursion P k.clauses) same (all_front P h.clauses (grouped_in gs) all)
  all_place (h ∷ gs) (suc i) g all e = all_place gs i g (all_behind P h.clauses (grouped_in gs) all) e

-- how many clauses and literals there are

-- a measure of lists of rows that is a sum over their parts
module _ (size : List Row → ℕ) (nothing : size [] ≡ 0)
    (sums : (xs ys : List Row) → size (xs ++ ys) ≡ size xs + size ys) where
  part : (b : Bool) (rows active inactive : List Row)
      → size ((if b then rows else []) ++ active) + size ((if b then [] else rows) ++ inactive)
      ≡ size rows + (size active + size inactive)
  part true rows active inactive =
      let more : size (rows ++ active) ≡ size rows + size active = sums rows active in omega (arith, more)
  part false rows active inactive =
      let more : size (rows ++ inactive) ≡ size rows + size inactive = sums rows inactive in omega (arith, more)

  parts : (gs : List Group) → size (active_in gs) + size (inactive_in gs) ≡ size (grouped_in gs)
  parts [] = omega (arith, nothing)
  parts (g ∷ gs) =
      let first = part g.active g.clauses (active_in gs) (inactive_in gs) in
      let rest : size (active_in gs) + size (inactive_in gs) ≡ size (grouped_in gs) = parts gs in
      first ∙ ap (λ k. size g.clauses + k) rest ∙ sym (sums g.clauses (grouped_in gs))

  -- all clauses are as many as those outside groups and those of groups
  pub size_all : (rows : List Row) (gs : List Group)
      → size ((rows ++ active_in gs) ++ inactive_in gs) ≡ size (rows ++ grouped_in gs)
  size_all rows gs =
      let one : size ((rows ++ active_in gs) ++ inactive_in gs) ≡ size (rows ++ active_in gs) + size (inactive_in gs)
      = sums (rows ++ active_in gs) (inactive_in gs) in
      let two : size (rows ++ active_in gs) ≡ size rows + size (active_in gs) = sums rows (active_in gs) in
      let three : size (active_in gs) + size (inactive_in gs) ≡ size (grouped_in gs) = parts gs in
      let four : size (rows ++ grouped_in gs) ≡ size rows + size (grouped_in gs) = sums rows (grouped_in gs) in
      omega (arith, one, two, three, four)

  -- one more clause in the group of a number that is there
  grouped_others : (row : Row) (n : ℕ) (gs : List Group) → AreOthers n gs
      → size (grouped_in (with_clause_at row n gs)) ≡ size (grouped_in gs)
  grouped_others row n [] all = refl
  grouped_others row n (g ∷ gs) all =
      let first : (grown row n g).clauses ≡ g.clauses = ap (λ (h : Group). h.clauses) (grown_others row n g all.0) in
      sums (grown row n g).clauses (grouped_in (with_clause_at row n gs))
      ∙ ap₂ (λ (a b : ℕ). a + b) (ap size first) (grouped_others row n gs all.1)
      ∙ sym (sums g.clauses (grouped_in gs))

above_apart : (n m : ℕ) (gs : List Group) → m ≡ n → AllByRecursion (λ (g : Group). m < g.number) gs → AreOthers n gs
above_apart n m [] is all = tt
above_apart n m (g ∷ gs) is all =
    let high : m < g.number = all.0 in
    (λ e. omega (arith, high, is, e), above_apart n m gs is all.1)

module _ (size : List Row → ℕ) (nothing : size [] ≡ 0)
    (sums : (xs ys : List Row) → size (xs ++ ys) ≡ size xs + size ys) where
  pub size_grown : (row : Row) (n : ℕ) (gs : List Group) (found : Group) → AreRising gs → group_at gs n ≡ Some found
      → size (grouped_in (with_clause_at row n gs)) ≡ size (grouped_in gs) + size (row ∷ [])
  size_grown row n [] found rising e = absurd (let c : None ≡ Some found = e in cc)
  size_grown row n (g ∷ gs) found rising e = by (g.number == n) refl e (λ f. size_grown row n gs found rising.1 f)
    where
      by : (b : Bool) → (g.number == n) ≡ b → (if b then Some g else group_at gs n) ≡ Some found
          → (group_at gs n ≡ Some found
          → size (grouped_in (with_clause_at row n gs)) ≡ size (grouped_in gs) + size (row ∷ []))
          → size (grouped_in (with_clause_at row n (g ∷ gs))) ≡ size (grouped_in (g ∷ gs)) + size (row ∷ [])
      by true here there later =
          let is : g.number ≡ n = eqb-true g.number n here in
          let first : (grown row n g).clauses ≡ g.clauses ++ row ∷ [] =
          ap (λ (h : Group). h.clauses) (grown_one row n g is) in
          let all : size (grouped_in (with_clause_at row n (g ∷ gs))) ≡ size (grown row n g).clauses
          + size (grouped_in (with_clause_at row n gs)) =
          sums (grown row n g).clauses (grouped_in (with_clause_at row n gs)) in
          let more : size (grown row n g).clauses ≡ size g.clauses + size (row ∷ []) =
          ap size first ∙ sums g.clauses (row ∷ []) in
          let same : size (grouped_in (with_clause_at row n gs)) ≡ size (grouped_in gs) =
          grouped_others size nothing sums row n gs (above_apart n g.number gs is rising.0) in
          let old : size (grouped_in (g ∷ gs)) ≡ size g.clauses + size (grouped_in gs) =
          sums g.clauses (grouped_in gs) in
          omega (arith, all, more, same, old)
      by false here there later =
          let first : (grown row n g).clauses ≡ g.clauses =
          ap (λ (h : Group). h.clauses)
          (grown_others row n g (λ c. absurd (let d : true ≡ false = sym (eq-eqb g.number n c) ∙ here in cc))) in
          let all : size (grouped_in (with_clause_at row n (g ∷ gs))) ≡ size (grown row n g).clauses
          + size (grouped_in (with_clause_at row n gs)) =
          sums (grown row n g).clauses (grouped_in (with_clause_at row n gs)) in
          let same : size (grown row n g).clauses ≡ size g.clauses = ap size first in
          let more : size (grouped_in (with_clause_at row n gs)) ≡ size (grouped_in gs) + size (row ∷ []) =
          later there in
          let old : size (grouped_in (g ∷ gs)) ≡ size g.clauses + size (grouped_in gs) =
          sums g.clauses (grouped_in gs) in
          omega (arith, all, more, same, old)

-- the two sizes

pub length_all : (rows : List Row) (gs : List Group)
    → length ((rows ++ active_in gs) ++ inactive_in gs) ≡ length (rows ++ grouped_in gs)
length_all rows gs = size_all (λ (xs : List Row). length xs) refl (λ xs ys. length-append xs ys) rows gs

pub literals_all : (rows : List Row) (gs : List Group)
    → literals_in ((rows ++ active_in gs) ++ inactive_in gs) ≡ literals_in (rows ++ grouped_in gs)
literals_all rows gs = size_all literals_in refl literals_append rows gs

pub length_grown : (row : Row) (n : ℕ) (gs : List Group) (found : Group) → AreRising gs → group_at gs n ≡ Some found
    → length (grouped_in (with_clause_at row n gs)) ≡ length (grouped_in gs) + 1
length_grown row n gs found rising e =
    size_grown (λ (xs : List Row). length xs) refl (λ xs ys. length-append xs ys) row n gs found rising e

pub literals_grown : (row : Row) (n : ℕ) (gs : List Group) (found : Group) → AreRising gs → group_at gs n ≡ Some found
    → literals_in (grouped_in (with_clause_at row n gs)) ≡ literals_in (grouped_in gs) + length row
literals_grown row n gs found rising e =
    size_grown literals_in refl literals_append row n gs found rising e
    ∙ ap (λ (ls : Row). literals_in (grouped_in gs) + length ls) (append-nil row)
