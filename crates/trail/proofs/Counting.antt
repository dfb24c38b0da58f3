-- How many variables of a scope are assigned.
use Rattle.std.proofs.Common.{◌≡◌, ℕ, zero, suc, ◌+◌, ◌-◌, ◌<◌, ◌≤◌, Bool, true, false, cond, List, [], ◌∷◌, ◌++◌, length, map, Contains, None, is_some, unwrap_or, option_map, refl, sym, ap, ◌∙◌, ⊎_elim, arith, nat_eq, append_assoc, append-nil}
use Rattle.std.specs.Prelude.{count_by, slice_get}
use Rattle.std.proofs.lemmas.Bool.{cases_Bool, cases_eq, cond-true, cond-false, eq-eqb, ne_eqb, true≢false}
use Rattle.std.proofs.lemmas.List.Elements.{Contains-append_left, Contains-append_right, Contains-append_cases}
use Rattle.std.proofs.lemmas.List.Sums.{sum_by-cons, count_by-le-length}
use Rattle.prefix.specs.Scopes.{Scope, all_variables, variables_at, is_among, AreDistinct}
use Rattle.calculus.specs.Rows.{depth_of}
use Rattle.calculus.specs.Search.{Placed, Trail, IsOrderedAfter, IsOrderedTrail, value_on}
use Rattle.calculus.proofs.Levels.{IsDistinct, distinct_apart, distinct_from, distinct_right, level_from, level_at_least, depth_counted}
use Rattle.calculus.proofs.Lists.{among_at, among_from, contains_cons, contains_nil, contains_head, contains_tail}
use Rattle.calculus.proofs.TrailMoves.{value_new}
use Rattle.trail.specs.declared.entry.Entry.{Entry}
use Rattle.trail.specs.Open.{is_assigned}
use Rattle.trail.specs.State.{TrailState, IsTrailFor}
use Rattle.trail.specs.Table.{depths_of, placed_of, scopes_in, trail_of}
use Rattle.trail.proofs.Placing.{value_other}

-- distinct lists

pub distinct_left : (xs ys : List ℕ) → IsDistinct (xs ++ ys) → IsDistinct xs
distinct_left [] ys d = tt
distinct_left (x ∷ xs) ys d = ((λ i. d.0 (Contains-append_left xs ys x i)), distinct_left xs ys d.1)

-- the variables of a scope, by its number less 1
abbrev pub variables_in : List Scope → ℕ → List ℕ
variables_in scopes i = unwrap_or (option_map (λ (s : Scope). s.variables) (slice_get scopes i)) []

pub variables_before : (scopes : List Scope) (n i : ℕ) → n ≡ suc i → variables_at scopes n ≡ variables_in scopes i
variables_before scopes n i e = let back : n - 1 ≡ i = omega arith in ap (variables_in scopes) back

pub variables_within : (scopes : List Scope) (i : ℕ) (x : ℕ) → Contains (variables_in scopes i) x
    → Contains (all_variables scopes) x
variables_within [] i x h = absurd (contains_nil x h)
variables_within (s ∷ scopes) zero x h = Contains-append_left s.variables (all_variables scopes) x h
variables_within (s ∷ scopes) (suc i) x h = Contains-append_right s.variables (all_variables scopes) x
    (variables_within scopes i x h)

pub variables_distinct : (scopes : List Scope) (i : ℕ) → IsDistinct (all_variables scopes)
    → IsDistinct (variables_in scopes i)
variables_distinct [] i d = tt
variables_distinct (s ∷ scopes) zero d = distinct_left s.variables (all_variables scopes) d
variables_distinct (s ∷ scopes) (suc i) d = variables_distinct scopes i
    (distinct_right s.variables (all_variables scopes) d)

-- the number of a variable's scope
module _ (start : ℕ) (s : Scope) (scopes : List Scope) (x : ℕ) where
  level_here : is_among x s.variables ≡ true → level_from start (s ∷ scopes) x ≡ start
  level_here t = cond-true (is_among x s.variables) start (level_from (suc start) scopes x) t

  level_there : is_among x s.variables ≡ false → level_from start (s ∷ scopes) x ≡ level_from (suc start) scopes x
  level_there f = cond-false (is_among x s.variables) start (level_from (suc start) scopes x) f

-- a variable of a scope has its number
counted_at : (start : ℕ) (scopes : List Scope) (i x : ℕ) → IsDistinct (all_variables scopes)
    → Contains (variables_in scopes i) x → level_from start scopes x ≡ start + i
counted_at start [] i x d h = absurd (contains_nil x h)
counted_at start (s ∷ scopes) zero x d h = let e = level_here start s scopes x (among_from s.variables x h) in
    omega arith
counted_at start (s ∷ scopes) (suc i) x d h =
    ⊎_elim
    (λ t. absurd (distinct_apart s.variables (all_variables scopes) d x (among_at s.variables x t)
    (variables_within scopes i x h)))
    (λ f. let e = level_there start s scopes x f in let later : level_from (suc start) scopes x ≡ suc start + i =
    counted_at (suc start) scopes i x (distinct_right s.variables (all_variables scopes) d) h in omega arith)
    (cases_Bool (is_among x s.variables))

pub depth_at : (scopes : List Scope) (i x : ℕ) → IsDistinct (all_variables scopes) → Contains (variables_in scopes i) x
    → depth_of scopes x ≡ suc i
depth_at scopes i x d h = let counted = depth_counted scopes x in let e = counted_at 1 scopes i x d h in omega arith

-- and the other way round
counted_stands : (start : ℕ) (scopes : List Scope) (i x : ℕ) → Contains (all_variables scopes) x
    → level_from start scopes x ≡ start + i → Contains (variables_in scopes i) x
counted_stands start [] i x h e = absurd (contains_nil x h)
counted_stands start (s ∷ scopes) zero x h e =
    ⊎_elim (λ t. among_at s.variables x t)
    (λ f. absurd (let there = level_there start s scopes x f in let least : suc start ≤ level_from (suc start) scopes
    x = level_at_least (suc start) scopes x in omega arith))
    (cases_Bool (is_among x s.variables))
counted_stands start (s ∷ scopes) (suc i) x h e =
    ⊎_elim (λ t. absurd (let here = level_here start s scopes x t in omega arith))
    (λ f.
    let there = level_there start s scopes x f in
    let later : level_from (suc start) scopes x ≡ suc start + i = omega arith in
    counted_stands (suc start) scopes i x (⊎_elim (λ j. absurd (true≢false (sym (among_from s.variables x j) ∙ f)))
    (λ j. j) (Contains-append_cases s.variables (all_variables scopes) x h)) later)
    (cases_Bool (is_among x s.variables))

pub depth_stands : (scopes : List Scope) (i x : ℕ) → Contains (all_variables scopes) x → depth_of scopes x ≡ suc i
    → Contains (variables_in scopes i) x
depth_stands scopes i x h e = let counted = depth_counted scopes x in counted_stands 1 scopes i x h (omega arith)

-- a variable of the prefix has the number of a scope
counted_most : (start : ℕ) (scopes : List Scope) (x : ℕ) → Contains (all_variables scopes) x
    → level_from start scopes x < start + length scopes
counted_most start [] x h = absurd (contains_nil x h)
counted_most start (s ∷ scopes) x h =
    ⊎_elim (λ t. let here = level_here start s scopes x t in omega arith)
    (λ f.
    let there = level_there start s scopes x f in
    let later : level_from (suc start) scopes x < suc start + length scopes = counted_most (suc start) scopes x
    (⊎_elim (λ j. absurd (true≢false (sym (among_from s.variables x j) ∙ f))) (λ j. j)
    (Contains-append_cases s.variables (all_variables scopes) x h)) in
    omega arith)
    (cases_Bool (is_among x s.variables))

pub depth_most : (scopes : List Scope) (x : ℕ) → Contains (all_variables scopes) x → depth_of scopes x ≤ length scopes
depth_most scopes x h = let counted = depth_counted scopes x in let most = counted_most 1 scopes x h in omega arith

-- counts of a list

-- nothing changes for a variable that isn't there
count_same : (f g : ℕ → Bool) (x : ℕ) (xs : List ℕ) → (Contains xs x → ⊥) → ((y : ℕ) → (x ≡ y → ⊥) → g y ≡ f y)
    → count_by g xs ≡ count_by f xs
count_same f g x [] absent same = refl
count_same f g x (y ∷ xs) absent same =
    let one : cond {A = ℕ} (g y) 1 0 ≡ cond {A = ℕ} (f y) 1 0 = ap (λ b. cond {A = ℕ} b 1 0)
    (same y (λ e. absent (rw e (contains_head y xs)))) in
    let later : count_by g xs ≡ count_by f xs = count_same f g x xs (λ i. absent (contains_tail y xs x i)) same in
    omega (
      arith,
      one,
      later,
      sum_by-cons (λ z. cond {A = ℕ} (g z) 1 0) y xs,
      sum_by-cons (λ z. cond {A = ℕ} (f z) 1 0)
          y xs,
    )

-- one more variable passes
count_one_more : (f g : ℕ → Bool) (x : ℕ) (xs : List ℕ) → IsDistinct xs → Contains xs x → f x ≡ false → g x ≡ true
    → ((y : ℕ) → (x ≡ y → ⊥) → g y ≡ f y) → count_by g xs ≡ count_by f xs + 1
count_one_more f g x [] d i off on same = absurd (contains_nil x i)
count_one_more f g x (y ∷ xs) d i off on same =
    ⊎_elim
    (λ (e : y ≡ x).
    let one : cond {A = ℕ} (g y) 1 0 ≡ 1 = rw (e, on) refl in
    let none : cond {A = ℕ} (f y) 1 0 ≡ 0 = rw (e, off) refl in
    let later : count_by g xs ≡ count_by f xs = count_same f g x xs (λ j. d.0 (rw e j)) same in
    omega (
      arith,
      one,
      none,
      later,
      sum_by-cons (λ z. cond {A = ℕ} (g z) 1 0) y xs,
      sum_by-cons (λ z. cond {A = ℕ} (f z) 1 0) y xs,
    ))
    (λ j.
    let one : cond {A = ℕ} (g y) 1 0 ≡ cond {A = ℕ} (f y) 1 0 = ap (λ b. cond {A = ℕ} b 1 0)
    (same y (λ e. d.0 (rw (← e) j))) in
    let later : count_by g xs ≡ count_by f xs + 1 = count_one_more f g x xs d.1 j off on same in
    omega (
      arith,
      one,
      later,
      sum_by-cons (λ z. cond {A = ℕ} (g z) 1 0) y xs,
      sum_by-cons (λ z. cond {A = ℕ} (f z) 1 0)
          y xs,
    ))
    (contains_cons y xs x i)

-- none passes a test that nothing passes
count_none : (xs : List ℕ) → count_by (is_assigned []) xs ≡ 0
count_none [] = refl
count_none (x ∷ xs) = omega (arith, count_none xs, sum_by-cons (λ z. cond {A = ℕ} (is_assigned [] z) 1 0) x xs)

-- fewer than all: one fails
pub one_fails : (p : ℕ → Bool) (xs : List ℕ) → count_by p xs < length xs → (x : ℕ) × Contains xs x × (p x ≡ false)
one_fails p [] h = absurd (let none : count_by p [] ≡ 0 = refl in omega arith)
one_fails p (x ∷ xs) h =
    let cons = sum_by-cons (λ z. cond {A = ℕ} (p z) 1 0) x xs in
    ⊎_elim
    (λ t.
    let one : cond {A = ℕ} (p x) 1 0 ≡ 1 = rw t refl in
    let below : count_by p xs < length xs = omega arith in
    let later = one_fails p xs below in
    (later.0, contains_tail x xs later.0 later.1, later.2))
    (λ f. (x, contains_head x xs, f))
    (cases_Bool (p x))

-- as many as all: each passes
pub all_pass : (p : ℕ → Bool) (xs : List ℕ) → length xs ≤ count_by p xs → (x : ℕ) → Contains xs x → p x ≡ true
all_pass p [] h x i = absurd (contains_nil x i)
all_pass p (y ∷ xs) h x i =
    let cons = sum_by-cons (λ z. cond {A = ℕ} (p z) 1 0) y xs in
    let most : count_by p xs ≤ length xs = count_by-le-length p xs in
    ⊎_elim
    (λ t.
    let one : cond {A = ℕ} (p y) 1 0 ≡ 1 = rw t refl in
    let below : length xs ≤ count_by p xs = omega arith in
    ⊎_elim (λ e. rw (← e) t) (λ j. all_pass p xs below x j) (contains_cons y xs x i))
    (λ f. absurd (let none : cond {A = ℕ} (p y) 1 0 ≡ 0 = rw f refl in omega arith))
    (cases_Bool (p y))

-- the entries of a scope are its assigned variables

-- each entry has the scope that the prefix gives its variable
abbrev pub AreNumbered : List Scope → List Entry → Type 0
AreNumbered scopes [] = Unit {0}
AreNumbered scopes (e ∷ entries) = (e.scope + 1 ≡ depth_of scopes e.lit.variable) × AreNumbered scopes entries

pub numbered_from : (scopes : List Scope) (entries : List Entry) → depths_of entries ≡ map
    (λ (p : Placed). depth_of scopes p.literal.variable) (trail_of entries) → AreNumbered scopes entries
numbered_from scopes [] e = tt
numbered_from scopes (x ∷ entries) e =
    let first : x.scope + 1 ≡ depth_of scopes x.lit.variable = cc in
    let rest : depths_of entries ≡ map (λ (p : Placed). depth_of scopes p.literal.variable) (trail_of entries) = cc in
    (first, numbered_from scopes entries rest)

-- a new literal is assigned then
new_on : (earlier : Trail) (p : Placed) → value_on earlier p.literal.variable ≡ None → is_assigned (earlier ++ p ∷ [])
    p.literal.variable ≡ true
new_on earlier p fresh = ap is_some (value_new earlier p fresh).0

count_after : (scopes : List Scope) (i : ℕ) (earlier : Trail) (entries : List Entry) → IsDistinct (all_variables scopes)
    → IsOrderedAfter scopes earlier (trail_of entries) → AreNumbered scopes entries
    → count_by (λ s. nat_eq s i) (scopes_in entries) + count_by (is_assigned earlier) (variables_in scopes i) ≡ count_by
    (is_assigned (earlier ++ trail_of entries)) (variables_in scopes i)
count_after scopes i earlier [] d ordered numbered = let same : count_by (is_assigned earlier) (variables_in scopes i) ≡
    count_by (is_assigned (earlier ++ [])) (variables_in scopes i) =
    ap (λ t. count_by (is_assigned t) (variables_in scopes i)) (sym (append-nil earlier)) in omega arith
count_after scopes i earlier (e ∷ entries) d ordered numbered =
    let p = placed_of e in
    let x = e.lit.variable in
    let xs = variables_in scopes i in
    let more : Trail = earlier ++ p ∷ [] in
    let fresh : value_on earlier x ≡ None = ordered.1 in
    let first : e.scope + 1 ≡ depth_of scopes x = numbered.0 in
    let whole : more ++ trail_of entries ≡ earlier ++ trail_of (e ∷ entries) = append_assoc earlier (p ∷ [])
    (trail_of entries) in
    let later : count_by (λ s. nat_eq s i) (scopes_in entries) + count_by (is_assigned more) xs ≡ count_by
    (is_assigned (earlier ++ trail_of (e ∷ entries))) xs = count_after scopes i more entries d ordered.3 numbered.1
    ∙ ap (λ t. count_by (is_assigned t) xs) whole in
    let others : (y : ℕ) → (x ≡ y → ⊥) → is_assigned more y ≡ is_assigned earlier y = λ y differs. ap is_some
    (value_other earlier p y differs) in
    let cons = sum_by-cons (λ s. cond {A = ℕ} (nat_eq s i) 1 0) e.scope (scopes_in entries) in
    ⊎_elim
    (λ (same : e.scope ≡ i).
    let one : cond {A = ℕ} (nat_eq e.scope i) 1 0 ≡ 1 = rw (eq-eqb e.scope i same) refl in
    let stands : Contains xs x = depth_stands scopes i x ordered.0 (omega arith) in
    let step : count_by (is_assigned more) xs ≡ count_by (is_assigned earlier) xs + 1 = count_one_more
    (is_assigned earlier) (is_assigned more) x xs (variables_distinct scopes i d) stands (ap is_some fresh)
    (new_on earlier p fresh) others in
    omega (arith, one, step, later, cons))
    (λ differs.
    let none : cond {A = ℕ} (nat_eq e.scope i) 1 0 ≡ 0 = rw (ne_eqb e.scope i differs) refl in
    let step : count_by (is_assigned more) xs ≡ count_by (is_assigned earlier) xs = count_same (is_assigned earlier)
    (is_assigned more) x xs (λ j. differs (let at = depth_at scopes i x d j in omega arith)) others in
    omega (arith, none, step, later, cons))
    (cases_eq e.scope i)

pub count_scope : (scopes : List Scope) (i : ℕ) (entries : List Entry) → AreDistinct (all_variables scopes)
    → IsOrderedTrail scopes (trail_of entries) → AreNumbered scopes entries → count_by (λ s. nat_eq s i)
    (scopes_in entries) ≡ count_by (is_assigned (trail_of entries)) (variables_in scopes i)
count_scope scopes i entries d ordered numbered =
    let after = count_after scopes i [] entries (distinct_from (all_variables scopes) d) ordered numbered in
    let none = count_none (variables_in scopes i) in
    omega arith

-- the same of the entries that a trail has
pub kept_inside : (scopes : List Scope) (entries : List Entry) (t : TrailState) → trail_of entries ≡ t.placed
    → depths_of entries ≡ t.depths → IsTrailFor scopes t → IsOrderedTrail scopes (trail_of entries)
    × AreNumbered scopes entries
kept_inside scopes entries t placed depths kept = (
  rw placed kept.ordered,
  numbered_from scopes entries
      (depths ∙ (kept.numbered ∙ ap (map (λ (p : Placed). depth_of scopes p.literal.variable)) (sym placed))),
)
