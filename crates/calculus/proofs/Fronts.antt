-- The front of a trail: its values, places and causes.
use Rattle.std.proofs.Common.{◌≡◌, ℕ, zero, suc, ◌<◌, ◌≤◌, Bool, true, false, List, [], ◌∷◌, ◌++◌, length, take, min, Contains, ◌+◌, Option, Some, None, is_some, is_none, refl, sym, ap, ◌∙◌, inl, inr, ⊎_elim, arith, nat_eq, nat_le, cond}
use Rattle.std.proofs.lemmas.Bool.{cases_Bool, cases_lt, eq-eqb, cond-true, cond-false, false≢true, true≢false}
use Rattle.prefix.specs.declared.quant.Quant.{Quant}
use Rattle.prefix.specs.Literal.{Literal}
use Rattle.prefix.specs.Scopes.{Scope, all_variables}
use Rattle.calculus.specs.Rows.{Row}
use Rattle.calculus.specs.Search.{Cause, IsCleanBut, IsOrderedAfter, IsOrderedTrail, Placed, Trail, before_on, cause_on, is_bad_if, place_on, value_on, cut_trail, decision_level_on}
use Rattle.calculus.proofs.Searching.{bad_assigned}
use Rattle.calculus.proofs.TrailMoves.{ordered_more, front_has, place_front, value_front}
use Rattle.calculus.proofs.TrailLaws.{cut_value_from, clean_grows}
use Rattle.calculus.proofs.Trails.{value_here, value_past, place_here, place_past, cause_here, cause_past}
use Rattle.calculus.specs.Search.Cause.{Propagated}
use Rattle.std.proofs.lemmas.List.{length_push}
use Rattle.calculus.proofs.Sizes.{trail_length}
use Rattle.calculus.proofs.Cutting.{cut_front}

-- the place of a variable on a front
pub place_take : (n : ℕ) (trail : Trail) (x : ℕ) → n ≤ length trail → place_on (take n trail) x ≡ min (place_on trail x)
    n
place_take zero trail x within = omega arith
place_take (suc n) [] x within = absurd (let none : length {A = Placed} [] ≡ 0 = refl in omega arith)
place_take (suc n) (p ∷ rest) x within =
    let long : length (p ∷ rest) ≡ suc (length rest) = refl in
    ⊎_elim
    (λ t. let e = place_here p (take n rest) x t in let f = place_here p rest x t in let g :
    place_on (take (suc n) (p ∷ rest)) x ≡ place_on (p ∷ take n rest) x = refl in omega arith)
    (λ f. let e = place_past p (take n rest) x f in let h = place_past p rest x f in let r = place_take n rest x
    (omega arith) in let g : place_on (take (suc n) (p ∷ rest)) x ≡ place_on (p ∷ take n rest) x = refl in
    omega arith)
    (cases_Bool (nat_eq p.literal.variable x))

-- an unassigned variable is placed past the end
pub place_none : (trail : Trail) (x : ℕ) → value_on trail x ≡ None → place_on trail x ≡ length trail
place_none [] x none = refl
place_none (p ∷ rest) x none =
    ⊎_elim (λ t. absurd (let g : Some p.literal.positive ≡ None = sym (value_here p rest x t) ∙ none in cc))
    (λ f. place_past p rest x f ∙ ap suc (place_none rest x (sym (value_past p rest x f) ∙ none)))
    (cases_Bool (nat_eq p.literal.variable x))

-- and an assigned one before it
pub place_some : (trail : Trail) (x : ℕ) → is_some (value_on trail x) ≡ true → place_on trail x < length trail
place_some [] x known = absurd (false≢true known)
place_some (p ∷ rest) x known =
    let long : length (p ∷ rest) ≡ suc (length rest) = refl in
    ⊎_elim (λ t. let e = place_here p rest x t in omega arith)
    (λ f. let e = place_past p rest x f in let r = place_some rest x (ap is_some (sym (value_past p rest x f)) ∙ known)
    in omega arith)
    (cases_Bool (nat_eq p.literal.variable x))

-- the part before a variable is a front
pub before_take : (trail : Trail) (x : ℕ) → before_on trail x ≡ take (place_on trail x) trail
before_take [] x = refl
before_take (p ∷ rest) x =
    ⊎_elim
    (λ t. cond-true (nat_eq p.literal.variable x) [] (p ∷ before_on rest x) t
    ∙ sym (ap (λ n. take n (p ∷ rest)) (place_here p rest x t)))
    (λ f. cond-false (nat_eq p.literal.variable x) [] (p ∷ before_on rest x) f
    ∙ (ap (λ r. p ∷ r) (before_take rest x) ∙ sym (ap (λ n. take n (p ∷ rest)) (place_past p rest x f))))
    (cases_Bool (nat_eq p.literal.variable x))

pub before_parts : (trail : Trail) (x : ℕ) → (back : Trail) × (trail ≡ before_on trail x ++ back)
before_parts [] x = ([], refl)
before_parts (p ∷ rest) x =
    ⊎_elim
    (λ t. (
      p ∷ rest,
      ap (λ xs. xs ++ p ∷ rest)
          (sym (cond-true (nat_eq p.literal.variable x) [] (p ∷ before_on rest x) t)),
    ))
    (λ f. let r = before_parts rest x in (
      r.0,
      ap (λ xs. p ∷ xs) r.1 ∙ ap (λ xs. xs ++ r.0)
          (sym (cond-false (nat_eq p.literal.variable x) [] (p ∷ before_on rest x) f)),
    ))
    (cases_Bool (nat_eq p.literal.variable x))

-- in which the variable is open
pub before_open : (trail : Trail) (x : ℕ) → value_on (before_on trail x) x ≡ None
before_open [] x = refl
before_open (p ∷ rest) x =
    ⊎_elim
    (λ t. ap (λ r. value_on r x) (cond-true (nat_eq p.literal.variable x) [] (p ∷ before_on rest x) t))
    (λ f. ap (λ r. value_on r x) (cond-false (nat_eq p.literal.variable x) [] (p ∷ before_on rest x) f)
    ∙ (value_past p (before_on rest x) x f ∙ before_open rest x))
    (cases_Bool (nat_eq p.literal.variable x))

-- before a new one
pub before_new : (earlier : Trail) (p : Placed) (rest : Trail) → value_on earlier p.literal.variable ≡ None
    → before_on (earlier ++ p ∷ rest) p.literal.variable ≡ earlier
before_new [] p rest fresh = cond-true (nat_eq p.literal.variable p.literal.variable) []
    (p ∷ before_on rest p.literal.variable) (eq-eqb p.literal.variable p.literal.variable refl)
before_new (q ∷ earlier) p rest fresh =
    ⊎_elim
    (λ t. absurd (false≢true (ap is_some (sym fresh ∙ value_here q earlier p.literal.variable t))))
    (λ f. cond-false (nat_eq q.literal.variable p.literal.variable) []
    (q ∷ before_on (earlier ++ p ∷ rest) p.literal.variable) f ∙ ap (λ (r : Trail). q ∷ r)
    (before_new earlier p rest (sym (value_past q earlier p.literal.variable f) ∙ fresh)))
    (cases_Bool (nat_eq q.literal.variable p.literal.variable))

-- a variable has a cause where it has a value
pub has_cause : (trail : Trail) (x : ℕ) → is_some (cause_on trail x) ≡ is_some (value_on trail x)
has_cause [] x = refl
has_cause (p ∷ rest) x =
    ⊎_elim (λ t. ap is_some (cause_here p rest x t) ∙ sym (ap is_some (value_here p rest x t)))
    (λ f. ap is_some (cause_past p rest x f) ∙ (has_cause rest x ∙ sym (ap is_some (value_past p rest x f))))
    (cases_Bool (nat_eq p.literal.variable x))

-- what a front has, the whole has
pub cause_front : (front back : Trail) (x : ℕ) → is_some (value_on front x) ≡ true
    → cause_on (front ++ back) x ≡ cause_on front x
cause_front [] back x known = absurd (false≢true known)
cause_front (p ∷ front) back x known =
    ⊎_elim
    (λ t. cause_here p (front ++ back) x t ∙ sym (cause_here p front x t))
    (λ f. cause_past p (front ++ back) x f
    ∙ (cause_front front back x (ap is_some (sym (value_past p front x f)) ∙ known) ∙ sym (cause_past p front x f)))
    (cases_Bool (nat_eq p.literal.variable x))

-- and the cause of what it has not is that of the last
pub cause_end : (front : Trail) (p : Placed) (x : ℕ) (c : Cause) → is_some (value_on front x) ≡ false
    → cause_on (front ++ p ∷ []) x ≡ Some c → p.cause ≡ c
cause_end [] p x c a e =
    ⊎_elim (λ t. let h : Some p.cause ≡ Some c = sym (cause_here p [] x t) ∙ e in cc)
    (λ f. absurd (let h : None ≡ Some c = sym (cause_past p [] x f) ∙ e in cc))
    (cases_Bool (nat_eq p.literal.variable x))
cause_end (q ∷ front) p x c a e =
    ⊎_elim (λ t. absurd (true≢false (sym (ap is_some (value_here q front x t)) ∙ a)))
    (λ f. cause_end front p x c (ap is_some (sym (value_past q front x f)) ∙ a)
    (sym (cause_past q (front ++ p ∷ []) x f) ∙ e))
    (cases_Bool (nat_eq q.literal.variable x))

-- a new literal has its cause
pub cause_new : (trail : Trail) (p : Placed) (rest : Trail) → value_on trail p.literal.variable ≡ None
    → cause_on (trail ++ p ∷ rest) p.literal.variable ≡ Some p.cause
cause_new [] p rest fresh = cause_here p rest p.literal.variable (eq-eqb p.literal.variable p.literal.variable refl)
cause_new (q ∷ trail) p rest fresh =
    ⊎_elim (λ t. absurd (false≢true (ap is_some (sym fresh ∙ value_here q trail p.literal.variable t))))
    (λ f. cause_past q (trail ++ p ∷ rest) p.literal.variable f ∙ cause_new trail p rest
    (sym (value_past q trail p.literal.variable f) ∙ fresh))
    (cases_Bool (nat_eq q.literal.variable p.literal.variable))

none_of : (o : Option Cause) → is_some o ≡ false → o ≡ None
none_of None e = refl
none_of (Some c) e = absurd (false≢true (sym e))

-- the cause of a variable on a cut trail
pub cut_cause : (trail : Trail) (b x : ℕ) → cause_on (cut_trail b trail) x ≡ cond (nat_le (decision_level_on trail x) b)
    (cause_on trail x) None
cut_cause trail b x =
    let parts = cut_front 0 b trail in
    let value = cut_value_from 0 b trail x in
    let low = nat_le (decision_level_on trail x) b in
    ⊎_elim
    (λ (t : low ≡ true).
    let same : value_on (cut_trail b trail) x ≡ value_on trail x = value ∙ cond-true low (value_on trail x) None t in
    let kept : cause_on (cut_trail b trail) x ≡ cause_on trail x =
    ⊎_elim
    (λ (known : is_some (value_on (cut_trail b trail) x) ≡ true). sym
    (ap (λ r. cause_on r x) parts.1 ∙ cause_front (cut_trail b trail) parts.0 x known))
    (λ (not_known : is_some (value_on (cut_trail b trail) x) ≡ false). none_of (cause_on (cut_trail b trail) x)
    (has_cause (cut_trail b trail) x ∙ not_known)
    ∙ sym (none_of (cause_on trail x) (has_cause trail x ∙ (ap is_some (sym same) ∙ not_known))))
    (cases_Bool (is_some (value_on (cut_trail b trail) x))) in
    kept ∙ sym (cond-true low (cause_on trail x) None t))
    (λ (f : low ≡ false).
    let none : value_on (cut_trail b trail) x ≡ None = value ∙ cond-false low (value_on trail x) None f in
    none_of (cause_on (cut_trail b trail) x) (has_cause (cut_trail b trail) x ∙ ap is_some none)
    ∙ sym (cond-false low (cause_on trail x) None f))
    (cases_Bool low)

-- a front is in order
pub ordered_front : (scopes : List Scope) (earlier front back : Trail) → IsOrderedAfter scopes earlier (front ++ back)
    → IsOrderedAfter scopes earlier front
ordered_front scopes earlier [] back ordered = tt
ordered_front scopes earlier (p ∷ front) back ordered =
    (ordered.0, ordered.1, ordered.2, ordered_front scopes (earlier ++ p ∷ []) front back ordered.3)

pub some_not_none : (o : Option Bool) → is_some o ≡ true → is_none o ≡ true → ⊥
some_not_none None a b = false≢true a
some_not_none (Some x) a b = false≢true b

-- a row that is clean but for a literal that is open on a front is so on the whole
pub clean_whole : (pivot : Quant) (front back : Trail) (kept : Literal) (row : Row)
    → is_none (value_on front kept.variable) ≡ true → IsCleanBut pivot front kept row → IsCleanBut pivot (front ++ back)
    kept row
clean_whole pivot front back kept row open_yet clean l i =
    ⊎_elim inl
    (λ r.
    let l_in = bad_assigned pivot (value_on front l.variable) l r.0 in
    let s = place_front front back l.variable l_in in
    let same = s.0 in let low = s.1 in
    let high : length front ≤ place_on (front ++ back) kept.variable =
    ⊎_elim
    (λ (below : place_on (front ++ back) kept.variable < length front). absurd
    (some_not_none (value_on front kept.variable) (front_has front back kept.variable below) open_yet))
    (λ (at_least : length front ≤ place_on (front ++ back) kept.variable). at_least)
    (cases_lt (place_on (front ++ back) kept.variable) (length front)) in
    inr (ap (λ o. is_bad_if pivot o l) (value_front front back l.variable l_in) ∙ r.0, λ a. omega arith))
    (clean l i)

-- and so it is in either case
pub clean_more : (pivot : Quant) (front back : Trail) (kept : Literal) (row : Row) → IsCleanBut pivot front kept row
    → IsCleanBut pivot (front ++ back) kept row
clean_more pivot front back kept row clean =
    ⊎_elim
    (λ known. clean_grows pivot front back kept row known clean)
    (λ f. clean_whole pivot front back kept row (none_open (value_on front kept.variable) f) clean)
    (cases_Bool (is_some (value_on front kept.variable)))
  where
    none_open : (o : Option Bool) → is_some o ≡ false → is_none o ≡ true
    none_open None e = refl
    none_open (Some b) e = absurd (false≢true (sym e))

-- an unassigned variable of the prefix leaves room
pub short_of : (scopes : List Scope) (trail : Trail) (x : ℕ) → IsOrderedTrail scopes trail
    → Contains (all_variables scopes) x → value_on trail x ≡ None → length trail < length (all_variables scopes)
short_of scopes trail x ordered i fresh =
    let p : Placed = record { literal = record { variable = x; positive = true }; cause = Propagated 0 } in
    let few : length (trail ++ p ∷ []) ≤ length (all_variables scopes) = trail_length scopes (trail ++ p ∷ [])
    (ordered_more scopes [] trail p ordered i fresh tt) in
    let long : length (trail ++ p ∷ []) ≡ length trail + 1 = length_push trail p in
    omega arith
