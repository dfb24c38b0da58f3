-- What a trail's lists give: values, causes, cuts, and the reasons of propagated variables.
use Rattle.std.proofs.Common.{◌≡◌, ℕ, ◌<◌, ◌≤◌, Bool, true, cond, List, [], ◌∷◌, ◌++◌, Contains, Option, Some, None, is_some, sym, refl, ap, ◌∙◌, inl, inr, ⊎_elim, arith, nat_eq, nat_le, append_assoc, ap₂, AllPairs, filter, is_none}
use Rattle.std.proofs.lemmas.Bool.{cases_Bool, cases_lt, cond_both, cond-true, cond-false, eqb-true, eq-eqb, le-leb, lt-leb, false≢true, true≢false, or_left}
use Rattle.prefix.specs.declared.quant.Quant.{Quant}
use Rattle.prefix.specs.Literal.{Literal, negation}
use Rattle.prefix.specs.Scopes.{Scope, all_variables}
use Rattle.truth.specs.Matrix.{Values}
use Rattle.calculus.specs.Rows.{Row, Assignment, is_bad, is_bad_at, reduce, is_pivot, stays, is_blocked}
use Rattle.calculus.specs.Derivations.{Step}
use Rattle.calculus.specs.Search.{Placed, Trail, value_on, cause_on, place_on, literals_on, level_after, level_from_start, last_level_from, cut_from, values_up_to, IsOrderedAfter, IsUnitReason, HaveReasonsAfter, before_on, is_bad_if, is_bad_now, IsCleanBut, IsUnitIn, Blocks}
use Rattle.calculus.specs.Search.Cause.{Propagated}
use Rattle.calculus.proofs.Lists.{contains_cons, contains_nil, pairs_nil, pairs_cons, any_from, filter_from}
use Rattle.calculus.proofs.Levels.{assumption_of}
use Rattle.calculus.proofs.Searching.{IsReason, bad_assigned, unblocked_clean}
use Rattle.calculus.proofs.Trails.{value_here, value_past, cause_here, cause_past, level_here, level_past, now_least, level_least}
use Rattle.calculus.proofs.TrailMoves.{value_front, place_front, front_has}
use Rattle.std.proofs.lemmas.List.{append-nil}
use Rattle.std.specs.List.{list_any}

-- a variable on the trail was not on it before
fresh_on : (scopes : List Scope) (earlier trail : Trail) → IsOrderedAfter scopes earlier trail → (p : Placed)
    → Contains trail p → is_some (value_on earlier p.literal.variable) ≡ true → ⊥
fresh_on scopes earlier [] ordered p i known = contains_nil p i
fresh_on scopes earlier (q ∷ rest) ordered p i known =
    ⊎_elim
    (λ e. let none : value_on earlier p.literal.variable ≡ None =
    ap (λ (r : Placed). value_on earlier r.literal.variable) (sym e) ∙ ordered.1 in
    true≢false (sym known ∙ ap is_some none))
    (λ j. fresh_on scopes (earlier ++ q ∷ []) rest ordered.3 p j
    (ap is_some (value_front earlier (q ∷ []) p.literal.variable known) ∙ known))
    (contains_cons q rest p i)

new_known : (earlier : Trail) (q : Placed) (x : ℕ) → q.literal.variable ≡ x → is_some (value_on (earlier ++ q ∷ []) x) ≡
    true
new_known [] q x e = ap is_some (value_here q [] x (eq-eqb q.literal.variable x e))
new_known (p ∷ earlier) q x e =
    ⊎_elim (λ t. ap is_some (value_here p (earlier ++ q ∷ []) x t))
    (λ f. ap is_some (value_past p (earlier ++ q ∷ []) x f) ∙ new_known earlier q x e)
    (cases_Bool (nat_eq p.literal.variable x))

pub placed_value : (scopes : List Scope) (earlier trail : Trail) → IsOrderedAfter scopes earlier trail → (p : Placed)
    → Contains trail p → (value_on trail p.literal.variable ≡ Some p.literal.positive)
    × (cause_on trail p.literal.variable ≡ Some p.cause)
placed_value scopes earlier [] ordered p i = absurd (contains_nil p i)
placed_value scopes earlier (q ∷ rest) ordered p i =
    ⊎_elim
    (λ e. let t : nat_eq q.literal.variable p.literal.variable ≡ true = eq-eqb q.literal.variable p.literal.variable
    (ap (λ (r : Placed). r.literal.variable) e) in (
      value_here q rest p.literal.variable t ∙ ap (λ (r : Placed). Some r.literal.positive) e,
      cause_here q rest p.literal.variable t ∙ ap (λ (r : Placed). Some r.cause) e,
    ))
    (λ j.
    let r = placed_value scopes (earlier ++ q ∷ []) rest ordered.3 p j in
    ⊎_elim (λ t. absurd
    (fresh_on scopes (earlier ++ q ∷ []) rest ordered.3 p j
    (new_known earlier q p.literal.variable (eqb-true q.literal.variable p.literal.variable t))))
    (λ f. (value_past q rest p.literal.variable f ∙ r.0, cause_past q rest p.literal.variable f ∙ r.1))
    (cases_Bool (nat_eq q.literal.variable p.literal.variable)))
    (contains_cons q rest p i)

pub value_literal : (trail : Trail) (x : ℕ) (b : Bool) → value_on trail x ≡ Some b → Contains (literals_on trail)
    (record { variable = x; positive = b })
value_literal trail x b e =
    let r = assumption_of (literals_on trail) x b e in
    let same : r.0 ≡ record { variable = x; positive = b } = λ i. record { variable = r.2 i; positive = r.3 i } in
    rw same at r.1

-- the values on a cut trail
pub cut_value_from : (before b : ℕ) (trail : Trail) (x : ℕ) → value_on (cut_from before b trail) x ≡ values_up_to
    (value_on trail) (level_from_start before trail) b x
cut_value_from before b [] x = sym (cond_both (nat_le before b) None None (λ o. o ≡ None) (λ t. refl) (λ f. refl))
cut_value_from before b (p ∷ rest) x =
    let now = level_after before p in
    ⊎_elim
    (λ (high : b < now).
    let cut : cut_from before b (p ∷ rest) ≡ [] = cond-false (nat_le now b) (p ∷ cut_from now b rest) []
    (lt-leb now b high) in
    let least : now ≤ level_from_start before (p ∷ rest) x = ⊎_elim
    (λ t. let e = level_here p rest x before t in omega arith)
    (λ f. let e = level_past p rest x before f in let h : now ≤ level_from_start now rest x = level_least now rest x in
    omega arith)
    (cases_Bool (nat_eq p.literal.variable x)) in
    ap (λ t. value_on t x) cut
    ∙ sym (cond-false (nat_le (level_from_start before (p ∷ rest) x) b) (value_on (p ∷ rest) x) None
    (lt-leb (level_from_start before (p ∷ rest) x) b (omega arith))))
    (λ (low : now ≤ b).
    let cut : cut_from before b (p ∷ rest) ≡ p ∷ cut_from now b rest = cond-true (nat_le now b)
    (p ∷ cut_from now b rest) [] (le-leb now b low) in
    ap (λ t. value_on t x) cut
    ∙ ⊎_elim
    (λ t. value_here p (cut_from now b rest) x t
    ∙ (sym (value_here p rest x t)
    ∙ sym (cond-true (nat_le (level_from_start before (p ∷ rest) x) b) (value_on (p ∷ rest) x) None
    (ap (λ n. nat_le n b) (level_here p rest x before t) ∙ le-leb now b low))))
    (λ f. value_past p (cut_from now b rest) x f
    ∙ (cut_value_from now b rest x
    ∙ ap₂ (λ n o. cond (nat_le n b) o None) (sym (level_past p rest x before f)) (sym (value_past p rest x f))))
    (cases_Bool (nat_eq p.literal.variable x)))
    (cases_lt b now)

-- the decision level of a variable is at most that of the trail
pub level_most : (before : ℕ) (trail : Trail) (x : ℕ) → level_from_start before trail x ≤ last_level_from before trail
level_most before [] x = omega arith
level_most before (p ∷ rest) x =
    let now = level_after before p in
    let least : now ≤ last_level_from now rest = last_least now rest in
    ⊎_elim (λ t. let e = level_here p rest x before t in omega arith)
    (λ f. let e = level_past p rest x before f in let h : level_from_start now rest x ≤ last_level_from now rest =
    level_most now rest x in omega arith)
    (cases_Bool (nat_eq p.literal.variable x))
  where
    last_least : (n : ℕ) (t : Trail) → n ≤ last_level_from n t
    last_least n [] = omega arith
    last_least n (q ∷ t) = let h : level_after n q ≤ last_level_from (level_after n q) t = last_least (level_after n q)
        t in let up = now_least q t 0 n in omega arith

-- the reason of a propagated variable
pub reason_on : (scopes : List Scope) (steps : List Step) (earlier trail : Trail) → HaveReasonsAfter scopes steps
    earlier trail → (x id : ℕ) → cause_on trail x ≡ Some (Propagated id) → (l : Literal) × (l.variable ≡ x)
    × (value_on trail x ≡ Some l.positive) × IsUnitReason scopes steps (earlier ++ before_on trail x) l id
reason_on scopes steps earlier [] have x id e = absurd (cc)
reason_on scopes steps earlier (p ∷ rest) have x id e =
    ⊎_elim
    (λ t.
    let c : Some p.cause ≡ Some (Propagated id) = sym (cause_here p rest x t) ∙ e in
    let d : p.cause ≡ Propagated id = cc in
    let none : before_on (p ∷ rest) x ≡ [] = cond-true (nat_eq p.literal.variable x) [] (p ∷ before_on rest x) t in
    let same : earlier ++ before_on (p ∷ rest) x ≡ earlier = ap (λ xs. earlier ++ xs) none ∙ append-nil earlier in
    let reason : IsUnitReason scopes steps earlier p.literal id = rw d at have.0 in
    (p.literal, eqb-true p.literal.variable x t, value_here p rest x t, rw same reason))
    (λ f.
    let r = reason_on scopes steps (earlier ++ p ∷ []) rest have.1 x id (sym (cause_past p rest x f) ∙ e) in
    let more : before_on (p ∷ rest) x ≡ p ∷ before_on rest x = cond-false (nat_eq p.literal.variable x) []
    (p ∷ before_on rest x) f in
    let same : earlier ++ before_on (p ∷ rest) x ≡ (earlier ++ p ∷ []) ++ before_on rest x = ap (λ xs. earlier ++ xs)
    more ∙ sym (append_assoc earlier (p ∷ []) (before_on rest x)) in
    (r.0, r.1, value_past p rest x f ∙ r.2, rw same r.3))
    (cases_Bool (nat_eq p.literal.variable x))

-- a row that is clean but for the opposite of an assigned literal is that literal's reason
pub reason_from : (pivot : Quant) (trail : Trail) (e : Literal) (row : Row) → is_some (value_on trail e.variable) ≡ true
    → IsCleanBut pivot trail (negation e) row → IsReason pivot (value_on trail) (place_on trail) row e.variable
reason_from pivot trail e row assigned clean l i = ⊎_elim (λ k. inl (ap (λ (m : Literal). m.variable) k))
    (λ r. inr (r.0, r.1 assigned)) (clean l i)

-- total values against partial ones
pub extended_bad : (pivot : Quant) (partial : Values) (values : Assignment) (l : Literal)
    → ((x : ℕ) (b : Bool) → partial x ≡ Some b → values x ≡ b) → is_bad_now pivot partial l ≡ true
    → is_bad pivot values l ≡ true
extended_bad pivot partial values l extends bad = by_value (partial l.variable) refl bad
  where
    by_value : (o : Option Bool) → partial l.variable ≡ o → is_bad_if pivot o l ≡ true → is_bad pivot values l ≡ true
    by_value None e h = absurd (false≢true h)
    by_value (Some b) e h = ap (λ c. is_bad_at pivot c l) (extends l.variable b e) ∙ h

-- a cut keeps the order
pub cut_ordered : (scopes : List Scope) (earlier : Trail) (before b : ℕ) (trail : Trail) → IsOrderedAfter scopes earlier
    trail → IsOrderedAfter scopes earlier (cut_from before b trail)
cut_ordered scopes earlier before b [] ordered = tt
cut_ordered scopes earlier before b (p ∷ rest) ordered =
    let now = level_after before p in
    cond_both (nat_le now b) (p ∷ cut_from now b rest) [] (IsOrderedAfter scopes earlier)
    (λ t. (ordered.0, ordered.1, ordered.2, cut_ordered scopes (earlier ++ p ∷ []) now b rest ordered.3)) (λ f. tt)

pub clean_grows : (pivot : Quant) (front back : Trail) (kept : Literal) (row : Row)
    → is_some (value_on front kept.variable) ≡ true → IsCleanBut pivot front kept row → IsCleanBut pivot (front ++ back)
    kept row
clean_grows pivot front back kept row a clean l i =
    ⊎_elim inl
    (λ r.
    let l_in = bad_assigned pivot (value_on front l.variable) l r.0 in
    let p = place_front front back l.variable l_in in
    let q = place_front front back kept.variable a in
    let pl = p.0 in let ql = q.0 in let below = r.1 a in
    inr (ap (λ o. is_bad_if pivot o l) (value_front front back l.variable l_in) ∙ r.0, λ b. omega arith))
    (clean l i)

pub clean_cut : (pivot : Quant) (front back : Trail) (kept : Literal) (row : Row)
    → is_some (value_on front kept.variable) ≡ true → IsCleanBut pivot (front ++ back) kept row
    → IsCleanBut pivot front kept row
clean_cut pivot front back kept row a clean l i =
    ⊎_elim inl
    (λ r.
    let q = place_front front back kept.variable a in
    let ql = q.0 in let q_below = q.1 in let below = r.1 (ap is_some (value_front front back kept.variable a) ∙ a) in
    let l_in = front_has front back l.variable (omega arith) in
    let p = place_front front back l.variable l_in in
    let pl = p.0 in
    inr (ap (λ o. is_bad_if pivot o l) (sym (value_front front back l.variable l_in)) ∙ r.0, λ b. omega arith))
    (clean l i)

-- the variables of an ordered trail are of the prefix, and each stands once
pub ordered_in : (scopes : List Scope) (earlier trail : Trail) → IsOrderedAfter scopes earlier trail → (p : Placed)
    → Contains trail p → Contains (all_variables scopes) p.literal.variable
ordered_in scopes earlier [] ordered p i = absurd (contains_nil p i)
ordered_in scopes earlier (q ∷ rest) ordered p i = ⊎_elim (λ e. rw (← e) ordered.0)
    (λ j. ordered_in scopes (earlier ++ q ∷ []) rest ordered.3 p j) (contains_cons q rest p i)

pub ordered_apart : (scopes : List Scope) (earlier trail : Trail) → IsOrderedAfter scopes earlier trail
    → AllPairs (λ p q. p.literal.variable ≡ q.literal.variable → ⊥) trail
ordered_apart scopes earlier [] ordered =
    pairs_nil (λ (p : Placed) (q : Placed). p.literal.variable ≡ q.literal.variable → ⊥)
ordered_apart scopes earlier (p ∷ rest) ordered =
    pairs_cons (λ (p : Placed) (q : Placed). p.literal.variable ≡ q.literal.variable → ⊥) p rest
    (λ q i e. fresh_on scopes (earlier ++ p ∷ []) rest ordered.3 q i (new_known earlier p q.literal.variable e))
    (ordered_apart scopes (earlier ++ p ∷ []) rest ordered.3)

-- without blockers the reduction of a unit row is clean but for its literal
pub unblocked_clean_but : (pivot : Quant) (scopes : List Scope) (trail : Trail) (kept : Literal) (row : Row)
    → IsUnitIn pivot scopes (value_on trail) row kept → ((f u : Literal) → Blocks pivot scopes (value_on trail) row f u
    → ⊥) → Contains (reduce pivot scopes row) kept × IsCleanBut pivot trail kept (reduce pivot scopes row)
unblocked_clean_but pivot scopes trail kept row unit free =
    let some : list_any (is_pivot pivot scopes) row ≡ true = any_from (is_pivot pivot scopes) row kept unit.stands
    unit.pivot_type in (
      rw (cond-true (list_any (is_pivot pivot scopes) row) (filter (stays pivot scopes row) row) row some)
          (filter_from (stays pivot scopes row) row kept unit.stands
          (or_left (is_pivot pivot scopes kept) (is_blocked pivot scopes row kept) unit.pivot_type)),
      λ l i. ⊎_elim inl (λ b. inr (b, λ a. absurd (open_apart (value_on trail kept.variable) unit.open_yet a)))
          (unblocked_clean pivot scopes (value_on trail) (Some kept) row unit.others some free l i),
    )
  where
    open_apart : (o : Option Bool) → is_none o ≡ true → is_some o ≡ true → ⊥
    open_apart None p q = false≢true q
    open_apart (Some b) p q = false≢true p
