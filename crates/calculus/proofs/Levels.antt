-- Levels and quantifiers of variables in a prefix.
use Rattle.std.proofs.Common.{map, unwrap_or, Option, None, length, cond, zero, ◌+◌, ◌-◌, option_map, ◌≡◌, ℕ, suc, ◌≤◌, Bool, true, false, List, [], ◌∷◌, ◌++◌, Contains, Some, sym, refl, ap, ◌∙◌, ⊎_elim, arith, nat_eq, is_some}
use Rattle.std.proofs.lemmas.Bool.{cases_Bool, eqb-true, cond-true, cond-false, true≢false, ne_eqb}
use Rattle.std.specs.Option.{option_and_then}
use Rattle.std.proofs.lemmas.List.Elements.{Contains-append_left, Contains-append_right, Contains-append_cases}
use Rattle.std.specs.Prelude.{slice_get}
use Rattle.prefix.specs.Literal.{Literal}
use Rattle.prefix.specs.Scopes.{AreDistinct, Scope, BoundVariable, all_variables, is_among, level_of, quantifier_of, quantifier_at, bound_by, prefix_order}
use Rattle.prefix.specs.declared.quant.Quant.{Quant}
use Rattle.prefix.proofs.ScopeLemmas.{level_positive, level_none}
use Rattle.truth.proofs.OrderLemmas.{variables_of-prefix_order}
use Rattle.truth.specs.Truth.{assumed_value}
use Rattle.calculus.specs.Rows.{depth_of}
use Rattle.calculus.specs.Verdicts.{AreOuter}
use Rattle.calculus.proofs.Lists.{contains_cons, contains_nil, contains_head, contains_tail, among_at, among_from}
pub use Rattle.calculus.proofs.Lists.{contains_map_of}
use Rattle.calculus.proofs.Strategy.{IsOrdered}

-- the number of a scope by a count, past the last scope for a variable without one
abbrev pub level_from : ℕ → List Scope → ℕ → ℕ
level_from start [] x = start
level_from start (scope ∷ scopes) x = cond (is_among x scope.variables) start (level_from (suc start) scopes x)

-- the quantifier, scope by scope
abbrev pub quant_from : List Scope → ℕ → Option Quant
quant_from [] x = None
quant_from (scope ∷ scopes) x = cond (is_among x scope.variables) (Some scope.quantifier) (quant_from scopes x)

-- a level counted from elsewhere
moved : (o : Option ℕ) (start n : ℕ) → unwrap_or (option_map (λ k. k + 1) o) (suc n + 1) + start ≡ unwrap_or o
    (n + 1) + suc start
moved None start n = omega arith
moved (Some k) start n = omega arith

level_counted : (start : ℕ) (scopes : List Scope) (x : ℕ) → unwrap_or (level_of scopes x) (length scopes + 1) +
    start ≡ suc (level_from start scopes x)
level_counted start [] x = omega arith
level_counted start (scope ∷ scopes) x =
    ⊎_elim
    (λ t. ap (λ o. unwrap_or o (suc (length scopes) + 1) + start)
    (cond-true (is_among x scope.variables) (Some 1) (option_map (λ k. k + 1) (level_of scopes x)) t)
    ∙ ((let one : 1 + start ≡ suc start = omega arith in one)
    ∙ ap suc (sym (cond-true (is_among x scope.variables) start (level_from (suc start) scopes x) t))))
    (λ f. ap (λ o. unwrap_or o (suc (length scopes) + 1) + start)
    (cond-false (is_among x scope.variables) (Some 1) (option_map (λ k. k + 1) (level_of scopes x)) f)
    ∙ (moved (level_of scopes x) start (length scopes)
    ∙ (level_counted (suc start) scopes x
    ∙ ap suc (sym (cond-false (is_among x scope.variables) start (level_from (suc start) scopes x) f)))))
    (cases_Bool (is_among x scope.variables))

pub depth_counted : (scopes : List Scope) (x : ℕ) → depth_of scopes x ≡ level_from 1 scopes x
depth_counted scopes x = let e : depth_of scopes x + 1 ≡ suc (level_from 1 scopes x) = level_counted 1 scopes x in
    omega arith

positive_level : (scopes : List Scope) (x n : ℕ) → level_of scopes x ≡ Some n → 1 ≤ n
positive_level scopes x n e = rw e at (level_positive scopes x)

pub quantifier_counted : (scopes : List Scope) (x : ℕ) → quantifier_of scopes x ≡ quant_from scopes x
quantifier_counted [] x = refl
quantifier_counted (scope ∷ scopes) x =
    ⊎_elim
    (λ t. ap (option_and_then (quantifier_at (scope ∷ scopes)))
    (cond-true (is_among x scope.variables) (Some 1) (option_map (λ k. k + 1) (level_of scopes x)) t)
    ∙ sym (cond-true (is_among x scope.variables) (Some scope.quantifier) (quant_from scopes x) t))
    (λ f. ap (option_and_then (quantifier_at (scope ∷ scopes)))
    (cond-false (is_among x scope.variables) (Some 1) (option_map (λ k. k + 1) (level_of scopes x)) f)
    ∙ (past (level_of scopes x) refl
    ∙ (quantifier_counted scopes x
    ∙ sym (cond-false (is_among x scope.variables) (Some scope.quantifier) (quant_from scopes x) f))))
    (cases_Bool (is_among x scope.variables))
  where
    number : (n : ℕ) → 1 ≤ n → quantifier_at (scope ∷ scopes) (n + 1) ≡ quantifier_at scopes n
    number zero h = absurd (omega arith)
    number (suc n) h =
        let one : suc n + 1 - 1 ≡ suc n = omega arith in
        let two : suc n - 1 ≡ n = omega arith in
        cond-false (nat_eq (suc n + 1) 0) None
        (option_map (λ (s : Scope). s.quantifier) (slice_get (scope ∷ scopes) (suc n + 1 - 1)))
        (ne_eqb (suc n + 1) 0 (λ e. absurd (omega arith)))
        ∙ (ap (λ k. option_map (λ (s : Scope). s.quantifier) (slice_get (scope ∷ scopes) k)) one
        ∙ (ap (λ k. option_map (λ (s : Scope). s.quantifier) (slice_get scopes k)) (sym two)
        ∙ sym (cond-false (nat_eq (suc n) 0) None
        (option_map (λ (s : Scope). s.quantifier) (slice_get scopes (suc n - 1)))
        (ne_eqb (suc n) 0 (λ e. absurd (omega arith))))))

    past : (o : Option ℕ) → level_of scopes x ≡ o → option_and_then (quantifier_at (scope ∷ scopes))
        (option_map (λ k. k + 1) o) ≡ option_and_then (quantifier_at scopes) o
    past None e = refl
    past (Some n) e = number n (positive_level scopes x n e)

pub level_at_least : (start : ℕ) (scopes : List Scope) (x : ℕ) → start ≤ level_from start scopes x
level_at_least start [] x = omega arith
level_at_least start (scope ∷ scopes) x =
    ⊎_elim (λ t. rw (cond-true (is_among x scope.variables) start (level_from (suc start) scopes x) t) (omega arith))
    (λ f. rw (cond-false (is_among x scope.variables) start (level_from (suc start) scopes x) f)
    (let later : suc start ≤ level_from (suc start) scopes x = level_at_least (suc start) scopes x in omega arith))
    (cases_Bool (is_among x scope.variables))

level_in : (start : ℕ) (scope : Scope) (scopes : List Scope) (x : ℕ) → is_among x scope.variables ≡ true
    → level_from start (scope ∷ scopes) x ≡ start
level_in start scope scopes x t = cond-true (is_among x scope.variables) start (level_from (suc start) scopes x) t

level_past : (start : ℕ) (scope : Scope) (scopes : List Scope) (x : ℕ) → is_among x scope.variables ≡ false
    → level_from start (scope ∷ scopes) x ≡ level_from (suc start) scopes x
level_past start scope scopes x f = cond-false (is_among x scope.variables) start (level_from (suc start) scopes x) f

quantifier_in : (scope : Scope) (scopes : List Scope) (x : ℕ) → is_among x scope.variables ≡ true
    → quant_from (scope ∷ scopes) x ≡ Some scope.quantifier
quantifier_in scope scopes x t = cond-true (is_among x scope.variables) (Some scope.quantifier) (quant_from scopes x) t

quantifier_past : (scope : Scope) (scopes : List Scope) (x : ℕ) → is_among x scope.variables ≡ false
    → quant_from (scope ∷ scopes) x ≡ quant_from scopes x
quantifier_past scope scopes x f = cond-false (is_among x scope.variables) (Some scope.quantifier) (quant_from scopes x)
    f

-- variables of one level have one quantifier
same_scope : (start : ℕ) (scopes : List Scope) (x y : ℕ) → level_from start scopes x ≡ level_from start scopes y
    → quant_from scopes x ≡ quant_from scopes y
same_scope start [] x y e = refl
same_scope start (scope ∷ scopes) x y e =
    ⊎_elim (λ tx. ⊎_elim (λ ty. quantifier_in scope scopes x tx ∙ sym (quantifier_in scope scopes y ty))
    (λ fy. absurd (let a = level_in start scope scopes x tx in let b = level_past start scope scopes y fy in let c :
    suc start ≤ level_from (suc start) scopes y = level_at_least (suc start) scopes y in omega arith))
    (cases_Bool (is_among y scope.variables)))
    (λ fx. ⊎_elim
    (λ ty. absurd (let a = level_in start scope scopes y ty in let b = level_past start scope scopes x fx in let c :
    suc start ≤ level_from (suc start) scopes x = level_at_least (suc start) scopes x in omega arith))
    (λ fy. quantifier_past scope scopes x fx
    ∙ (same_scope (suc start) scopes x y
    (sym (level_past start scope scopes x fx) ∙ (e ∙ level_past start scope scopes y fy))
    ∙ sym (quantifier_past scope scopes y fy)))
    (cases_Bool (is_among y scope.variables)))
    (cases_Bool (is_among x scope.variables))

pub one_quantifier : (scopes : List Scope) (x y : ℕ) → depth_of scopes x ≡ depth_of scopes y
    → quantifier_of scopes x ≡ quantifier_of scopes y
one_quantifier scopes x y e = quantifier_counted scopes x
    ∙ (same_scope 1 scopes x y (sym (depth_counted scopes x) ∙ (e ∙ depth_counted scopes y))
    ∙ sym (quantifier_counted scopes y))

pub depth_at_least : (scopes : List Scope) (x : ℕ) → 1 ≤ depth_of scopes x
depth_at_least scopes x = let h : 1 ≤ level_from 1 scopes x = level_at_least 1 scopes x in let e =
    depth_counted scopes x in omega arith

-- a variable of the prefix's first scope has depth 1
pub first_depth : (scopes : List Scope) (x : ℕ) → level_of scopes x ≡ Some 1 → depth_of scopes x ≡ 1
first_depth scopes x e = ap (λ o. unwrap_or o (length scopes + 1)) e

-- no variable stands twice
abbrev pub IsDistinct : List ℕ → Type 0
IsDistinct [] = Unit {0}
IsDistinct (x ∷ xs) = (Contains xs x → ⊥) × IsDistinct xs

pub distinct_from : (xs : List ℕ) → AreDistinct xs → IsDistinct xs
distinct_from [] d = tt
distinct_from (x ∷ xs) d = ((λ i. true≢false (sym (among_from xs x i) ∙ d.0)), distinct_from xs d.1)

pub distinct_apart : (xs ys : List ℕ) → IsDistinct (xs ++ ys) → (x : ℕ) → Contains xs x → Contains ys x → ⊥
distinct_apart [] ys d x i j = contains_nil x i
distinct_apart (z ∷ xs) ys d x i j =
    ⊎_elim (λ e. d.0 (Contains-append_right xs ys z (rw (← e) at j))) (λ k. distinct_apart xs ys d.1 x k j)
    (contains_cons z xs x i)

pub distinct_right : (xs ys : List ℕ) → IsDistinct (xs ++ ys) → IsDistinct ys
distinct_right [] ys d = d
distinct_right (x ∷ xs) ys d = distinct_right xs ys d.1

-- levels of a block and what follows it
ordered_append : (level : ℕ → ℕ) (xs ys : List ℕ) → IsDistinct (xs ++ ys)
    → ((x y : ℕ) → Contains xs x → Contains (xs ++ ys) y → level x ≤ level y) → IsOrdered level ys
    → IsOrdered level (xs ++ ys)
ordered_append level [] ys d below o = o
ordered_append level (x ∷ xs) ys d below o = (
  (λ y i. below x y (contains_head x xs) (contains_tail x (xs ++ ys) y i)),
  d.0,
  ordered_append level xs ys d.1
      (λ a b i j. below a b (contains_tail x xs a i) (contains_tail x (xs ++ ys) b j)) o,
)

same_order : (level other : ℕ → ℕ) (xs : List ℕ) → ((x : ℕ) → Contains xs x → level x ≡ other x) → IsOrdered other xs
    → IsOrdered level xs
same_order level other [] same o = tt
same_order level other (x ∷ xs) same o = (
  (λ y i. let a : other x ≤ other y = o.0 y i in let b = same x (contains_head x xs) in let c =
      same y (contains_tail x xs y i) in omega arith),
  o.1,
  same_order level other xs
      (λ y i. same y (contains_tail x xs y i)) o.2,
)

counted_ordered : (start : ℕ) (scopes : List Scope) → IsDistinct (all_variables scopes)
    → IsOrdered (level_from start scopes) (all_variables scopes)
counted_ordered start [] d = tt
counted_ordered start (scope ∷ scopes) d =
    let rest = distinct_right scope.variables (all_variables scopes) d in
    ordered_append (level_from start (scope ∷ scopes)) scope.variables (all_variables scopes) d
    (λ x y i j. let a = level_in start scope scopes x (among_from scope.variables x i) in let b :
    start ≤ level_from start (scope ∷ scopes) y = level_at_least start (scope ∷ scopes) y in omega arith)
    (same_order (level_from start (scope ∷ scopes)) (level_from (suc start) scopes) (all_variables scopes)
    (λ x i. level_past start scope scopes x
    (⊎_elim (λ t. absurd (distinct_apart scope.variables (all_variables scopes) d x (among_at scope.variables x t)
    i)) (λ f. f) (cases_Bool (is_among x scope.variables))))
    (counted_ordered (suc start) scopes rest))

pub order_ordered : (scopes : List Scope) → AreDistinct (all_variables scopes) → IsOrdered (depth_of scopes)
    (all_variables scopes)
order_ordered scopes d = same_order (depth_of scopes) (level_from 1 scopes) (all_variables scopes)
    (λ x i. depth_counted scopes x) (counted_ordered 1 scopes (distinct_from (all_variables scopes) d))

-- a variable with a level is in the prefix
pub level_in_prefix : (scopes : List Scope) (x n : ℕ) → level_of scopes x ≡ Some n → Contains (all_variables scopes) x
level_in_prefix [] x n e = absurd (cc)
level_in_prefix (scope ∷ scopes) x n e =
    ⊎_elim (λ t. Contains-append_left scope.variables (all_variables scopes) x (among_at scope.variables x t))
    (λ f. Contains-append_right scope.variables (all_variables scopes) x
    (below (λ k e. level_in_prefix scopes x k e) (level_of scopes x) refl
    (sym (cond-false (is_among x scope.variables) (Some 1) (option_map (λ k. k + 1) (level_of scopes x)) f) ∙ e)))
    (cases_Bool (is_among x scope.variables))
  where
    below : ((k : ℕ) → level_of scopes x ≡ Some k → Contains (all_variables scopes) x) → (o : Option ℕ)
        → level_of scopes x ≡ o → option_map (λ k. k + 1) o ≡ Some n → Contains (all_variables scopes) x
    below further None e f = absurd (cc)
    below further (Some k) e f = further k e

-- and the other way round
pub has_level : (scopes : List Scope) (x : ℕ) → Contains (all_variables scopes) x → is_some (level_of scopes x) ≡ true
has_level scopes x i = by_level (level_of scopes x) refl
  where
    by_level : (o : Option ℕ) → level_of scopes x ≡ o → is_some o ≡ true
    by_level None e = absurd (true≢false (sym (among_from (all_variables scopes) x i) ∙ level_none scopes x e))
    by_level (Some n) e = refl

counted_quantifier : (scopes : List Scope) (x : ℕ) → Contains (all_variables scopes) x
    → is_some (quant_from scopes x) ≡ true
counted_quantifier [] x i = absurd (contains_nil x i)
counted_quantifier (scope ∷ scopes) x i =
    ⊎_elim (λ t. ap is_some (quantifier_in scope scopes x t))
    (λ f. ap is_some (quantifier_past scope scopes x f) ∙ counted_quantifier scopes x
    (⊎_elim (λ j. absurd (true≢false (sym (among_from scope.variables x j) ∙ f))) (λ j. j)
    (Contains-append_cases scope.variables (all_variables scopes) x i)))
    (cases_Bool (is_among x scope.variables))

pub has_quantifier : (scopes : List Scope) (x : ℕ) → Contains (all_variables scopes) x
    → is_some (quantifier_of scopes x) ≡ true
has_quantifier scopes x i = ap is_some (quantifier_counted scopes x) ∙ counted_quantifier scopes x i

-- an assumed value comes from an assumption
pub assumption_of : (assumptions : List Literal) (x : ℕ) (b : Bool) → assumed_value assumptions x ≡ Some b
    → (literal : Literal) × Contains assumptions literal × (literal.variable ≡ x) × (literal.positive ≡ b)
assumption_of [] x b e = absurd (cc)
assumption_of (l ∷ ls) x b e =
    ⊎_elim (λ t. let f : Some l.positive ≡ Some b =
    sym (cond-true (nat_eq l.variable x) (Some l.positive) (assumed_value ls x) t) ∙ e in
    (l, contains_head l ls, eqb-true l.variable x t, (cc)))
    (λ n. let r = assumption_of ls x b (sym (cond-false (nat_eq l.variable x) (Some l.positive) (assumed_value ls x) n)
    ∙ e) in (r.0, contains_tail l ls r.0 r.1, r.2, r.3))
    (cases_Bool (nat_eq l.variable x))

pub outer_level : (scopes : List Scope) (assumptions : List Literal) → AreOuter scopes assumptions → (x : ℕ) (b : Bool)
    → assumed_value assumptions x ≡ Some b → Contains (all_variables scopes) x × (depth_of scopes x ≡ 1)
outer_level scopes assumptions outer x b e =
    let r = assumption_of assumptions x b e in
    let one : level_of scopes x ≡ Some 1 = rw r.2 at (outer r.0 r.1) in
    (level_in_prefix scopes x 1 one, first_depth scopes x one)

-- each bound variable of the prefix has its quantifier
bound_at : (q : Quant) (xs : List ℕ) (b : BoundVariable) → Contains (map (bound_by q) xs) b → Contains xs b.variable
    × (b.quantifier ≡ q)
bound_at q [] b i = absurd (contains_nil b i)
bound_at q (x ∷ xs) b i =
    ⊎_elim (λ e. (rw (← e) (contains_head x xs), ap (λ (c : BoundVariable). c.quantifier) (sym e)))
    (λ j. let r = bound_at q xs b j in (contains_tail x xs b.variable r.0, r.1))
    (contains_cons (bound_by q x) (map (bound_by q) xs) b i)

bound_in : (scopes : List Scope) (b : BoundVariable) → Contains (prefix_order scopes) b
    → Contains (all_variables scopes) b.variable
bound_in scopes b i = rw (variables_of-prefix_order scopes) at
    (contains_map_of (λ (x : BoundVariable). x.variable) (prefix_order scopes) b i)

bound_counted : (scopes : List Scope) → IsDistinct (all_variables scopes) → (b : BoundVariable)
    → Contains (prefix_order scopes) b → quant_from scopes b.variable ≡ Some b.quantifier
bound_counted [] d b i = absurd (contains_nil b i)
bound_counted (scope ∷ scopes) d b i =
    ⊎_elim
    (λ j. let r = bound_at scope.quantifier scope.variables b j in quantifier_in scope scopes b.variable
    (among_from scope.variables b.variable r.0) ∙ ap Some (sym r.1))
    (λ j.
    let k = bound_in scopes b j in
    quantifier_past scope scopes b.variable
    (⊎_elim (λ t. absurd (distinct_apart scope.variables (all_variables scopes) d b.variable
    (among_at scope.variables b.variable t) k)) (λ f. f) (cases_Bool (is_among b.variable scope.variables)))
    ∙ bound_counted scopes (distinct_right scope.variables (all_variables scopes) d) b j)
    (Contains-append_cases (map (bound_by scope.quantifier) scope.variables) (prefix_order scopes) b i)

pub bound_quantifier : (scopes : List Scope) → AreDistinct (all_variables scopes) → (b : BoundVariable)
    → Contains (prefix_order scopes) b → quantifier_of scopes b.variable ≡ Some b.quantifier
bound_quantifier scopes d b i = quantifier_counted scopes b.variable ∙ bound_counted scopes
    (distinct_from (all_variables scopes) d) b i

pub bound_among : (scopes : List Scope) (b : BoundVariable) → Contains (prefix_order scopes) b → is_among b.variable
    (all_variables scopes) ≡ true
bound_among scopes b i = among_from (all_variables scopes) b.variable (bound_in scopes b i)
