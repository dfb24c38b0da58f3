-- Assumptions and their signs.
use Rattle.std.proofs.Common.{◌≡◌, ◌≢◌, ℕ, ◌<◌, ◌≤◌, Bool, true, false, List, [], ◌∷◌, Some, None, refl, sym, ap, subst, not, ◌∙◌, arith}
use Rattle.std.specs.Prelude.{◌==◌, nat_lt, if◌then◌else◌}
use Rattle.std.specs.List.{AllByRecursion}
use Rattle.std.proofs.lemmas.Bool.{eqb-true, eqb-false, ne_eqb, ltb-false, lt-ltb, le-ltb}
use Rattle.std.proofs.lemmas.Bool.Decides.{nat_tests}
use Rattle.prefix.specs.Literal.{Literal}
use Rattle.prefix.specs.Scopes.{Scope, level_of, IsAscending}
use Rattle.truth.specs.Truth.{assumed_value}
use Rattle.calculus.specs.Rows.{variables_in, without}
use Rattle.frames.specs.State.{put_assumption}
use Rattle.frames.specs.Kept.{literals_of}
use Rattle.std.specs.BTreeMap.{insert_entry, is_at}
use Rattle.std.specs.Map.{lookup, remove_entry}
use Rattle.std.specs.Ordering.{nat_cmp, match_ordering, is_eq}
use Rattle.std.proofs.Common.{eq-eqb, Less, Equal, Greater}

skip_value : (ls : List Literal) (l : Literal) (v : ℕ) → (l.variable == v) ≡ false → assumed_value (l ∷ ls) v
    ≡ assumed_value ls v
skip_value ls l v e = ap (λ t. if t then Some l.positive else assumed_value ls v) e

-- the list

value_head : (l : Literal) (ls : List Literal) (v : ℕ) → assumed_value (l ∷ ls) v ≡ None
    → (l.variable ≢ v) × (assumed_value ls v ≡ None)
value_head l ls v e = by (l.variable == v) refl e
  where
    by : (t : Bool) → (l.variable == v) ≡ t → (if t then Some l.positive else assumed_value ls v) ≡ None
        → (l.variable ≢ v) × (assumed_value ls v ≡ None)
    by true f g = absurd (cc)
    by false f g = (eqb-false l.variable v f, g)

put_low : (l m : Literal) (ms : List Literal) → l.variable < m.variable → put_assumption l (m ∷ ms) ≡ l ∷ m ∷ ms
put_low l m ms h = ap (λ t. if t then l ∷ m ∷ ms else if l.variable ==
    m.variable then m ∷ ms else m ∷ put_assumption l ms) (lt-ltb l.variable m.variable h)

put_high : (l m : Literal) (ms : List Literal) → m.variable < l.variable → put_assumption l (m ∷ ms)
    ≡ m ∷ put_assumption l ms
put_high l m ms h =
    ap (λ t. if t then l ∷ m ∷ ms else if l.variable == m.variable then m ∷ ms else m ∷ put_assumption l ms)
    (le-ltb l.variable m.variable (omega (arith, h)))
    ∙ ap (λ t. if t then m ∷ ms else m ∷ put_assumption l ms)
    (ne_eqb l.variable m.variable (λ q. omega (arith, h, q)))

-- an entry put in among the signs is its literal put in among the literals
pub put_entry : (signs : List (ℕ × Bool)) (l : Literal) → assumed_value (literals_of signs) l.variable ≡ None
    → literals_of (insert_entry nat_cmp signs l.variable l.positive) ≡ put_assumption l (literals_of signs)
put_entry [] l free = refl
put_entry (s ∷ rest) l free = by (nat_lt l.variable s.0) (l.variable == s.0) refl (put_entry rest l parts.1)
  where
    parts : (s.0 ≢ l.variable) × (assumed_value (literals_of rest) l.variable ≡ None)
    parts = value_head (record { variable = s.0; positive = s.1 }) (literals_of rest) l.variable free

    by : (low same : Bool) → (l.variable == s.0) ≡ same
        → literals_of (insert_entry nat_cmp rest l.variable l.positive) ≡ put_assumption l (literals_of rest)
        → literals_of (match_ordering (if low then Less else if same then Equal else Greater)
        ((l.variable, l.positive) ∷ s ∷ rest) ((s.0, l.positive) ∷ rest)
        (s ∷ insert_entry nat_cmp rest l.variable l.positive))
        ≡ (if low then l ∷ literals_of (s ∷ rest) else if same then literals_of (s ∷ rest) else record
        { variable = s.0; positive = s.1 } ∷ put_assumption l (literals_of rest))
    by true same e more = refl
    by false true e more = absurd (parts.0 (sym (eqb-true l.variable s.0 e)))
    by false false e more = ap (λ ms. record { variable = s.0; positive = s.1 } ∷ ms) more

-- a key is found where it is
at_is : (v k : ℕ) → is_at (nat_cmp v) k ≡ (k == v)
at_is v k = by (nat_lt v k) (v == k) refl refl
  where
    by : (low same : Bool) → nat_lt v k ≡ low → (v == k) ≡ same
        → is_eq (if low then Less else if same then Equal else Greater) ≡ (k == v)
    by true same e f = let low : v < k = grind (arith, nat_tests, e) in sym (ne_eqb k v (λ q. omega (arith, low, q)))
    by false true e f = let is : v ≡ k = eqb-true v k f in sym (eq-eqb k v (sym is))
    by false false e f = sym (ne_eqb k v (λ q. eqb-false v k f (sym q)))

-- what is found among the signs
pub sign_found : (signs : List (ℕ × Bool)) (v : ℕ) → lookup (is_at (nat_cmp v)) signs
    ≡ assumed_value (literals_of signs) v
sign_found [] v = refl
sign_found (s ∷ rest) v =
    ap (λ t. if t then Some s.1 else lookup (is_at (nat_cmp v)) rest) (at_is v s.0)
    ∙ ap (λ o. if s.0 == v then Some s.1 else o) (sign_found rest v)

-- a literal taken out

without_above : (v : ℕ) (ls : List Literal) → AllByRecursion (λ y. v < y) (variables_in ls) → without v ls ≡ ls
without_above v [] all = refl
without_above v (l ∷ ls) all =
    let high : v < l.variable = all.0 in
    let other : (l.variable == v) ≡ false = ne_eqb l.variable v (λ q. omega (arith, high, q)) in
    ap (λ b. if not b then l ∷ without v ls else without v ls) other ∙ ap (λ ms. l ∷ ms) (without_above v ls all.1)

-- an entry taken out of the signs is its literal taken out of the literals
pub entry_removed : (signs : List (ℕ × Bool)) (v : ℕ) → IsAscending (variables_in (literals_of signs))
    → literals_of (remove_entry (is_at (nat_cmp v)) signs) ≡ without v (literals_of signs)
entry_removed [] v a = refl
entry_removed (s ∷ rest) v a =
    ap (λ b. literals_of (if b then rest else s ∷ remove_entry (is_at (nat_cmp v)) rest)) (at_is v s.0)
    ∙ by (s.0 == v) refl (entry_removed rest v a.1)
  where
    by : (b : Bool) → (s.0 == v) ≡ b → literals_of (remove_entry (is_at (nat_cmp v)) rest)
        ≡ without v (literals_of rest)
        → literals_of (if b then rest else s ∷ remove_entry (is_at (nat_cmp v)) rest)
        ≡ (if not b then record { variable = s.0; positive = s.1 } ∷ without v (literals_of rest) else without v
        (literals_of rest))
    by true e more = sym (without_above v (literals_of rest)
        (subst (λ u. AllByRecursion (λ y. u < y) (variables_in (literals_of rest))) (eqb-true s.0 v e) a.0))
    by false e more = ap (λ ms. record { variable = s.0; positive = s.1 } ∷ ms) more

without_all : (P : ℕ → Type 0) (v : ℕ) (ls : List Literal) → AllByRecursion P (variables_in ls)
    → AllByRecursion P (variables_in (without v ls))
without_all P v [] all = tt
without_all P v (l ∷ ls) all = by (l.variable == v) (without_all P v ls all.1)
  where
    by : (b : Bool) → AllByRecursion P (variables_in (without v ls))
        → AllByRecursion P (variables_in (if not b then l ∷ without v ls else without v ls))
    by true rest = rest
    by false rest = (all.0, rest)

pub without_ascends : (v : ℕ) (ls : List Literal) → IsAscending (variables_in ls)
    → IsAscending (variables_in (without v ls))
without_ascends v [] a = tt
without_ascends v (l ∷ ls) a = by (l.variable == v) (without_ascends v ls a.1)
  where
    by : (b : Bool) → IsAscending (variables_in (without v ls))
        → IsAscending (variables_in (if not b then l ∷ without v ls else without v ls))
    by true rest = rest
    by false rest = (without_all (λ y. l.variable < y) v ls a.0, rest)

-- cases of where a literal that isn't there goes
put_all : (P : ℕ → Type 0) (l : Literal) (ms : List Literal) → P l.variable → AllByRecursion P (variables_in ms)
    → AllByRecursion P (variables_in (put_assumption l ms))
put_all P l [] p all = (p, tt)
put_all P l (m ∷ ms) p all = by (nat_lt l.variable m.variable) (l.variable == m.variable) (put_all P l ms p all.1)
  where
    by : (s t : Bool) → AllByRecursion P (variables_in (put_assumption l ms))
        → AllByRecursion P (variables_in (if s then l ∷ m ∷ ms else if t then m ∷ ms else m ∷ put_assumption l ms))
    by true t rest = (p, all)
    by false true rest = all
    by false false rest = (all.0, rest)

pub put_ascends : (l : Literal) (ms : List Literal) → IsAscending (variables_in ms)
    → IsAscending (variables_in (put_assumption l ms))
put_ascends l [] a = (tt, tt)
put_ascends l (m ∷ ms) a = by (nat_lt l.variable m.variable) (l.variable == m.variable) refl refl
    (put_ascends l ms a.1)
  where
    above : (ns : List Literal) → l.variable < m.variable → AllByRecursion (λ y. m.variable < y) (variables_in ns)
        → AllByRecursion (λ y. l.variable < y) (variables_in ns)
    above [] low all = tt
    above (n ∷ ns) low all = (let h : m.variable < n.variable = all.0 in omega (arith, low, h), above ns low all.1)

    by : (s t : Bool) → nat_lt l.variable m.variable ≡ s → (l.variable == m.variable) ≡ t
        → IsAscending (variables_in (put_assumption l ms))
        → IsAscending (variables_in (if s then l ∷ m ∷ ms else if t then m ∷ ms else m ∷ put_assumption l ms))
    by true t e f rest = let low : l.variable < m.variable =
        grind (arith, nat_tests, e) in ((low, above ms low a.0), a)
    by false true e f rest = a
    by false false e f rest =
        let other : l.variable ≢ m.variable = eqb-false l.variable m.variable f in
        let least : m.variable ≤ l.variable = ltb-false l.variable m.variable e in
        (put_all (λ y. m.variable < y) l ms (omega (arith, other, least)) a.0, rest)

pub put_outer : (scopes : List Scope) (l : Literal) (ms : List Literal) → level_of scopes l.variable ≡ Some 1
    → AllByRecursion (λ (m : Literal). level_of scopes m.variable ≡ Some 1) ms
    → AllByRecursion (λ (m : Literal). level_of scopes m.variable ≡ Some 1) (put_assumption l ms)
put_outer scopes l [] p all = (p, tt)
put_outer scopes l (m ∷ ms) p all = by (nat_lt l.variable m.variable) (l.variable == m.variable)
    (put_outer scopes l ms p all.1)
  where
    by : (s t : Bool) → AllByRecursion (λ (m : Literal). level_of scopes m.variable ≡ Some 1) (put_assumption l ms)
        → AllByRecursion (λ (m : Literal). level_of scopes m.variable ≡ Some 1)
        (if s then l ∷ m ∷ ms else if t then m ∷ ms else m ∷ put_assumption l ms)
    by true t rest = (p, all)
    by false true rest = all
    by false false rest = (all.0, rest)

none_above : (l : ℕ) (ms : List Literal) → AllByRecursion (λ y. l < y) (variables_in ms) → assumed_value ms l ≡ None
none_above l [] all = refl
none_above l (m ∷ ms) all =
    let h : l < m.variable = all.0 in
    skip_value ms m l (ne_eqb m.variable l (λ q. omega (arith, h, q))) ∙ none_above l ms all.1

-- a literal over an assumed variable is not put in again
pub put_again : (l : Literal) (ms : List Literal) (b : Bool) → IsAscending (variables_in ms)
    → assumed_value ms l.variable ≡ Some b → put_assumption l ms ≡ ms
put_again l [] b a e = absurd (cc)
put_again l (m ∷ ms) b a e = by (nat_lt l.variable m.variable) (l.variable == m.variable) refl refl
    (λ f. put_again l ms b a.1 f)
  where
    above : (ns : List Literal) → l.variable < m.variable → AllByRecursion (λ y. m.variable < y) (variables_in ns)
        → AllByRecursion (λ y. l.variable < y) (variables_in ns)
    above [] low all = tt
    above (n ∷ ns) low all = (let h : m.variable < n.variable = all.0 in omega (arith, low, h), above ns low all.1)

    by : (s t : Bool) → nat_lt l.variable m.variable ≡ s → (l.variable == m.variable) ≡ t
        → (assumed_value ms l.variable ≡ Some b → put_assumption l ms ≡ ms)
        → (if s then l ∷ m ∷ ms else if t then m ∷ ms else m ∷ put_assumption l ms) ≡ m ∷ ms
    by true t f g rest =
        let low : l.variable < m.variable = grind (arith, nat_tests, f) in
        let none : assumed_value (m ∷ ms) l.variable
        ≡ None = none_above l.variable (m ∷ ms) (low, above ms low a.0) in
        absurd (let clash : Some b ≡ None = sym e ∙ none in cc)
    by false true f g rest = refl
    by false false f g rest = ap (λ x. m ∷ x) (rest
        (sym (skip_value ms m l.variable (ne_eqb m.variable l.variable
        (λ q. eqb-false l.variable m.variable g (sym q)))) ∙ e))
