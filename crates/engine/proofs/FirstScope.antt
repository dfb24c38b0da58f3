-- Values of the first scope's variables.
use Rattle.std.proofs.Common.{◌≡◌, ◌≤◌, ℕ, ◌+◌, Bool, true, false, ◌||◌, List, [], ◌∷◌, Option, Some, None, refl, sym, ap, ◌∙◌, arith, ⊎_elim}
use Rattle.std.specs.Prelude.{Contains, IfSome, ◌==◌, unwrap_or, option_map, if◌then◌else◌}
use Rattle.std.proofs.lemmas.Bool.{cond-true, cond-false, eqb-true}
use Rattle.prefix.specs.Literal.{Literal}
use Rattle.prefix.specs.Scopes.{Scope, is_among, level_of, variables_at}
use Rattle.prefix.proofs.ScopeLemmas.{level_positive}
use Rattle.truth.specs.Truth.{assumed_value}
use Rattle.calculus.specs.Plays.{literals_of}
use Rattle.calculus.specs.Rows.{Assignment}
use Rattle.calculus.proofs.Lists.{contains_cons, contains_head, contains_nil, contains_tail}

pub level_is : (o : Option ℕ) → (unwrap_or o 0 == 1) ≡ true → o ≡ Some 1
level_is None e = absurd (let f : false ≡ true = e in cc)
level_is (Some n) e = ap Some (eqb-true n 1 e)

not_next : (o : Option ℕ) → IfSome o (λ n. 1 ≤ n) → option_map (λ (n : ℕ). n + 1) o ≡ Some 1 → ⊥
not_next None least e = absurd (cc)
not_next (Some n) least e = absurd (let f : n + 1 ≡ 1 = cc in omega (arith, f, least))

pub first_among : (scopes : List Scope) (x : ℕ) → level_of scopes x ≡ Some 1
    → is_among x (variables_at scopes 1) ≡ true
first_among [] x e = absurd (cc)
first_among (s ∷ ss) x e = by (is_among x s.variables) refl
  where
    by : (b : Bool) → is_among x s.variables ≡ b → is_among x s.variables ≡ true
    by true t = t
    by false f = absurd (not_next (level_of ss x) (level_positive ss x)
        (sym (cond-false (is_among x s.variables) (Some 1) (option_map (λ (n : ℕ). n + 1) (level_of ss x)) f) ∙ e))

pub value_among : (values : Assignment) (xs : List ℕ) (x : ℕ) → is_among x xs ≡ true
    → assumed_value (literals_of values xs) x ≡ Some (values x)
value_among values [] x e = absurd (cc)
value_among values (y ∷ ys) x e = by (y == x) refl (value_among values ys x)
  where
    by : (b : Bool) → (y == x) ≡ b
        → (is_among x ys ≡ true → assumed_value (literals_of values ys) x ≡ Some (values x))
        → (if y == x then Some (values y) else assumed_value (literals_of values ys) x) ≡ Some (values x)
    by true t rest = cond-true (y == x) (Some (values y)) (assumed_value (literals_of values ys) x) t
        ∙ ap (λ z. Some (values z)) (eqb-true y x t)
    by false f rest = cond-false (y == x) (Some (values y)) (assumed_value (literals_of values ys) x) f
        ∙ rest (sym (ap (λ b. b || is_among x ys) f) ∙ e)

-- a literal of the list is that of one of the variables
pub literal_among : (values : Assignment) (xs : List ℕ) (l : Literal) → Contains (literals_of values xs) l
    → (x : ℕ) × Contains xs x × (record { variable = x; positive = values x } ≡ l)
literal_among values [] l i = absurd (contains_nil l i)
literal_among values (y ∷ ys) l i = ⊎_elim
    (λ e. (y, contains_head y ys, e))
    (λ j. let r = literal_among values ys l j in (r.0, contains_tail y ys r.0 r.1, r.2))
    (contains_cons (record { variable = y; positive = values y }) (literals_of values ys) l i)
