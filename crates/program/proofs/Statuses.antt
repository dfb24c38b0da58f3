-- Which statuses are which.
use Rattle.std.proofs.Common.{◌≡◌, ℕ, zero, suc, Bool, true, false, List, [], ◌∷◌, Contains, refl, sym, subst, arith}
use Rattle.std.specs.Prelude.{◌==◌, ◌||◌}
use Rattle.std.specs.List.{list_any}
use Rattle.std.proofs.lemmas.Bool.Decides.{nat_tests}
use Rattle.solve.specs.declared.answer.Answer.TheVariants.{Sat, Unsat, Unknown}
use Rattle.files.specs.Solve.{HasAnswer}

-- the statuses of answers
abbrev pub answers : List ℕ
answers = 10 ∷ 20 ∷ 0 ∷ []

-- one of these is the number
abbrev pub is_among : List ℕ → ℕ → Bool
is_among xs n = list_any (λ x. x == n) xs

not_here : (x n : ℕ) (rest : Bool) → ((x == n) || rest) ≡ false → x ≡ n → ⊥
not_here x n rest none is = by (x == n) refl none
  where
    by : (t : Bool) → (x == n) ≡ t → (t || rest) ≡ false → ⊥
    by true e none = absurd (cc)
    by false e none = grind (arith, nat_tests, e, is)

not_behind : (first rest : Bool) → (first || rest) ≡ false → rest ≡ false
not_behind true rest none = absurd (cc)
not_behind false rest none = none

-- a number that is none of these is none of these
pub absent : {A : Type 0} (xs : List ℕ) (n : ℕ) → is_among xs n ≡ false → Contains xs n → A
absent [] n none (i, low, is) = absurd (omega (arith, low))
absent (x ∷ xs) n none (zero, low, is) = absurd (not_here x n (is_among xs n) none is)
absent (x ∷ xs) n none (suc i, low, is) =
    absent xs n (not_behind (x == n) (is_among xs n) none) (i, omega (arith, low), is)

-- no answer has such a status
pub no_answer : {A : Type 0} (n : ℕ) → is_among answers n ≡ false → HasAnswer n → A
no_answer n none (Sat, e) = absent answers n none (0, omega arith, sym e)
no_answer n none (Unsat, e) = absent answers n none (1, omega arith, sym e)
no_answer n none (Unknown, e) = absent answers n none (2, omega arith, sym e)

-- so the status of an answer isn't such a status
pub is_answer : {A : Type 0} (s n : ℕ) → is_among answers n ≡ false → HasAnswer s → s ≡ n → A
is_answer s n none has is = no_answer n none (subst HasAnswer is has)

-- and none of these, if they are no answer's
pub answer_absent : {A : Type 0} (xs : List ℕ) (s : ℕ) → is_among xs 10 ≡ false → is_among xs 20 ≡ false
    → is_among xs 0 ≡ false → HasAnswer s → Contains xs s → A
answer_absent xs s a b c (Sat, e) h = absent xs 10 a (subst (Contains xs) e h)
answer_absent xs s a b c (Unsat, e) h = absent xs 20 b (subst (Contains xs) e h)
answer_absent xs s a b c (Unknown, e) h = absent xs 0 c (subst (Contains xs) e h)
