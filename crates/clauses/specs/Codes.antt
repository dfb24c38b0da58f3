-- The numbers that stand for literals while a row is built.
use Rattle.std.specs.Prelude.{ℕ, ◌≤◌, ◌+◌, ◌*◌, ◌/◌, ◌%◌, ℤ, pos, negsuc, nat_abs, Bool, false, ◌||◌, ◌==◌, List, [], ◌∷◌, map}
use Rattle.prefix.specs.Literal.{Literal}

-- a number whose variable is from 1 to 1048576
abbrev pub IsInRange : ℤ → Type 0
IsInRange n = (1 ≤ nat_abs n) × (nat_abs n ≤ 1048576)

-- twice the variable, and one more where the literal is positive
abbrev pub code_of : ℤ → ℕ
code_of (pos n) = 2 * n + 1
code_of (negsuc n) = 2 * (n + 1)

abbrev pub codes_of : List ℤ → List ℕ
codes_of clause = map code_of clause

-- the literal that a code stands for
abbrev pub literal_of : ℕ → Literal
literal_of c = record { variable = c / 2; positive = c % 2 == 1 }

-- whether neighbours have the same variable
abbrev pub has_pair : List ℕ → Bool
has_pair [] = false
has_pair (c ∷ []) = false
has_pair (c ∷ d ∷ rest) = (c / 2 == d / 2) || has_pair (d ∷ rest)
