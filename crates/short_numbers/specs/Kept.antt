-- Numbers as they are kept.
use Rattle.std.specs.Prelude.{ℕ, ◌==◌, if◌then◌else◌, List, [], ◌∷◌, Option, Some, None}

-- what stands in 32 bits for no number
abbrev pub for_none : ℕ
for_none = 4294967295

-- what stands there for a number that stands elsewhere, since it takes more
abbrev pub for_long : ℕ
for_long = 4294967294

-- what a short number stands for, beside the long one of the same place
abbrev pub number_of : ℕ → ℕ → Option ℕ
number_of short long = if short == for_none then None else (if short == for_long then Some long else Some short)

-- what short numbers stand for, beside the long ones of the same places, which are 0 where there are no more of them
abbrev pub numbers_of : List ℕ → List ℕ → List (Option ℕ)
numbers_of [] longs = []
numbers_of (short ∷ shorts) [] = number_of short 0 ∷ numbers_of shorts []
numbers_of (short ∷ shorts) (long ∷ longs) = number_of short long ∷ numbers_of shorts longs
