-- Worked values: lists of small and of great numbers.
use Rattle.std.specs.Prelude.{◌≡◌, List, [], ◌∷◌, ℕ, Option, None, Some}
use Rattle.short_numbers.specs.Kept.{number_of, numbers_of}
use Rattle.short_numbers.specs.Lists.{last_moved}

pub record WorkedNumbers : Type 0 where
  -- a small number stands for itself, whatever stands beside it; the greatest one that does
  pub small : number_of 7 9 ≡ Some 7
  pub greatest : number_of 4294967293 0 ≡ Some 4294967293
  -- the two that stand for something else
  pub long : number_of 4294967294 8589934592 ≡ Some 8589934592
  pub none : number_of 4294967295 9 ≡ None
  -- without long numbers, with all of them, and with some
  pub shorts : numbers_of (3 ∷ 4294967295 ∷ 0 ∷ []) [] ≡ Some 3 ∷ None ∷ Some 0 ∷ []
  pub all : numbers_of (4294967294 ∷ 5 ∷ []) (4294967296 ∷ 1 ∷ []) ≡ Some 4294967296 ∷ Some 5 ∷ []
  pub some : numbers_of (4294967294 ∷ 4294967294 ∷ []) (4294967295 ∷ []) ≡ Some 4294967295 ∷ Some 0 ∷ []

abbrev pub six : List (Option ℕ)
six = Some 1 ∷ Some 2 ∷ Some 3 ∷ None ∷ Some 5 ∷ Some 6 ∷ []

pub record WorkedMoves : Type 0 where
  -- the last two in the place of the first two, and of the two behind them
  pub front : last_moved 0 2 six ≡ Some 5 ∷ Some 6 ∷ Some 3 ∷ None ∷ []
  pub middle : last_moved 2 2 six ≡ Some 1 ∷ Some 2 ∷ Some 5 ∷ Some 6 ∷ []
  -- in their own place: they go
  pub last : last_moved 4 2 six ≡ Some 1 ∷ Some 2 ∷ Some 3 ∷ None ∷ []
