-- Lists of numbers or none, as contracts see them.
use Rattle.std.specs.Prelude.{ℕ, ◌+◌, ◌-◌, List, ◌++◌, length, take, drop, Option}

-- a list of numbers or none, and how long it may be without more memory
pub record NumbersState : Type 0 where
  pub items : List (Option ℕ)
  pub room : ℕ

-- the list whose last numbers, so many, have come into the place of as many from one place on
abbrev pub last_moved : ℕ → ℕ → List (Option ℕ) → List (Option ℕ)
last_moved to count items =
    take (length items - count) (take to items ++ (drop (length items - count) items ++ drop (to + count) items))
