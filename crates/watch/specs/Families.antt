-- The two families of lists that rows stand in.
use Rattle.std.specs.Prelude.{ℕ, nat_lt, if◌then◌else◌, List, Option}
use Rattle.watch.specs.declared.board.Family.{Family}
use Rattle.watch.specs.declared.board.Family.TheVariants.{First, Second}

-- the link field that has the name of a row's list in a family
abbrev pub base_of : Family → ℕ
base_of First = 0
base_of Second = 3

abbrev pub other_of : Family → Family
other_of First = Second
other_of Second = First

-- the lists of a family, by their first rows
abbrev pub lists_of : Family → List (Option ℕ) → List (Option ℕ) → List (Option ℕ)
lists_of First first second = first
lists_of Second first second = second

-- the family whose list is walked next, when the lists of so many literals were walked in each
abbrev pub turn_of : ℕ → ℕ → Family
turn_of ones twos = if nat_lt twos ones then Second else First
