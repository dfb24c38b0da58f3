-- Ascending rows, seen as pairs of literals.
use Rattle.std.proofs.Common.{ℕ, ◌<◌, List, [], ◌∷◌, Contains, AllPairs, ⊎_elim}
use Rattle.std.specs.List.{AllByRecursion}
use Rattle.prefix.specs.Literal.{Literal}
use Rattle.prefix.specs.Scopes.{Scope, all_variables, IsAscending}
use Rattle.calculus.specs.Rows.{Row, IsRow, variables_in}
use Rattle.calculus.proofs.Lists.{contains_cons, contains_nil, contains_head, contains_tail, pairs_nil, pairs_cons, pairs_head, pairs_tail}

abbrev pub Below : Literal → Literal → Type 0
Below a b = a.variable < b.variable

abbrev pub IsAscendingRow : Row → Type 0
IsAscendingRow row = AllPairs (λ a b. a.variable < b.variable) row

all_above : (x : ℕ) (ls : Row) → AllByRecursion (λ y. x < y) (variables_in ls) → (m : Literal) → Contains ls m
    → x < m.variable
all_above x [] a m i = absurd (contains_nil m i)
all_above x (l ∷ ls) a m i = ⊎_elim (λ e. rw (← e) a.0) (λ j. all_above x ls a.1 m j) (contains_cons l ls m i)

above_all : (x : ℕ) (ls : Row) → ((m : Literal) → Contains ls m → x < m.variable) → AllByRecursion (λ y. x < y)
    (variables_in ls)
above_all x [] a = tt
above_all x (l ∷ ls) a = (a l (contains_head l ls), above_all x ls (λ m i. a m (contains_tail l ls m i)))

pub pairs_from : (row : Row) → IsAscending (variables_in row) → IsAscendingRow row
pairs_from [] a = pairs_nil Below
pairs_from (l ∷ ls) a = pairs_cons Below l ls (all_above l.variable ls a.0) (pairs_from ls a.1)

pub pairs_to : (row : Row) → IsAscendingRow row → IsAscending (variables_in row)
pairs_to [] a = tt
pairs_to (l ∷ ls) a = (above_all l.variable ls (pairs_head Below l ls a), pairs_to ls (pairs_tail Below l ls a))

pub rises : {scopes : List Scope} {row : Row} → IsRow scopes row → IsAscendingRow row
rises {scopes} {row} is_row = pairs_from row is_row.ascending

pub row_of : (scopes : List Scope) (row : Row) → IsAscendingRow row
    → ((l : Literal) → Contains row l → Contains (all_variables scopes) l.variable) → IsRow scopes row
row_of scopes row up over = record { ascending = pairs_to row up; over_prefix = over }
