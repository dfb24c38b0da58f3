-- A clause as signed numbers (QDIMACS 1.1, input format: clause), and its row.
use Rattle.std.specs.Prelude.{ℕ, ℤ, pos, neg_ℤ, nat_abs, Bool, ◌==◌, nat_lt, if◌then◌else◌, List, [], ◌∷◌, map, Option, Some, None}
use Rattle.std.specs.List.{list_any}
use Rattle.std.specs.Ordering.{int_eq}
use Rattle.prefix.specs.Literal.{Literal}

-- without repeats, from the least to the greatest
abbrev pub put : ℕ → List ℕ → List ℕ
put n [] = n ∷ []
put n (m ∷ ms) = if nat_lt n m then n ∷ m ∷ ms else if n == m then m ∷ ms else m ∷ put n ms

abbrev pub ascending : List ℕ → List ℕ
ascending [] = []
ascending (n ∷ ns) = put n (ascending ns)

-- whether a literal stands in a clause
abbrev pub has_literal : ℤ → List ℤ → Bool
has_literal l clause = list_any (int_eq l) clause

-- whether a literal stands beside its negation
abbrev pub is_tautology : List ℤ → Bool
is_tautology clause = list_any (λ l. has_literal (neg_ℤ l) clause) clause

-- the variables of a clause, once each
abbrev pub variables_of : List ℤ → List ℕ
variables_of clause = ascending (map nat_abs clause)

-- The literals of a clause once each, ascending by variable. None stands beside its negation.
abbrev pub as_row : List ℤ → List Literal
as_row clause = map (λ v. record { variable = v; positive = has_literal (pos v) clause }) (variables_of clause)

-- the row of a clause that is no tautology
abbrev pub row_unless_tautology : List ℤ → Option (List Literal)
row_unless_tautology clause = if is_tautology clause then None else Some (as_row clause)
